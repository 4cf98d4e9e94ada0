-- Values of a form, one right after the other, as a loop reads them.
use Rattle.std.proofs.Common.{◌≡◌, ℕ, suc, List, [], ◌∷◌, Ok, Err, Result, refl, ap, ◌∙◌}
use Rattle.shared.specs.declared.refusal.Fault.{Fault}
use Rattle.shared.specs.Forms.{Form, and_then, times_at}
use Rattle.shared_notice.specs.Walks.{mapped}

pub then_at : {X Y E : Type 0} (r q : Result X E) (f : X → Result Y E) → r ≡ q → and_then r f ≡ and_then q f
then_at r q f e = ap (λ z. and_then z f) e

pub mapped-cons : {X Y E : Type 0} (g h : List X → Y) (x : X) → ((ys : List X) → g (x ∷ ys) ≡ h ys) → (r : Result (List X × ℕ) E) → mapped g (and_then r (λ y. Ok (x ∷ y.0, y.1))) ≡ mapped h r
mapped-cons g h x e (Ok y) = ap (λ z. Ok (z, y.1)) (e y.0)
mapped-cons g h x e (Err d) = refl

-- what is left of k values: `g` takes those that are still to come
module _ {X Y : Type 0} (s : Form X) (text : List ℕ) (g : List X → Y) (at k : ℕ) where
  pub times_more : (h : List X → Y) (j to : ℕ) (x : X) → k ≡ suc j → s.reads text at ≡ Ok (x, to) → ((ys : List X) → g (x ∷ ys) ≡ h ys) → mapped g (times_at k s text at) ≡ mapped h (times_at j s text to)
  times_more h j to x e r step =
      ap (λ n. mapped g (times_at n s text at)) e
      ∙ ap (mapped g) (then_at (s.reads text at) (Ok (x, to)) (λ z. and_then (times_at j s text z.1) (λ y. Ok (z.0 ∷ y.0, y.1))) r)
      ∙ mapped-cons g h x step (times_at j s text to)

  pub times-stops : (j : ℕ) (d : Fault) → k ≡ suc j → s.reads text at ≡ Err d → mapped g (times_at k s text at) ≡ Err d
  times-stops j d e r =
      ap (λ n. mapped g (times_at n s text at)) e
      ∙ ap (mapped g) (then_at (s.reads text at) (Err d) (λ z. and_then (times_at j s text z.1) (λ y. Ok (z.0 ∷ y.0, y.1))) r)

  pub times-done : k ≡ 0 → mapped g (times_at k s text at) ≡ Ok (g [], at)
  times-done e = ap (λ n. mapped g (times_at n s text at)) e
