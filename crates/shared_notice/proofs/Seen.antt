-- What a pass sees of forms one after the other.
use Rattle.std.proofs.Common.{◌≡◌, ℕ, suc, List, ◌∷◌, ◌++◌, Ok, Err, fold, Result, sym, refl, ap, ◌∙◌}
use Rattle.shared.specs.declared.refusal.Fault.{Fault}
use Rattle.shared.specs.Forms.{Form, and_then, times_at}
use Rattle.shared.specs.Notice.{Step}
use Rattle.std.proofs.lemmas.List.Sums.{fold-append}
use Rattle.shared_text.specs.Events.{Event, step_events, events_of}
use Rattle.shared_notice.specs.Walks.{beside, walked}

-- a walk that went on from where another ended
pub walk-on : {V W : Type 0} (v : V) (r : Result ℕ Fault) (q : Result (V × ℕ) Fault) (f : V × ℕ → Result W Fault) (to : ℕ) → beside v r ≡ q → r ≡ Ok to → and_then q f ≡ f (v, to)
walk-on v r q f to e w = ap (λ z. and_then z f) (sym e ∙ ap (beside v) w)

pub walk-stops : {V W : Type 0} (v : V) (r : Result ℕ Fault) (q : Result (V × ℕ) Fault) (f : V × ℕ → Result W Fault) (d : Fault) → beside v r ≡ q → r ≡ Err d → and_then q f ≡ Err d
walk-stops v r q f d e w = ap (λ z. and_then z f) (sym e ∙ ap (beside v) w)

pub then_assoc : {X Y Z E : Type 0} (r : Result X E) (f : X → Result Y E) (g : Y → Result Z E) → and_then (and_then r f) g ≡ and_then r (λ x. and_then (f x) g)
then_assoc (Ok x) f g = refl
then_assoc (Err d) f g = refl

module _ {V : Type 0} (after : V → Event → V) (v : V) where
  pub walked_same : {X : Type 0} (es fs : X → List Event) → ((x : X) → es x ≡ fs x) → (r : Result (X × ℕ) Fault) → walked after es v r ≡ walked after fs v r
  walked_same es fs e (Ok x) = ap (λ l. Ok (fold after v l, x.1)) (e x.0)
  walked_same es fs e (Err d) = refl

  pub walked_as : {X Y : Type 0} (es : Y → List Event) (f : X → Y) (r : Result (X × ℕ) Fault) → walked after es v (and_then r (λ x. Ok (f x.0, x.1))) ≡ walked after (λ x. es (f x)) v r
  walked_as es f (Ok x) = refl
  walked_as es f (Err d) = refl

  pub walked-pair : {X Y : Type 0} (es : X → List Event) (fs : Y → List Event) (r : Result (X × ℕ) Fault) (s : ℕ → Result (Y × ℕ) Fault) → walked after (λ (x : X × Y). es x.0 ++ fs x.1) v (and_then r (λ x. and_then (s x.1) (λ y. Ok ((x.0, y.0), y.1)))) ≡ and_then (walked after es v r) (λ x. walked after fs x.0 (s x.1))
  walked-pair {X} {Y} es fs (Ok x) s = second (s x.1)
    where
      second : (q : Result (Y × ℕ) Fault) → walked after (λ (x : X × Y). es x.0 ++ fs x.1) v (and_then q (λ y. Ok ((x.0, y.0), y.1))) ≡ walked after fs (fold after v (es x.0)) q
      second (Ok y) = ap (λ w. Ok (w, y.1)) (fold-append after v (es x.0) (fs y.0))
      second (Err d) = refl
  walked-pair es fs (Err d) s = refl

  pub walked-trail : {X : Type 0} (es : X → List Event) (more : List Event) (r : Result (X × ℕ) Fault) (s : ℕ → Result ℕ Fault) → walked after (λ x. es x ++ more) v (and_then r (λ x. and_then (s x.1) (λ p. Ok (x.0, p)))) ≡ and_then (walked after es v r) (λ x. beside (fold after x.0 more) (s x.1))
  walked-trail {X} es more (Ok x) s = second (s x.1)
    where
      second : (q : Result ℕ Fault) → walked after (λ x. es x ++ more) v (and_then q (λ p. Ok (x.0, p))) ≡ beside (fold after (fold after v (es x.0)) more) q
      second (Ok p) = ap (λ w. Ok (w, p)) (fold-append after v (es x.0) more)
      second (Err d) = refl
  walked-trail es more (Err d) s = refl

  -- the first of the steps that are left
  pub walked-first : (form : Form Step) (text : List ℕ) (at k j : ℕ) → k ≡ suc j → walked after events_of v (times_at k form text at) ≡ and_then (walked after step_events v (form.reads text at)) (λ x. walked after events_of x.0 (times_at j form text x.1))
  walked-first form text at k j e = ap (λ n. walked after events_of v (times_at n form text at)) e ∙ first (form.reads text at)
    where
      others : (x : Step) (q : Result (List Step × ℕ) Fault) → walked after events_of v (and_then q (λ y. Ok (x ∷ y.0, y.1))) ≡ walked after events_of (fold after v (step_events x)) q
      others x (Ok y) = ap (λ w. Ok (w, y.1)) (fold-append after v (step_events x) (events_of y.0))
      others x (Err d) = refl

      first : (r : Result (Step × ℕ) Fault) → walked after events_of v (and_then r (λ x. and_then (times_at j form text x.1) (λ y. Ok (x.0 ∷ y.0, y.1)))) ≡ and_then (walked after step_events v r) (λ x. walked after events_of x.0 (times_at j form text x.1))
      first (Ok x) = others x.0 (times_at j form text x.1)
      first (Err d) = refl
