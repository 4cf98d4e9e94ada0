use Rattle.std.proofs.Common.{◌≡◌, ℕ, ◌-◌, ◌≤◌, List, [], ◌∷◌, ◌++◌, length, take, drop, set, Ok, Err, Result, refl, sym, ap, ◌∙◌, append-nil, arith, length-take, length-drop, length-set}
use borrow.Rule.Slice.PartMut.{put_mid}
use Rattle.std.proofs.lemmas.List.{at_drop_all}
use Rattle.shared.specs.Forms.{and_then, lead, times_at}
use Rattle.shared.specs.Notice.{small, gap}
use Rattle.shared_notice.specs.Walks.{beside}
use Rattle.shared_notice.proofs.Walks.{then_at}
use Rattle.shared_notice.proofs.setting.read_numbers.Goals as goal

beside-cons : {E : Type 0} (x : ℕ) (ys : List ℕ) (r : Result ℕ E) → and_then (beside ys r) (λ y. Ok (x ∷ y.0, y.1)) ≡ beside (x ∷ ys) r
beside-cons x ys (Ok to) = refl
beside-cons x ys (Err d) = refl

-- the first number is written, and then all others
filled : (values ys : List ℕ) (x : ℕ) → 1 ≤ length values → put_mid 1 (length (set values 0 x) - 1) (set values 0 x) ys ≡ x ∷ ys
filled [] ys x h = absurd (omega arith)
filled (v ∷ vs) ys x h = ap (λ l. x ∷ (ys ++ l)) (at_drop_all (λ l. l) vs (length (x ∷ vs) - 1) (omega arith)) ∙ ap (λ l. x ∷ l) (append-nil ys)

others : (values : List ℕ) (x : ℕ) → length (take (length (set values 0 x) - 1) (drop 1 (set values 0 x))) ≡ length values - 1
others values x = simp (length-take, length-drop, length-set) (omega arith)

pub returns : goal.returns
returns c =
    let text = c.args.text.now in
    let first = c.in_ok-first.first in
    let next = c.read_next_numbers in
    ap (λ l. beside l next.result) (filled c.args.values.now next.new.values first c.requires)
    ∙ sym (beside-cons first next.new.values next.result)
    ∙ ap (λ z. and_then z (λ y. Ok (first ∷ y.0, y.1))) (next.ensures ∙ ap (λ n. times_at n (lead gap small) text c.in_ok-first.at) (others c.args.values.now first))
    ∙ sym (then_at _ _ _ (sym c.read_small.ensures ∙ c.in_ok-first.was))
