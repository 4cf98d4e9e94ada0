use Rattle.std.proofs.Common.{◌≡◌, ℕ, ◌+◌, ◌-◌, ◌<◌, List, [], ◌∷◌, ◌++◌, length, take, set, sym, ap, ◌∙◌, add-one, arith, length-set, take-suc-set}
use Rattle.std.proofs.lemmas.List.{append_assoc}
use Rattle.std.proofs.lemmas.Result.{err_from_is_err_and}
use Rattle.shared.specs.Forms.{lead}
use Rattle.shared.specs.Notice.{small, gap}
use Rattle.shared_notice.proofs.Walks.{times_more, times-stops}
use Rattle.shared_notice.proofs.setting.read_next_numbers.Goals as goal

-- one number more in front
front_more : (values : List ℕ) (i x : ℕ) → i < length values → (ys : List ℕ) → take i values ++ (x ∷ ys) ≡ take (i + 1) (set values i x) ++ ys
front_more values i x h ys = sym (ap (λ l. l ++ ys) (ap (λ n. take n (set values i x)) (add-one i) ∙ take-suc-set values i x h) ∙ append_assoc (take i values) (x ∷ []) ys)

pub returns-in_err-value : goal.returns-in_err-value
returns-in_err-value c =
    let p = err_from_is_err_and c.from_residual.result c.from_residual.ensures.1 in
    let left = length c.loop-value.value-items - c.loop-value.value-index in
    let q = times-stops (lead gap small) c.args.text.now (λ ys. take c.loop-value.value-index c.loop-value.value-items ++ ys) c.loop-value.at left (left - 1) c.in_err-value.field-0.0 (omega arith) (sym c.read_next_small.ensures ∙ c.in_err-value.was) in
    rw (p.1, p.2) (sym q ∙ c.loop-value.invariant)

pub loop-value-preserved : goal.loop-value-preserved
loop-value-preserved c =
    let x = c.in_ok-value.field-0-0 in
    let items = c.loop-value.value-items in
    let i = c.loop-value.value-index in
    rw (length-set items i x)
    (sym (times_more (lead gap small) c.args.text.now (λ ys. take i items ++ ys) c.loop-value.at (length items - i)
    (λ ys. take (i + 1) (set items i x) ++ ys) (length items - (i + 1)) c.in_ok-value.field-0-1 x (omega arith)
    (sym c.read_next_small.ensures ∙ c.in_ok-value.was) (front_more items i x (omega arith)))
    ∙ c.loop-value.invariant)
