use Rattle.std.proofs.Common.{◌≡◌, ◌<◌, ◌++◌, ℕ, List, [], length, OnOk, vec_items, sym, ap, ◌∙◌, subst, arith}
use Rattle.std.proofs.lemmas.Bool.Decides.{nat_tests}
use Rattle.vector_lines.proofs.Splits.{text_of_lines-rest, unfinished-some}
use Rattle.vector_lines.proofs.answer_lines.Goals as goal

pub returns : goal.returns
returns c =
    let rest = c.loop-line.rest.now in
    let some : 0 < length rest = grind (arith, nat_tests) in
    let last = text_of_lines-rest [] rest (omega (arith, c.in_default.ensures.none)) ∙ unfinished-some rest some in
    subst (λ (l : List ℕ). OnOk c.push_refused.result (vec_items c.push_refused.new.out ≡ l))
    (ap (λ (l : List ℕ). vec_items c.loop-line.out ++ l) (sym last) ∙ c.loop-line.invariant)
    c.push_refused.ensures
