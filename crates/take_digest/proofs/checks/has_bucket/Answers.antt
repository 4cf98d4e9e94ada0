-- The answer of `any` is the rules' test.
use Rattle.std.proofs.Common.{Bool, ◌||◌, eqb, map, refl, ◌∙◌, rules, tests}
use Rattle.std.specs.List.{list_any}
use Rattle.std.proofs.lemmas.Iterator.{YieldsList-from_slice}
use Rattle.std.proofs.lemmas.Iterator.Search.{any_from_yields_List}
use Rattle.std.proofs.lemmas.List.Recursion.{same_from_clauses}
use Rattle.shared.specs.Lists.{memb}
use Rattle.take_digest.specs.declared.digest.Head.{Head}
use Rattle.take_digest.specs.Heads.{head_bucket}
use Rattle.take_digest.proofs.checks.has_bucket.Goals as goal

pub returns : goal.returns
returns c =
    let j = c.args.bucket in
    let test : Head → Bool = λ h. eqb j h.bucket in
    any_from_yields_List test _ _ _ c.any.ensures.ran (YieldsList-from_slice c.args.heads.now cc) (λ x b q k. search (rules, tests))
    ∙ same_from_clauses (list_any test) (λ hs. memb j (map head_bucket hs)) (λ h r. test h || r) refl (λ _ _. refl) (λ _ _. refl) c.args.heads.now
