use Rattle.std.proofs.Common.{◌∙◌, ap₂, rules}
use Rattle.std.proofs.lemmas.Slice.Eq.{slice_eq-Decides, compares_Decides}
use Rattle.std.proofs.lemmas.Bool.Decides.{same_from_decides, Decides-eqb}
use Rattle.shared.specs.Lists.{same_list}
use Rattle.shared_places.proofs.same_part.Goals as goal

pub returns : goal.returns
returns g c = same_from_decides _ _ (slice_eq-Decides Decides-eqb _ _ _ c.eq.ensures) (compares_Decides same_list (search rules) c.as_bytes.result.now c.as_bytes-2.result.now) ∙ ap₂ same_list c.as_bytes.ensures c.as_bytes-2.ensures
