use Rattle.std.proofs.Common.{◌∙◌}
use Rattle.shared_families.specs.Folds.{fold-map}
use Rattle.shared_families.proofs.absorb.absorb_places.Goals as goal

pub returns : goal.returns
returns g c =
    c.absorb_all.ensures ∙ fold-map g.A.Absorb.step c.as_bytes.result.now c.absorb_seeds.result
    ∙ rw (c.absorb_seeds.ensures, c.as_bytes.ensures)
