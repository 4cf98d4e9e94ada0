use Rattle.std.proofs.Common.{ap, ◌∙◌, set}
use Rattle.std.specs.Prelude.{Some}
use Rattle.shared.specs.Book.{seed_for}
use Rattle.book_slots.specs.Slots.{parts}
use Rattle.book_slots.proofs.Slots.{four-with}
use Rattle.book_seeds.proofs.seed_with.Goals as goal

pub returns : goal.returns
returns g c =
    let hash = g.F.HashFamily.hash c.args.family.now in
    let bytes = g.P.PartKind.bytes in
    c.least_seed.ensures
    ∙ ap (λ xs. seed_for hash (parts bytes (set xs c.args.spot (Some c.args.held)))) (c.copy_from_slice.ensures.after ∙ c.four_in.ensures)
    ∙ ap (seed_for hash) (four-with bytes g.S.SettingKind.numbers c.args.slots.now c.args.bucket c.args.spot c.args.held c.requires.spot)
