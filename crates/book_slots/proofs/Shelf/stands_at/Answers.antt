use Rattle.std.proofs.Common.{sym, ap, ◌∙◌}
use Rattle.book_slots.specs.Spots.{spot_of}
use Rattle.book_slots.proofs.Stands.{placed, where_is-position}
use Rattle.book_slots.proofs.Shelf.stands_at.Goals as goal

pub returns-in_err-index-clause-is : goal.returns-in_err-index-clause-is
returns-in_err-index-clause-is g c =
    ap spot_of c.from_residual.ensures ∙ ap placed c.in_err-index.ensures.is ∙ sym (where_is-position g.P.PartKind.bytes g.S.SettingKind.numbers (g.P.PartKind.bytes c.args.part.now) c.args.self.now.sizes c.args.self.now.slots.now c.args.self.now.long)

pub returns-clause-is : goal.returns-clause-is
returns-clause-is g c =
    ap placed c.in_ok-index.ensures.is ∙ sym (where_is-position g.P.PartKind.bytes g.S.SettingKind.numbers (g.P.PartKind.bytes c.args.part.now) c.args.self.now.sizes c.args.self.now.slots.now c.args.self.now.long)
