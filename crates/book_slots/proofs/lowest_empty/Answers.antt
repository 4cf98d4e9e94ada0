use Rattle.std.proofs.Common.{sym, ap, ◌∙◌}
use Rattle.std.specs.Prelude.{is_none}
use Rattle.std.specs.List.{position_from}
use Rattle.shared.specs.Answers.{optional}
use Rattle.book_slots.proofs.Stands.{empty_slot-position}
use Rattle.book_slots.proofs.lowest_empty.Goals as goal

pub returns-in_err-slot-clause-is : goal.returns-in_err-slot-clause-is
returns-in_err-slot-clause-is g c =
    ap optional (c.from_residual.ensures ∙ c.in_err-slot.ensures.is) ∙ ap (λ ys. optional (position_from is_none 0 ys)) c.four_in.ensures ∙ sym (empty_slot-position g.P.PartKind.bytes g.S.SettingKind.numbers c.args.slots.now c.args.bucket)

pub returns-clause-is : goal.returns-clause-is
returns-clause-is g c =
    ap optional c.in_ok-slot.ensures.is ∙ ap (λ ys. optional (position_from is_none 0 ys)) c.four_in.ensures ∙ sym (empty_slot-position g.P.PartKind.bytes g.S.SettingKind.numbers c.args.slots.now c.args.bucket)
