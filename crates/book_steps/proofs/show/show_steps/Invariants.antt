use Rattle.std.proofs.Common.{◌≡◌, fold, length}
use Rattle.book_slots.specs.Slots.{held_as, slot_in}
use Rattle.book_steps.specs.Plans.{shown_step}
use Rattle.book_steps.proofs.Shows.{steps}
use Rattle.book_steps.proofs.show.show_steps.Given as goal

abbrev pub invariant-loop-step : goal.invariant-loop-step
invariant-loop-step g l =
    let after = g.V.StepVisitor.after in
    let slot = slot_in g.P.PartKind.bytes g.S.SettingKind.numbers l.shelf.slots.now in
    let f = shown_step l.shelf.sizes (g.F.HashFamily.hash l.family) g.S.SettingKind.blanks slot l.plan (held_as g.P.PartKind.bytes g.S.SettingKind.numbers l.held) l.words in
    fold after l.v (steps after f (length l.plan) l.step) ≡ fold after l.initial.v (steps after f (length l.plan) 0)
