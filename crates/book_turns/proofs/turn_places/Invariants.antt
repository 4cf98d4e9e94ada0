use Rattle.book_slots.specs.Slots.{held_as, parts, slot_in}
use Rattle.book_steps.specs.Plans.{placement_at}
use Rattle.book_turns.proofs.Turning.{UpTo}
use Rattle.book_turns.proofs.turn_places.Given as goal

abbrev pub invariant-loop-step : goal.invariant-loop-step
invariant-loop-step g l =
    let slot = slot_in g.P.PartKind.bytes g.S.SettingKind.numbers l.shelf.slots.now in
    let p = placement_at slot l.plan (held_as g.P.PartKind.bytes g.S.SettingKind.numbers l.held) in
    UpTo l.shelf.sizes (g.F.HashFamily.hash l.family) g.S.SettingKind.blanks (parts g.P.PartKind.bytes l.shelf.slots.now) p l.initial.space l.step l.space
