use Rattle.std.proofs.Common.{◌≡◌, map}
use Rattle.shared.specs.Lists.{up_from}
use Rattle.chain_laws.specs.Plans.{slots_after}
use Rattle.book_slots.specs.Slots.{held_as, slot_in}
use Rattle.book_steps.specs.Plans.{placement_at}
use Rattle.book_write.proofs.slots.store_slots.Given as goal

abbrev pub invariant-loop-step : goal.invariant-loop-step
invariant-loop-step g l =
    let slot = slot_in g.P.PartKind.bytes g.S.SettingKind.numbers l.initial.slots in
    slot_in g.P.PartKind.bytes g.S.SettingKind.numbers l.slots ≡ slots_after slot (map (placement_at slot l.plan (held_as g.P.PartKind.bytes g.S.SettingKind.numbers l.held)) (up_from 0 l.step))
