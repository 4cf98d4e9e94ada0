use Rattle.std.proofs.Common.{arith}
use Rattle.book_slots.specs.Slots.{held_as, slot_in}
use Rattle.book_steps.specs.Plans.{placement_at}
use Rattle.book_turns.proofs.Turning.{up_low, up_more}
use Rattle.book_turns.proofs.turn_places.Goals as goal

pub turn_step-requires-clause-low : goal.turn_step-requires-clause-low
turn_step-requires-clause-low g c = up_low c.loop-step.invariant c.requires.bits (omega (arith, c.loop-step-test.true, c.requires.fit.few)) c.requires.cut

pub loop-step-preserved : goal.loop-step-preserved
loop-step-preserved g c =
    let slot = slot_in g.P.PartKind.bytes g.S.SettingKind.numbers c.args.shelf.now.slots.now in
    let h = held_as g.P.PartKind.bytes g.S.SettingKind.numbers c.args.held in
    let turned = c.turn_step.ensures in
    up_more {p = placement_at slot c.args.plan.now h} c.loop-step.invariant c.arriving-coming.ensures turned.turns turned.ends turned.cut turned.loans
