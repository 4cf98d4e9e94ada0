use Rattle.book_slots.specs.Slots.{held_as, slot_in}
use Rattle.book_write.proofs.SlotWrites.{stored_more}
use Rattle.book_write.proofs.slots.store_slots.Goals as goal

pub loop-step-preserved : goal.loop-step-preserved
loop-step-preserved g c =
    let slot = slot_in g.P.PartKind.bytes g.S.SettingKind.numbers c.args.slots.now in
    let h = held_as g.P.PartKind.bytes g.S.SettingKind.numbers c.args.held in
    stored_more c.args.sizes slot c.args.plan.now h c.requires.sure c.loop-step.step c.loop-step-test.true _ _ _ c.loop-step.invariant c.arriving-coming.ensures c.write_slot.ensures.shown
