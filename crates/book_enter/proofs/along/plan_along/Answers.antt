use Rattle.book_slots.specs.Slots.{held_as, slot_in}
use Rattle.book_enter.proofs.Alongs.{along_sure}
use Rattle.book_enter.proofs.along.plan_along.Goals as goal

pub returns-clause-sure : goal.returns-clause-sure
returns-clause-sure g c =
    let hash = g.F.HashFamily.hash c.args.family.now in
    let slot = slot_in g.P.PartKind.bytes g.S.SettingKind.numbers c.args.shelf.now.slots.now in
    let h = held_as g.P.PartKind.bytes g.S.SettingKind.numbers c.args.held in
    along_sure c.args.shelf.now.sizes hash slot h c.find_chain.result c.find_chain.ensures.is c.in_ok-chain.chain c.in_ok-chain.ensures.ok_part c.plan_from.result c.deref.result.now c.deref.ensures.0 c.plan_from.ensures.is
    c.plan_from.ensures.made c.ok_or-2.result c.ok_or-2.ensures.value
