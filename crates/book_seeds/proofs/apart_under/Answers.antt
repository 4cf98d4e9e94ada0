use Rattle.shared.specs.Table.{slot_of}
use Rattle.book_seeds.proofs.Scans.{scan_start, scan_empty, scan_held, scan_clash}
use Rattle.book_seeds.proofs.apart_under.Goals as goal

pub loop-slot-init : goal.loop-slot-init
loop-slot-init g c = scan_start _ _ _

pub loop-slot-preserved-in_default : goal.loop-slot-preserved-in_default
loop-slot-preserved-in_default g c = scan_empty _ _ _ _ _ _ c.loop-slot-test.true c.slot-item.is c.in_default.is c.loop-slot.invariant

pub returns-then-used-taken : goal.returns-then-used-taken
returns-then-used-taken g c =
    scan_clash (slot_of (g.F.HashFamily.hash c.args.family.now) c.args.seed) g.P.PartKind.bytes c.args.slots.now _ _ _ _ c.in-Some.held c.loop-slot-test.true c.slot-item.is c.in-Some.is c.slot_under-taken.ensures.is c.slot_under-taken.ensures.low c.if-used-taken.true c.loop-slot.invariant

pub loop-slot-preserved : goal.loop-slot-preserved
loop-slot-preserved g c =
    scan_held _ _ _ _ _ _ _ c.in-Some.held c.loop-slot-test.true c.slot-item.is c.in-Some.is c.slot_under-taken.ensures.is c.slot_under-taken.ensures.low c.if-used-taken.false c.loop-slot.invariant
