use Rattle.shared.specs.Table.{slot_of}
use Rattle.book_seeds.proofs.Scans.{Scan}
use Rattle.book_seeds.proofs.apart_under.Given as goal

abbrev pub invariant-loop-slot : goal.invariant-loop-slot
invariant-loop-slot g l = Scan (slot_of (g.F.HashFamily.hash l.family) l.seed) g.P.PartKind.bytes l.slots l.used l.slot-index
