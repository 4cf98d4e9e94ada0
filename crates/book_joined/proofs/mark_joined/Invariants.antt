use Rattle.std.proofs.Common.{◌-◌, length}
use Rattle.book_joined.specs.Marks.{edges_of, total, Good, Binary}
use Rattle.book_joined.proofs.mark_joined.Given as goal

abbrev pub invariant-loop : goal.invariant-loop
invariant-loop l = record { binary : Binary l.marks; good : Good (edges_of l.ends) l.start l.marks }

abbrev pub decreases-loop : goal.decreases-loop
decreases-loop l = length l.initial.marks - total l.marks
