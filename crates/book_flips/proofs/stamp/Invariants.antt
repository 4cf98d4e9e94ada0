use Rattle.book_flips.specs.Words.{stamped_at}
use Rattle.book_flips.proofs.Words.{Passed}
use Rattle.book_flips.proofs.stamp.Given as goal

abbrev pub invariant-loop-p : goal.invariant-loop-p
invariant-loop-p l = Passed (stamped_at l.initial.words l.marks l.step) l.initial.words l.words l.p
