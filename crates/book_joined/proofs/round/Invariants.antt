use Rattle.book_joined.proofs.Spreads.{Kept}
use Rattle.book_joined.proofs.round.Given as goal

abbrev pub invariant-loop-a : goal.invariant-loop-a
invariant-loop-a l = Kept l.ends l.initial.marks l.marks l.count l.a-index
