use Rattle.std.proofs.Common.{◌≡◌, fold}
use Rattle.book_steps.proofs.Shows.{rest}
use Rattle.book_steps.proofs.show.show_row.Given as goal

abbrev pub invariant-loop-place : goal.invariant-loop-place
invariant-loop-place g l = let after = g.V.StepVisitor.after in fold after l.v (rest after l.words l.step l.place) ≡ fold after l.initial.v (rest after l.words l.step 0)
