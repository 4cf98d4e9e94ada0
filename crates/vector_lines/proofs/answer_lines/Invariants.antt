use Rattle.std.proofs.Common.{◌≡◌, [], ◌++◌, length, vec_items}
use Rattle.vector_lines.specs.Lines.{text_of_lines}
use Rattle.vector_lines.proofs.answer_lines.Given as goal

-- what is printed, and what is still to be printed of the rest
abbrev pub invariant-loop-line : goal.invariant-loop-line
invariant-loop-line l = vec_items l.out ++ text_of_lines [] l.rest ≡ vec_items l.initial.out ++ text_of_lines [] l.input

abbrev pub decreases-loop-line : goal.decreases-loop-line
decreases-loop-line l = length l.rest
