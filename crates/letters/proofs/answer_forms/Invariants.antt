use Rattle.std.proofs.Common.{◌≡◌, ◌++◌, length, vec_items}
use Rattle.letters.specs.Letters.{text_of_letters}
use Rattle.letters.proofs.answer_forms.Given as goal

-- what is printed, and what is still to be printed of the rest
abbrev pub invariant-loop-rest : goal.invariant-loop-rest
invariant-loop-rest l = vec_items l.out ++ text_of_letters l.rest ≡ vec_items l.initial.out ++ text_of_letters l.input

abbrev pub decreases-loop-rest : goal.decreases-loop-rest
decreases-loop-rest l = length l.rest
