use mathlib.Core.Path.{refl}
use borrow.Author.Rules.{rules}
use Rattle.shared.specs.Book.{walk}
use Rattle.shared.specs.Lists.{first_from, first_answer}
use Rattle.cases.proofs.worked_examples.Goals as goal

pub returns : goal.returns
unfolding first_from first_answer walk
returns c = record { count = search rules; hold = (refl, (refl, (refl, (refl, (refl, (refl, (refl, (refl, (refl, (refl, (refl, tt))))))))))) }
