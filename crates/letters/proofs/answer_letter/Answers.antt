use Rattle.std.proofs.Common.{◌≡◌, ℕ, List, ◌++◌, IfOk, vec_items, subst}
use Rattle.letters.proofs.Forms.{letter_fault}
use Rattle.letters.proofs.answer_letter.Goals as goal

pub returns-in-Err : goal.returns-in-Err
returns-in-Err c =
    subst (λ (l : List ℕ). IfOk c.push_fault.result (λ _. vec_items c.push_fault.new.out ≡ vec_items c.args.out.now ++ l))
    (letter_fault c.args.text.now c.in-Err.fault c.in-Err.ensures) c.push_fault.ensures
