use Rattle.std.proofs.Common.{ℕ, List, sym, ◌∙◌, subst, rules}
use Rattle.shared_pen.specs.Laws.{Finished}
use Rattle.shared_pen.proofs.Written.{ink_finished}
use Rattle.letters.specs.Letters.{letter_text}
use Rattle.letters.proofs.rewrite.Goals as goal

pub returns : goal.returns
returns c =
    let text = letter_text c.args.text.now in
    let p = c.new-pen.result in
    let n = c.new-pen.ensures in
    let done = ink_finished p c.print_again.new.sink text c.finish.result n.start c.print_again.ensures c.finish.ensures.len in
    let lent = sym n.lender ∙ done.0 in
    let whole : Finished text c.args.room.now c.finish.new.self.0 c.finish.result =
    subst (λ (l : List ℕ). Finished text l c.finish.new.self.0 c.finish.result) n.text
    (subst (λ (l : List ℕ). Finished text p.out.now l c.finish.result) (sym c.finish.ensures.text) done.1) in
    subst (λ (l : List ℕ). Finished text c.args.room.now l c.finish.result) (sym (search (rules, lent))) whole
