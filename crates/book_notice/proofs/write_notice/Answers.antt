use Rattle.std.proofs.Common.{ℕ, List, sym, ◌∙◌, subst, rules}
use Rattle.shared_pen.specs.Laws.{Finished}
use Rattle.shared_pen.proofs.Written.{ink_finished}
use Rattle.book_slots.specs.Slots.{held_as, slot_in}
use Rattle.book_steps.specs.Plans.{shown_steps}
use Rattle.book_notice.specs.Lengths.{notice_bytes}
use Rattle.book_notice.proofs.write_notice.Goals as goal

pub returns : goal.returns
returns g c kind =
    let slot = slot_in g.P.PartKind.bytes g.S.SettingKind.numbers c.args.shelf.now.slots.now in
    let h = held_as g.P.PartKind.bytes g.S.SettingKind.numbers c.args.held in
    let text = notice_bytes kind c.args.n (shown_steps c.args.shelf.now.sizes (g.F.HashFamily.hash c.args.family.now) g.S.SettingKind.blanks slot c.args.plan.now h c.args.words.now) in
    let p = c.new-pen.result in
    let made = c.new-pen.ensures in
    let done = ink_finished p c.print.new.sink text c.finish.result made.start (c.print.ensures kind) c.finish.ensures.len in
    let lent = sym made.lender ∙ done.0 in
    let whole : Finished text c.args.out.now c.finish.new.self.0 c.finish.result =
    subst (λ (l : List ℕ). Finished text l c.finish.new.self.0 c.finish.result) made.text
    (subst (λ (l : List ℕ). Finished text p.out.now l c.finish.result) (sym c.finish.ensures.text) done.1) in
    subst (λ (l : List ℕ). Finished text c.args.out.now l c.finish.result) (sym (search (rules, lent))) whole
