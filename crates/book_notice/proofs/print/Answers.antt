use Rattle.std.proofs.Common.{length, sym, ap, ◌∙◌, rules}
use Rattle.book_slots.specs.Slots.{held_as, slot_in}
use Rattle.book_steps.specs.Plans.{shown_steps}
use Rattle.book_notice.proofs.Lengths.{length-shown, notice_put}
use Rattle.book_notice.proofs.print.Goals as goal

pub returns : goal.returns
returns g c kind =
    let z = c.args.shelf.now.sizes in
    let hash = g.F.HashFamily.hash c.args.family.now in
    let blank = g.S.SettingKind.blanks in
    let slot = slot_in g.P.PartKind.bytes g.S.SettingKind.numbers c.args.shelf.now.slots.now in
    let plan = c.args.plan.now in
    let h = held_as g.P.PartKind.bytes g.S.SettingKind.numbers c.args.held in
    let words = c.args.words.now in
    let e = notice_put g.K.Sink.each kind c.args.n (length plan) (shown_steps z hash blank slot plan h words) _ c.head.new.self c.show_steps.new.v c.end.new.self (length-shown z hash blank slot plan h words) c.head.ensures c.show_steps.ensures c.end.ensures in
    let lent = sym (ap (λ p. p.sink.ghost_name) e) in
    let left = ap (λ p. p.sink.now) e in
    search (rules, lent) ∙ left
