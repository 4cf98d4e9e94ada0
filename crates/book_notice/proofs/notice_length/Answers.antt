use Rattle.std.proofs.Common.{length, ap, ◌∙◌, arith}
use Rattle.shared.specs.Book.{Held as HeldPart}
use Rattle.book_slots.specs.Slots.{held_as, slot_in}
use Rattle.book_steps.specs.Plans.{shown_steps}
use Rattle.book_notice.proofs.Lengths.{Short, slots-short, notice-few, notice_ruled}
use Rattle.book_notice.proofs.notice_length.Goals as goal

pub returns : goal.returns
returns g c kind =
    let bytes = g.P.PartKind.bytes in
    let numbers = g.S.SettingKind.numbers in
    let blank = g.S.SettingKind.blanks in
    let slots = c.args.shelf.now.slots.now in
    let slot = slot_in bytes numbers slots in
    let hash = g.F.HashFamily.hash c.args.family.now in
    let h : HeldPart = held_as bytes numbers c.args.held in
    let laws = g.met.S.SettingKind in
    let short : (s : g.row.S.Denot) → Short (numbers s) = λ s. omega (arith, laws.even s, laws.few) in
    let own = laws.read_back blank laws.blank_lawful in
    let short-blank : Short blank = omega (arith, short own.0, ap length own.1) in
    let z = c.args.shelf.now.sizes in
    let plan = c.args.plan.now in
    let words = c.args.words.now in
    c.finish.ensures
    ∙ notice_ruled kind c.args.n (shown_steps z hash blank slot plan h words) c.new-ruler.result c.print.new.sink c.new-ruler.ensures (c.print.ensures kind)
    (notice-few hash blank short-blank slot (slots-short bytes numbers short slots) h (short c.args.held.setting) z plan words kind c.args.n c.requires.fit.few)
