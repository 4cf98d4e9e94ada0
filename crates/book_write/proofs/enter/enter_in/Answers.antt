use Rattle.std.proofs.Common.{◌≡◌, ◌+◌, length, Ok}
use Rattle.shared_notice.specs.Walks.{text_kind}
use Rattle.book_slots.specs.Slots.{held_as, slot_in}
use Rattle.book_enter.specs.Enters.{Planned, Passed}
use Rattle.book_write.proofs.Entered.{of_reading, entered_long, entered_done}
use Rattle.book_write.proofs.enter.enter_in.Goals as goal

pub returns-in_default-clause-left : goal.returns-in_default-clause-left
returns-in_default-clause-left g c =
    let bytes = g.P.PartKind.bytes in
    let numbers = g.S.SettingKind.numbers in
    let hash = g.F.HashFamily.hash c.args.family.now in
    let kind = text_kind g.S.SettingKind in
    let h = held_as bytes numbers c.args.held in
    let room = length c.args.notice.now in
    let plan = c.in_ok-plan in
    let words = c.plan_enter.new.space.words.now in
    let read = c.reading in
    let said = of_reading bytes numbers c.args.book.now read.result read.ensures.sizes read.ensures.slots read.ensures.row_a read.ensures.row_b read.ensures.seeds read.ensures.overflow read.ensures.number in
    absurd
    (entered_long bytes numbers hash kind c.args.book.now h c.args.notice.now plan.plan words (said (λ z b. Planned z hash kind b room h (Ok plan.plan)) plan.ensures.is)
    (said (λ z b. Passed z hash kind.blank b room h words plan.plan.items) plan.ensures.turned) c.shelf.result c.shelf.ensures.sizes c.shelf.ensures.slots c.deref.result.now c.deref.ensures.0 (c.in_default.ensures kind))

pub returns-clause-left : goal.returns-clause-left
returns-clause-left g c =
    let bytes = g.P.PartKind.bytes in
    let numbers = g.S.SettingKind.numbers in
    let hash = g.F.HashFamily.hash c.args.family.now in
    let kind = text_kind g.S.SettingKind in
    let h = held_as bytes numbers c.args.held in
    let room = length c.args.notice.now in
    let plan = c.in_ok-plan in
    let words = c.plan_enter.new.space.words.now in
    let slot = slot_in bytes numbers c.args.book.now.slots.now in
    let read = c.reading in
    let said = of_reading bytes numbers c.args.book.now read.result read.ensures.sizes read.ensures.slots read.ensures.row_a read.ensures.row_b read.ensures.seeds read.ensures.overflow read.ensures.number in
    entered_done bytes numbers hash kind c.args.book.now h c.args.notice.now plan.plan words (said (λ z b. Planned z hash kind b room h (Ok plan.plan)) plan.ensures.is)
    (said (λ z b. Passed z hash kind.blank b room h words plan.plan.items) plan.ensures.turned) c.shelf.result c.shelf.ensures.sizes c.shelf.ensures.slots c.deref.result.now c.deref.ensures.0
    c.store_slots.new.slots c.store_rows.new.row_a c.store_rows.new.row_b c.store_seeds.new.seeds c.store_seeds.new.overflow (said (λ z b. length words ≡ z.a + z.b) plan.ensures.cut.words) c.store_rows.ensures.a c.store_rows.ensures.b
    c.deref-2.result.now c.deref-2.ensures.0 (c.store_seeds.ensures slot h) c.deref-3.result.now c.deref-3.ensures.0 c.store_slots.ensures c.in-Some.len c.write_notice.new.out (c.in-Some.ensures kind)
