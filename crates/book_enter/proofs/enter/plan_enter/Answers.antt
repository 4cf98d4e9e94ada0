use Rattle.std.proofs.Common.{sym, ◌∙◌, arith, rules}
use Rattle.std.proofs.lemmas.Result.{err_from_is_err_and}
use Rattle.shared_notice.specs.Walks.{text_kind}
use Rattle.book_enter.proofs.Checks.{check_joined, check_plan, check_overflow, check_room, check_none, check_passed}
use Rattle.book_enter.proofs.enter.plan_enter.Goals as goal

pub returns-then-joins_already-clause-is : goal.returns-then-joins_already-clause-is
returns-then-joins_already-clause-is g c =
    let shelf = c.shelf-shelf in
    check_joined g.P.PartKind.bytes g.S.SettingKind.numbers (g.F.HashFamily.hash c.args.family.now) (text_kind g.S.SettingKind) c.args.book.now c.args.room
    (g.P.PartKind.bytes c.args.held.part) (g.S.SettingKind.numbers c.args.held.setting) shelf.result shelf.ensures.sizes shelf.ensures.slots c.stands_at.result c.stands_at.ensures.is
    (sym c.is_some.ensures ∙ c.if-is_some.false) c.joins_already.result c.joins_already.ensures c.if-joins_already.true

pub returns-in_err-plan-clause-is : goal.returns-in_err-plan-clause-is
returns-in_err-plan-clause-is g c =
    let shelf = c.shelf-shelf in
    let p = err_from_is_err_and c.from_residual.result c.from_residual.ensures.1 in
    rw (p.1, p.2)
    (check_plan g.P.PartKind.bytes g.S.SettingKind.numbers (g.F.HashFamily.hash c.args.family.now) (text_kind g.S.SettingKind) c.args.book.now c.args.room
    (g.P.PartKind.bytes c.args.held.part) (g.S.SettingKind.numbers c.args.held.setting) shelf.result shelf.ensures.sizes shelf.ensures.slots c.stands_at.result c.stands_at.ensures.is
    (sym c.is_some.ensures ∙ c.if-is_some.false) c.joins_already.result c.joins_already.ensures c.if-joins_already.false c.plan_along.result c.plan_along.ensures.is c.in_err-plan.field-0.0 c.in_err-plan.was)

pub returns-then-spills_over-clause-is : goal.returns-then-spills_over-clause-is
returns-then-spills_over-clause-is g c =
    let shelf = c.shelf-shelf in
    check_overflow g.P.PartKind.bytes g.S.SettingKind.numbers (g.F.HashFamily.hash c.args.family.now) (text_kind g.S.SettingKind) c.args.book.now c.args.room
    (g.P.PartKind.bytes c.args.held.part) (g.S.SettingKind.numbers c.args.held.setting) shelf.result shelf.ensures.sizes shelf.ensures.slots c.stands_at.result c.stands_at.ensures.is
    (sym c.is_some.ensures ∙ c.if-is_some.false) c.joins_already.result c.joins_already.ensures c.if-joins_already.false c.plan_along.result c.plan_along.ensures.is
    c.in_ok-plan.plan c.in_ok-plan.was c.spills_over.result c.deref.result.now c.deref.ensures.0 c.spills_over.ensures c.if-spills_over.true

pub returns-then-len-room-clause-is : goal.returns-then-len-room-clause-is
returns-then-len-room-clause-is g c =
    let shelf = c.shelf-shelf in
    check_room g.P.PartKind.bytes g.S.SettingKind.numbers (g.F.HashFamily.hash c.args.family.now) (text_kind g.S.SettingKind) c.args.book.now c.args.room
    (g.P.PartKind.bytes c.args.held.part) (g.S.SettingKind.numbers c.args.held.setting) shelf.result shelf.ensures.sizes shelf.ensures.slots c.stands_at.result c.stands_at.ensures.is
    (sym c.is_some.ensures ∙ c.if-is_some.false) c.joins_already.result c.joins_already.ensures c.if-joins_already.false c.plan_along.result c.plan_along.ensures.is
    c.in_ok-plan.plan c.in_ok-plan.was c.spills_over.result c.deref.result.now c.deref.ensures.0 c.spills_over.ensures c.if-spills_over.false
    c.load_rows.new.words _ c.turn_places.new.space.words.now (omega (arith, c.load_rows.auto.words, c.requires.cut.words)) c.load_rows.ensures c.deref-2.result.now c.deref-2.ensures.0 c.turn_places.ensures.turns
    c.notice_length-len.result c.deref-3.result.now c.deref-3.ensures.0 c.notice_length-len.ensures (search rules) c.if-len-room.true

pub returns-clause-is : goal.returns-clause-is
returns-clause-is g c =
    let shelf = c.shelf-shelf in
    check_none g.P.PartKind.bytes g.S.SettingKind.numbers (g.F.HashFamily.hash c.args.family.now) (text_kind g.S.SettingKind) c.args.book.now c.args.room
    (g.P.PartKind.bytes c.args.held.part) (g.S.SettingKind.numbers c.args.held.setting) shelf.result shelf.ensures.sizes shelf.ensures.slots c.stands_at.result c.stands_at.ensures.is
    (sym c.is_some.ensures ∙ c.if-is_some.false) c.joins_already.result c.joins_already.ensures c.if-joins_already.false c.plan_along.result c.plan_along.ensures.is
    c.in_ok-plan.plan c.in_ok-plan.was c.spills_over.result c.deref.result.now c.deref.ensures.0 c.spills_over.ensures c.if-spills_over.false
    c.load_rows.new.words _ c.turn_places.new.space.words.now (omega (arith, c.load_rows.auto.words, c.requires.cut.words)) c.load_rows.ensures c.deref-2.result.now c.deref-2.ensures.0 c.turn_places.ensures.turns
    c.notice_length-len.result c.deref-3.result.now c.deref-3.ensures.0 c.notice_length-len.ensures (search rules) c.if-len-room.false

pub returns-clause-turned : goal.returns-clause-turned
returns-clause-turned g c =
    let shelf = c.shelf-shelf in
    check_passed g.P.PartKind.bytes g.S.SettingKind.numbers (g.F.HashFamily.hash c.args.family.now) (text_kind g.S.SettingKind) c.args.book.now c.args.room
    (g.P.PartKind.bytes c.args.held.part) (g.S.SettingKind.numbers c.args.held.setting) shelf.result shelf.ensures.sizes shelf.ensures.slots c.stands_at.result c.stands_at.ensures.is
    (sym c.is_some.ensures ∙ c.if-is_some.false) c.joins_already.result c.joins_already.ensures c.if-joins_already.false c.plan_along.result c.plan_along.ensures.is
    c.in_ok-plan.plan c.in_ok-plan.was c.spills_over.result c.deref.result.now c.deref.ensures.0 c.spills_over.ensures c.if-spills_over.false
    c.load_rows.new.words _ c.turn_places.new.space.words.now (omega (arith, c.load_rows.auto.words, c.requires.cut.words)) c.load_rows.ensures c.deref-2.result.now c.deref-2.ensures.0 c.turn_places.ensures.turns
    c.notice_length-len.result c.deref-3.result.now c.deref-3.ensures.0 c.notice_length-len.ensures (search rules) c.if-len-room.false
    c.in_ok-plan.ensures.sure
