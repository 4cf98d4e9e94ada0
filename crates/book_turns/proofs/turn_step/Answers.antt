use Rattle.std.proofs.Common.{arith}
use Rattle.shared.specs.Table.{edge}
use Rattle.book_slots.specs.Slots.{parts}
use Rattle.book_joined.proofs.Edges.{marked_left, ready_left}
use Rattle.book_turns.proofs.Turning.{turn_none, turn_some}
use Rattle.book_turns.proofs.turn_step.Goals as goal

pub mark_joined-requires-clause-ready : goal.mark_joined-requires-clause-ready
mark_joined-requires-clause-ready g c =
    let hash = g.F.HashFamily.hash c.args.family.now in
    ready_left c.args.shelf.now.sizes hash g.P.PartKind.bytes (g.P.PartKind.bytes c.args.part.now) c.args.shelf.now.slots.now _ _ c.requires.cached c.leave_out.ensures _ c.requires.cut.marks

pub returns-then-must_turn-clause-turns : goal.returns-then-must_turn-clause-turns
returns-then-must_turn-clause-turns g c =
    let z = c.args.shelf.now.sizes in
    let hash = g.F.HashFamily.hash c.args.family.now in
    let bytes = g.P.PartKind.bytes in
    let k = bytes c.args.part.now in
    let slots = c.args.shelf.now.slots.now in
    let places = c.places_of-places in
    let marks = c.mark_joined.new.marks in
    turn_some z hash g.S.SettingKind.blanks (parts bytes slots) c.args.bucket k places.result places.ensures c.args.space.now.words.now c.args.step _ c.must_turn.ensures c.if-must_turn.true marks c.stamp.new.words
    (λ p h. marked_left (edge z hash) bytes k slots _ _ c.requires.cached c.leave_out.ensures places.result.b marks c.mark_joined.ensures p (omega (arith, c.requires.cut.marks)))
    (λ p h. c.stamp.ensures p (omega (arith, c.requires.cut.words)))

pub returns-else-must_turn-clause-turns : goal.returns-else-must_turn-clause-turns
returns-else-must_turn-clause-turns g c =
    let z = c.args.shelf.now.sizes in
    let hash = g.F.HashFamily.hash c.args.family.now in
    let places = c.places_of-places in
    turn_none z hash g.S.SettingKind.blanks (parts g.P.PartKind.bytes c.args.shelf.now.slots.now) c.args.bucket (g.P.PartKind.bytes c.args.part.now) places.result places.ensures c.args.space.now.words.now c.args.step _ c.must_turn.ensures
    c.if-must_turn.false
