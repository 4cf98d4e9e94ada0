use Rattle.std.proofs.Common.{arith}
use Rattle.shared.specs.Table.{edge}
use Rattle.book_slots.specs.Slots.{parts}
use Rattle.book_joined.proofs.Edges.{marked_all, ready_all}
use Rattle.book_enter.proofs.Memories.{joined-test}
use Rattle.book_enter.proofs.enter.joins_already.Goals as goal

pub mark_joined-requires-clause-ready : goal.mark_joined-requires-clause-ready
mark_joined-requires-clause-ready g c = ready_all c.args.shelf.now.sizes (g.F.HashFamily.hash c.args.family.now) g.P.PartKind.bytes c.args.shelf.now.slots.now _ c.requires.cached _ c.requires.long

pub returns : goal.returns
returns g c =
    let e = edge c.args.shelf.now.sizes (g.F.HashFamily.hash c.args.family.now) in
    let slots = c.args.shelf.now.slots.now in
    let places = c.places_of-places in
    joined-test e (parts g.P.PartKind.bytes slots) (g.P.PartKind.bytes c.args.part.now) places.result.a places.result.b places.ensures.a places.ensures.b _
    (marked_all e g.P.PartKind.bytes slots _ c.requires.cached places.result.a c.mark_joined.new.marks c.mark_joined.ensures places.result.b (omega (arith, places.ensures.low_b, c.requires.long)))
