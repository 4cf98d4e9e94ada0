use Rattle.std.proofs.Common.{true, false, ap, ◌∙◌}
use Rattle.book_slots.specs.Slots.{viewed, held_as}
use Rattle.book_chains.specs.Paths.{next_of}
use Rattle.book_chains.proofs.Ways.{next-held}
use Rattle.book_chains.proofs.next_bucket.Goals as goal

pub returns-then-contains-clause-is : goal.returns-then-contains-clause-is
returns-then-contains-clause-is g c =
    let bytes = g.P.PartKind.bytes in
    let numbers = g.S.SettingKind.numbers in
    let z = c.args.sizes in
    let hash = g.F.HashFamily.hash c.args.family.now in
    let j = c.args.bucket in
    let seen = c.args.seen.now in
    next-held z hash (held_as bytes numbers c.in_ok-held.held.now) j seen c.places_of.result c.places_of.ensures c.other-other.result c.other-other.ensures c.contains.result true c.contains.ensures.cases c.if-contains.true
    ∙ ap (λ x. next_of z hash (viewed bytes numbers x) j seen) c.in_ok-held.ensures.value

pub returns-else-contains-clause-is : goal.returns-else-contains-clause-is
returns-else-contains-clause-is g c =
    let bytes = g.P.PartKind.bytes in
    let numbers = g.S.SettingKind.numbers in
    let z = c.args.sizes in
    let hash = g.F.HashFamily.hash c.args.family.now in
    let j = c.args.bucket in
    let seen = c.args.seen.now in
    next-held z hash (held_as bytes numbers c.in_ok-held.held.now) j seen c.places_of.result c.places_of.ensures c.other-other.result c.other-other.ensures c.contains.result false c.contains.ensures.cases c.if-contains.false
    ∙ ap (λ x. next_of z hash (viewed bytes numbers x) j seen) c.in_ok-held.ensures.value
