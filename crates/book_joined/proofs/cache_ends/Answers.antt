use Rattle.std.proofs.Common.{arith}
use Rattle.shared.specs.Table.{edge}
use Rattle.book_joined.specs.Ends.{ends, pair}
use Rattle.book_joined.proofs.Writes.{map-each}
use Rattle.book_joined.proofs.cache_ends.Goals as goal

pub returns : goal.returns
returns g c =
    map-each (λ x. pair (ends (edge c.args.sizes (g.F.HashFamily.hash c.args.family.now)) g.P.PartKind.bytes x)) c.args.slots.now c.loop-i.ends (omega arith) (λ k l. c.loop-i.invariant k (omega arith))
