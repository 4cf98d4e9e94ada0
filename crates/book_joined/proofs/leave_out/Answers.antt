use Rattle.std.proofs.Common.{arith}
use Rattle.book_joined.proofs.Writes.{leaving-each}
use Rattle.book_joined.proofs.leave_out.Goals as goal

pub returns : goal.returns
returns g c =
    leaving-each g.P.PartKind.bytes (g.P.PartKind.bytes c.args.part.now) c.args.slots.now c.args.ends.now c.loop-i.kept c.requires.cached (omega arith) (λ k l. c.loop-i.invariant.done k (omega arith))
