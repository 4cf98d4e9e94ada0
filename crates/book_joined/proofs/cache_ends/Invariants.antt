use Rattle.std.proofs.Common.{◌≡◌, ℕ, ◌<◌, [], get_or}
use Rattle.std.specs.Prelude.{None}
use Rattle.shared.specs.Table.{edge}
use Rattle.book_joined.specs.Ends.{ends, pair}
use Rattle.book_joined.proofs.cache_ends.Given as goal

abbrev pub invariant-loop-i : goal.invariant-loop-i
invariant-loop-i g l =
    (k : ℕ) → k < l.i → get_or l.ends k [] ≡ pair (ends (edge l.sizes (g.F.HashFamily.hash l.family)) g.P.PartKind.bytes (get_or l.slots k None))
