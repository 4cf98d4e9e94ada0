use Rattle.std.proofs.Common.{◌≡◌, ℕ, ◌<◌, ◌≤◌, cond, [], get_or}
use Rattle.std.specs.Prelude.{None}
use Rattle.book_slots.specs.Slots.{holds}
use Rattle.book_joined.specs.Ends.{pair}
use Rattle.book_joined.proofs.leave_out.Given as goal

abbrev pub invariant-loop-i : goal.invariant-loop-i
invariant-loop-i g l = record {
  done : (k : ℕ) → k < l.i → get_or l.kept k [] ≡ cond (holds g.P.PartKind.bytes (g.P.PartKind.bytes l.part) (get_or l.slots k None)) (pair (0, 0)) (get_or l.ends k []);
  rest : (k : ℕ) → l.i ≤ k → get_or l.kept k [] ≡ get_or l.ends k [];
}
