-- The heads that are left decide, with the seeds so far.
use Rattle.std.proofs.Common.{drop}
use Rattle.shared_table.specs.Memory.{seed_of}
use Rattle.take_digest.proofs.Counts.{Counted}
use Rattle.take_digest.proofs.checks.overflows_by.Given as goal

abbrev pub invariant-loop-head : goal.invariant-loop-head
invariant-loop-head l = Counted l.sizes (seed_of l.seeds l.overflow) l.heads (drop l.head-index l.heads) l.used
