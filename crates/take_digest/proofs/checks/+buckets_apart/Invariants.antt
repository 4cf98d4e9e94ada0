-- The heads left are fewer each time.
use Rattle.std.proofs.Common.{length}
use Rattle.take_digest.proofs.checks.+buckets_apart.Given as goal

abbrev pub decreases-buckets_apart : goal.decreases-buckets_apart
decreases-buckets_apart l = length l.heads.now
