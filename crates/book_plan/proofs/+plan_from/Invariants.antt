use Rattle.std.proofs.Common.{length}
use Rattle.book_plan.proofs.+plan_from.Given as goal

abbrev pub decreases-plan_from : goal.decreases-plan_from
decreases-plan_from g l = length l.picks.now
