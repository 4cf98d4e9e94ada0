use Rattle.std.proofs.Common.{◌-◌, ◌≤◌, length}
use Rattle.shared.specs.Forms.{ascending}
use Rattle.shared_notice.specs.Walks.{walked, flips}
use Rattle.shared_notice.proofs.Rows.{Along}
use Rattle.shared_notice.proofs.notice.walk_places.Given as goal

abbrev pub invariant-loop-at : goal.invariant-loop-at
invariant-loop-at g l =
    (l.low ≤ 65536)
    × Along g.V.StepVisitor.after l.text l.v l.low l.at (walked g.V.StepVisitor.after flips l.initial.v ((ascending 65535).reads l.text l.start))

abbrev pub decreases-loop-at : goal.decreases-loop-at
decreases-loop-at g l = length l.text - l.at
