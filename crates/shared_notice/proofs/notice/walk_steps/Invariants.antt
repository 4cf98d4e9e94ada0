use Rattle.std.proofs.Common.{◌≡◌, ◌-◌}
use Rattle.shared.specs.Forms.{times_at}
use Rattle.shared.specs.Notice.{step_form}
use Rattle.shared_text.specs.Events.{events_of}
use Rattle.shared_notice.specs.Walks.{text_kind, walked}
use Rattle.shared_notice.proofs.notice.walk_steps.Given as goal

abbrev pub invariant-loop : goal.invariant-loop
invariant-loop g l =
    walked g.V.StepVisitor.after events_of l.v (times_at (l.count - l.counter) (step_form (text_kind g.S.SettingKind)) l.text l.at)
    ≡ walked g.V.StepVisitor.after events_of l.initial.v (times_at l.count (step_form (text_kind g.S.SettingKind)) l.text l.start)
