use Rattle.std.proofs.Common.{◌≡◌, ◌-◌}
use Rattle.shared.specs.Forms.{lead, times_at}
use Rattle.shared.specs.Notice.{gap, setting_form}
use Rattle.shared_text.specs.Events.{settings_from}
use Rattle.shared_notice.specs.Walks.{text_kind, walked}
use Rattle.shared_notice.proofs.notice.walk_settings.Given as goal

abbrev pub invariant-loop-slot : goal.invariant-loop-slot
invariant-loop-slot g l =
    walked g.V.StepVisitor.after (settings_from l.slot) l.v
    (times_at (4 - l.slot) (lead gap (setting_form (text_kind g.S.SettingKind))) l.text l.at)
    ≡ walked g.V.StepVisitor.after (settings_from 1) l.initial.v
    (times_at 3 (lead gap (setting_form (text_kind g.S.SettingKind))) l.text l.after)
