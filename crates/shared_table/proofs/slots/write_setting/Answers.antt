-- One setting is written, and shown.
use Rattle.std.proofs.Common.{rules}
use Rattle.shared_table.proofs.Views.{setting_set}
use Rattle.shared_table.proofs.slots.write_setting.Goals as goal

pub returns-clause-shown : goal.returns-clause-shown
returns-clause-shown g c = setting_set g.S.SettingKind.numbers g.S.SettingKind.blanks c.args.settings.now c.args.bucket c.args.slot c.args.setting (search rules) (search rules)
