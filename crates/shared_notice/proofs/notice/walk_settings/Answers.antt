use Rattle.std.proofs.Common.{◌+◌, ◌-◌, sym, ◌∙◌, arith}
use Rattle.std.proofs.lemmas.Result.{err_from_is_err_and}
use Rattle.shared.specs.Forms.{lead}
use Rattle.shared.specs.Notice.{gap, setting_form}
use Rattle.shared_notice.specs.Walks.{text_kind}
use Rattle.shared_notice.proofs.Settings.{numbers-ok, numbers-err, series-first, settings-more, settings-stop, settings-done}
use Rattle.shared_notice.proofs.notice.walk_settings.Goals as goal

pub returns-in_err-setting : goal.returns-in_err-setting
returns-in_err-setting g c =
    let text = c.args.text.now in
    let form = setting_form (text_kind g.S.SettingKind) in
    let p = err_from_is_err_and c.from_residual-in_err-setting.result c.from_residual-in_err-setting.ensures.1 in
    rw (p.1, p.2)
    (sym (settings-stop g.V.StepVisitor.after form text c.loop-slot.v c.loop-slot.at c.loop-slot.slot (4 - c.loop-slot.slot) (4 - (c.loop-slot.slot + 1)) c.in_err-setting.field-0.0 (omega arith)
    (numbers-err g.S.SettingKind.numbers c.read_next_setting.result ((lead gap form).reads text c.loop-slot.at) c.in_err-setting.field-0.0 c.read_next_setting.ensures c.in_err-setting.was))
    ∙ c.loop-slot.invariant
    ∙ sym (series-first g.V.StepVisitor.after form text c.args.v.now c.args.start c.setting.new.self (g.S.SettingKind.numbers c.in_ok-first.first) c.in_ok-first.after
    (numbers-ok g.S.SettingKind.numbers c.read_setting.result (form.reads text c.args.start) c.in_ok-first.first c.in_ok-first.after c.read_setting.ensures c.in_ok-first.was)
    c.setting.ensures))

pub loop-slot-preserved : goal.loop-slot-preserved
loop-slot-preserved g c =
    let text = c.args.text.now in
    let form = setting_form (text_kind g.S.SettingKind) in
    sym (settings-more g.V.StepVisitor.after form text c.loop-slot.v c.loop-slot.at c.setting-in-loop-slot.new.self
    (g.S.SettingKind.numbers c.in_ok-setting.setting) c.loop-slot.slot (4 - c.loop-slot.slot) (4 - (c.loop-slot.slot + 1)) c.in_ok-setting.to (omega arith)
    (numbers-ok g.S.SettingKind.numbers c.read_next_setting.result ((lead gap form).reads text c.loop-slot.at) c.in_ok-setting.setting c.in_ok-setting.to c.read_next_setting.ensures c.in_ok-setting.was)
    c.setting-in-loop-slot.ensures)
    ∙ c.loop-slot.invariant

pub returns : goal.returns
returns g c =
    let text = c.args.text.now in
    let form = setting_form (text_kind g.S.SettingKind) in
    sym (settings-done g.V.StepVisitor.after form text c.loop-slot.v c.loop-slot.at c.loop-slot.slot (4 - c.loop-slot.slot) (omega arith))
    ∙ c.loop-slot.invariant
    ∙ sym (series-first g.V.StepVisitor.after form text c.args.v.now c.args.start c.setting.new.self (g.S.SettingKind.numbers c.in_ok-first.first) c.in_ok-first.after
    (numbers-ok g.S.SettingKind.numbers c.read_setting.result (form.reads text c.args.start) c.in_ok-first.first c.in_ok-first.after c.read_setting.ensures c.in_ok-first.was)
    c.setting.ensures)
