use Rattle.std.proofs.Common.{◌+◌, fold, map, set, Some, sym, ap, ◌∙◌}
use Rattle.shared.specs.Book.{held_in, value_at}
use Rattle.book_slots.specs.Slots.{viewed}
use Rattle.book_steps.proofs.Shows.{settings, settings-more}
use Rattle.book_steps.proofs.show.show_settings.Goals as goal

pub loop-place-preserved : goal.loop-place-preserved
loop-place-preserved g c =
    let after = g.V.StepVisitor.after in
    let four = set c.copy_from_slice.new.self c.args.placing.spot (Some c.args.held) in
    let f = value_at (g.F.HashFamily.hash c.args.family.now) g.S.SettingKind.blanks c.args.placing.seed (held_in (map (viewed g.P.PartKind.bytes g.S.SettingKind.numbers) four)) in
    ap (λ v. fold after v (settings after f (c.loop-place.place + 1))) c.setting.ensures
    ∙ sym (settings-more after f c.loop-place.place c.loop-place.v _ c.loop-place-test.true c.setting_under-setting.ensures)
    ∙ c.loop-place.invariant
