use Rattle.std.proofs.Common.{sym, ap, ◌∙◌}
use Rattle.std.proofs.lemmas.Result.{err_from_is_err_and}
use Rattle.shared.specs.Forms.{pair, toks_at}
use Rattle.shared.specs.Notice.{line_end}
use Rattle.shared_text.specs.Events.{end_bucket}
use Rattle.shared_notice.specs.Walks.{text_kind, beside, walked, a_form, b_form, row_events}
use Rattle.shared_notice.proofs.Seen.{walk-on, walk-stops}
use Rattle.shared_notice.proofs.Steps.{bucket_rest}
use Rattle.shared_notice.proofs.notice.walk_bucket.Goals as goal

pub returns-in_err-at-2 : goal.returns-in_err-at-2
returns-in_err-at-2 g c =
    let after = g.V.StepVisitor.after in
    let text = c.args.text.now in
    let p = err_from_is_err_and c.from_residual-in_err-at-2.result c.from_residual-in_err-at-2.ensures.1 in
    rw (p.1, p.2)
    (sym (bucket_rest after (text_kind g.S.SettingKind) text c.args.v.now c.args.at c.walk_content.new.v c.walk_content.result c.in_ok-at.at c.walk_content.ensures c.in_ok-at.was
    ∙ walk-stops c.walk_rows.new.v c.walk_rows.result (walked after row_events c.walk_content.new.v ((pair a_form b_form).reads text c.in_ok-at.at))
    (λ y. beside (after y.0 end_bucket) (toks_at line_end text y.1)) c.in_err-at-2.field-0.0 c.walk_rows.ensures c.in_err-at-2.was))

pub returns : goal.returns
returns g c =
    let after = g.V.StepVisitor.after in
    let text = c.args.text.now in
    ap (beside c.end_bucket.new.self) c.expect_line_end.ensures
    ∙ ap (λ u. beside u (toks_at line_end text c.in_ok-at-2.at)) c.end_bucket.ensures
    ∙ sym (bucket_rest after (text_kind g.S.SettingKind) text c.args.v.now c.args.at c.walk_content.new.v c.walk_content.result c.in_ok-at.at c.walk_content.ensures c.in_ok-at.was
    ∙ walk-on c.walk_rows.new.v c.walk_rows.result (walked after row_events c.walk_content.new.v ((pair a_form b_form).reads text c.in_ok-at.at))
    (λ y. beside (after y.0 end_bucket) (toks_at line_end text y.1)) c.in_ok-at-2.at c.walk_rows.ensures c.in_ok-at-2.was)
