use Rattle.std.proofs.Common.{◌≡◌, ◌∷◌, codes, sym, ap, ◌∙◌}
use Rattle.shared.specs.Forms.{and_then, ascending, toks_at}
use Rattle.shared.specs.Notice.{opening}
use Rattle.shared.specs.Tokens.{Space, mark}
use Rattle.shared_notice.specs.Walks.{beside, walked, a_form, a_events, b_form, b_events}
use Rattle.shared_notice.proofs.Seen.{walk-on, walked-pair}
use Rattle.shared_notice.proofs.notice.walk_rows.Goals as goal

pub returns : goal.returns
returns g c =
    let after = g.V.StepVisitor.after in
    let text = c.args.text.now in
    let v = c.args.v.now in
    let a = a_form.reads text c.args.at in
    let row_a : beside c.walk_row.new.v c.walk_row.result ≡ walked after a_events v a =
    c.walk_row.ensures
    ∙ sym (ap (λ z. walked after a_events v (and_then (and_then z (toks_at (mark Space ∷ opening (codes "a")) text)) ((ascending 65535).reads text))) (sym c.expect_mark.ensures ∙ c.in_ok-at.was))
    in
    c.walk_row-2.ensures
    ∙ sym (walked-pair after v a_events b_events a (b_form.reads text)
    ∙ walk-on c.walk_row.new.v c.walk_row.result (walked after a_events v a) (λ x. walked after b_events x.0 (b_form.reads text x.1)) c.in_ok-at-2.at row_a c.in_ok-at-2.was)
