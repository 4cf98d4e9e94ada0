use Rattle.std.proofs.Common.{◌+◌, ◌-◌, sym, ◌∙◌, arith}
use Rattle.std.proofs.lemmas.Result.{err_from_is_err_and}
use Rattle.shared.specs.Forms.{times_at}
use Rattle.shared.specs.Notice.{step_form}
use Rattle.shared_text.specs.Events.{step_events, events_of}
use Rattle.shared_notice.specs.Walks.{text_kind, walked}
use Rattle.shared_notice.proofs.Seen.{walk-on, walk-stops, walked-first}
use Rattle.shared_notice.proofs.notice.walk_steps.Goals as goal

pub returns-in_err-at : goal.returns-in_err-at
returns-in_err-at g c =
    let after = g.V.StepVisitor.after in
    let text = c.args.text.now in
    let form = step_form (text_kind g.S.SettingKind) in
    let left = c.args.count - (c.loop.counter + 1) in
    let p = err_from_is_err_and c.from_residual.result c.from_residual.ensures.1 in
    rw (p.1, p.2)
    (sym (walked-first after c.loop.v form text c.loop.at (c.args.count - c.loop.counter) left (omega arith)
    ∙ walk-stops c.walk_step.new.v c.walk_step.result (walked after step_events c.loop.v (form.reads text c.loop.at))
    (λ x. walked after events_of x.0 (times_at left form text x.1)) c.in_err-at.field-0.0 c.walk_step.ensures c.in_err-at.was)
    ∙ c.loop.invariant)

pub loop-preserved : goal.loop-preserved
loop-preserved g c =
    let after = g.V.StepVisitor.after in
    let text = c.args.text.now in
    let form = step_form (text_kind g.S.SettingKind) in
    let left = c.args.count - (c.loop.counter + 1) in
    sym (walked-first after c.loop.v form text c.loop.at (c.args.count - c.loop.counter) left (omega arith)
    ∙ walk-on c.walk_step.new.v c.walk_step.result (walked after step_events c.loop.v (form.reads text c.loop.at))
    (λ x. walked after events_of x.0 (times_at left form text x.1)) c.in_ok-at.at c.walk_step.ensures c.in_ok-at.was)
    ∙ c.loop.invariant
