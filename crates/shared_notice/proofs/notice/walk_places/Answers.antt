use Rattle.std.proofs.Common.{◌≡◌, ◌+◌, true, false, drop, sym, ap, ◌∙◌, subst, arith}
use Rattle.shared.specs.Forms.{ascending}
use Rattle.shared.specs.Tokens.{Space, is_mark, token_of}
use Rattle.shared_notice.specs.Walks.{beside, walked, flips}
use Rattle.shared_notice.proofs.Rows.{Along, along_more, along_ends}
use Rattle.shared_notice.proofs.notice.walk_places.Goals as goal

pub loop-at-preserved : goal.loop-at-preserved
loop-at-preserved g c =
    let text = c.args.text.now in
    let r = walked g.V.StepVisitor.after flips c.args.v.now ((ascending 65535).reads text c.args.start) in
    let s : is_mark Space (token_of (drop c.loop-at.at text)) ≡ true = ap (is_mark Space) (sym c.next_token.ensures.token) ∙ sym c.loop-at-test.ensures in
    let t = c.in_ok-place.ensures in
    let q = along_more g.V.StepVisitor.after text c.loop-at.v c.loop-at.low c.loop-at.at r c.in_ok-place.place c.in_ok-place.to (omega (arith, t.behind)) s
    (sym c.read_between.ensures.reads ∙ c.in_ok-place.was) c.loop-at.invariant.1 in
    (omega (arith, t.at_most), subst (λ w. Along g.V.StepVisitor.after text w (c.in_ok-place.place + 1) c.in_ok-place.to r) (sym c.flip.ensures) q)

pub returns : goal.returns
returns g c =
    let text = c.args.text.now in
    let s : is_mark Space (token_of (drop c.loop-at.at text)) ≡ false = ap (is_mark Space) (sym c.next_token.ensures.token) ∙ sym c.loop-at-test.ensures in
    ap (beside c.loop-at.v) c.expect_mark.ensures
    ∙ along_ends g.V.StepVisitor.after text c.loop-at.v c.loop-at.low c.loop-at.at (walked g.V.StepVisitor.after flips c.args.v.now ((ascending 65535).reads text c.args.start)) s c.loop-at.invariant.1
