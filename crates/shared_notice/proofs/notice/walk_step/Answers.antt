use Rattle.std.proofs.Common.{◌≡◌, ◌+◌, [], ◌∷◌, Ok, codes, sym, ap, ◌∙◌, rules}
use Rattle.shared.specs.Forms.{toks_at}
use Rattle.shared.specs.Notice.{bucket_form}
use Rattle.shared.specs.Tokens.{Open, mark, is_word, size}
use Rattle.shared_notice.specs.Walks.{text_kind, walked, bucket_events}
use Rattle.shared_notice.proofs.Steps.{step-bucket}
use Rattle.shared_notice.proofs.notice.walk_step.Goals as goal

pub returns-then-is_word : goal.returns-then-is_word
returns-then-is_word g c =
    let text = c.args.text.now in
    let kind = text_kind g.S.SettingKind in
    let p = c.in_ok-at.at in
    let opened : toks_at (mark Open ∷ []) text c.args.at ≡ Ok p = search rules in
    let length-is = c.len.ensures ∙ ap size c.next_token-token.ensures.token in
    c.walk_bucket.ensures
    ∙ ap (λ n. walked g.V.StepVisitor.after bucket_events c.args.v.now ((bucket_form kind).reads text (p + n))) length-is
    ∙ sym (step-bucket g.V.StepVisitor.after kind text c.args.v.now c.args.at p opened (ap (is_word (codes "bucket")) (sym c.next_token-token.ensures.token) ∙ sym c.if-is_word.ensures))
