use Rattle.std.proofs.Common.{◌==◌, unwrap_or, length, ap, ◌∙◌}
use Rattle.line_forms.proofs.Fronts.{unwrap_or-position}
use Rattle.line_forms.proofs.first_of.Goals as goal

pub returns : goal.returns
returns c =
    let text = c.args.text.now in
    c.unwrap_or.ensures ∙ ap (λ o. unwrap_or o (length text)) c.place_of.ensures ∙ unwrap_or-position (λ b. b == c.args.byte) text
