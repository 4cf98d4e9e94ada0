use Rattle.std.proofs.Common.{sym, ap, ◌∙◌, rules}
use Rattle.letters.proofs.Rewrites.{letter_printed}
use Rattle.letters.proofs.print_again.Goals as goal

pub returns : goal.returns
returns g c =
    let e = c.end.ensures ∙ letter_printed c.args.text.now c.args.head c.requires g.K.Sink.each _ c.head.new.self c.walk_notice.new.v c.walk_notice.result c.head.ensures c.walk_notice.ensures in
    let lent = sym (ap (λ p. p.sink.ghost_name) e) in
    let left = ap (λ p. p.sink.now) e in
    search (rules, lent) ∙ left
