-- What a ruler shows.
use Rattle.std.proofs.Common.{[], ◌∷◌, ◌++◌, length, fold, sym, ap, ◌∙◌, append_assoc, arith}
use Rattle.std.proofs.lemmas.List.{append-nil, length-append}
use Rattle.shared_text.specs.Events.{events_of}
use Rattle.shared_pen.specs.Pens.{event_text, events_text, head_text, end_text}
use Rattle.shared_pen.specs.Rules.{measured, ruled_event}
use Rattle.shared_pen.specs.Laws.{RuleExact, RuleJoined, RuleEvents, RuleNotice, RuleFinished}
use Rattle.shared_pen.proofs.Lines.{in_events}
use Rattle.shared_pen.proofs.Rules.{ruled}

pub rule_exact : RuleExact
rule_exact len text h = omega arith

pub rule_joined : RuleJoined
rule_joined len a b = omega (arith, length-append a b)

pub rule_events : RuleEvents
rule_events len a [] = ap (measured len) (sym (append-nil a))
rule_events len a (e ∷ es) =
    ap (λ k. (fold ruled_event (record { len = k }) es).len) (rule_joined len a (event_text e))
    ∙ rule_events len (a ++ event_text e) es
    ∙ ap (measured len) (append_assoc a (event_text e) (events_text es))

pub rule_notice : RuleNotice
rule_notice len kind n steps =
    let head = head_text n (length steps) in
    let steps-text = events_text (events_of steps) in
    ap (λ k. measured k (end_text n)) (rule_events len head (events_of steps))
    ∙ rule_joined len (head ++ steps-text) (end_text n)
    ∙ ap (measured len) (append_assoc head steps-text (end_text n) ∙ sym (in_events kind n steps))

pub rule_finished : RuleFinished
rule_finished r s text z e few =
    ap (λ x. x.len) (e ∙ ruled r text (omega arith)) ∙ ap (λ k. measured k text) z ∙ rule_exact 0 text (omega arith) ∙ omega arith
