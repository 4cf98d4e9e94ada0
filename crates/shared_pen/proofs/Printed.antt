-- What a printer's sink is after events, and after a notice.
use Rattle.std.proofs.Common.{◌≡◌, ℕ, List, [], ◌∷◌, ◌++◌, length, fold, sym, ap, ◌∙◌}
use Rattle.shared.specs.Notice.{Kind, Step, notice_text}
use Rattle.shared_text.specs.Events.{Event, events_of}
use Rattle.shared_pen.specs.declared.printer.Printer.{Printer}
use Rattle.shared_pen.specs.Inks.{poured}
use Rattle.shared_pen.specs.Prints.{put, printed}
use Rattle.shared_pen.specs.Pens.{event_text, events_text, head_text, end_text}
use Rattle.shared_pen.specs.Laws.{PrintEvents, PrintNotice}
use Rattle.shared_pen.proofs.Inks.{poured-append, poured-none}
use Rattle.shared_pen.proofs.Lines.{in_events}

-- the events of a sink that is shown them itself
pub fold-poured : {S : Type 0} (each : S → ℕ → S) (s : S) (es : List Event) → fold (λ t e. poured each t (event_text e)) s es ≡ poured each s (events_text es)
fold-poured each s [] = sym (poured-none each s)
fold-poured each s (e ∷ es) = fold-poured each (poured each s (event_text e)) es ∙ poured-append each s (event_text e) (events_text es)

put-append : {S : Type 0} (each : S → ℕ → S) (p : Printer S) (a b : List ℕ) → put each (put each p a) b ≡ put each p (a ++ b)
put-append each p a b = ap (λ s. record { sink = record { ref_ptr = p.sink.ref_ptr; ghost_name = p.sink.ghost_name; now = s } }) (poured-append each p.sink.now a b)

pub print_events : {S : Type 0} (each : S → ℕ → S) → PrintEvents each
print_events each p [] = ap (λ s. record { sink = record { ref_ptr = p.sink.ref_ptr; ghost_name = p.sink.ghost_name; now = s } }) (sym (poured-none each p.sink.now))
print_events each p (e ∷ es) = print_events each (printed each p e) es ∙ put-append each p (event_text e) (events_text es)

-- a notice's text, in three parts
pub poured-notice : {S : Type 0} (each : S → ℕ → S) (s : S) (kind : Kind) (n : ℕ) (steps : List Step) → poured each (poured each (poured each s (head_text n (length steps))) (events_text (events_of steps))) (end_text n) ≡ poured each s (notice_text kind n steps)
poured-notice each s kind n steps =
    poured-append each (poured each s (head_text n (length steps))) (events_text (events_of steps)) (end_text n)
    ∙ poured-append each s (head_text n (length steps)) (events_text (events_of steps) ++ end_text n)
    ∙ ap (poured each s) (sym (in_events kind n steps))

pub print_notice : {S : Type 0} (each : S → ℕ → S) → PrintNotice each
print_notice each p kind n steps =
    let q = put each p (head_text n (length steps)) in
    ap (λ x. put each x (end_text n)) (print_events each q (events_of steps))
    ∙ ap (λ s. record { sink = record { ref_ptr = p.sink.ref_ptr; ghost_name = p.sink.ghost_name; now = s } }) (poured-notice each p.sink.now kind n steps)

-- a printer that was shown a notice: `p` at its start, `q` behind the head, `w` behind the steps and `x` behind the end
pub notice_printed : {S : Type 0} (each : S → ℕ → S) (kind : Kind) (n c : ℕ) (steps : List Step) (p q w x : Printer S) → length steps ≡ c → q ≡ put each p (head_text n c) → w ≡ fold (printed each) q (events_of steps) → x ≡ put each w (end_text n) → x ≡ put each p (notice_text kind n steps)
notice_printed {S} each kind n c steps p q w x count head shown done =
    done
    ∙ ap (λ (y : Printer S). put each y (end_text n)) (shown ∙ ap (λ (y : Printer S). fold (printed each) y (events_of steps)) (head ∙ ap (λ k. put each p (head_text n k)) (sym count)))
    ∙ print_notice each p kind n steps
