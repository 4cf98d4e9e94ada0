-- What stands in a pen's memory, and what a ruler shows, after a text and after a whole notice.
use Rattle.std.specs.Prelude.{◌≡◌, ℕ, ◌+◌, ◌-◌, ◌^◌, ◌<◌, ◌≤◌, List, ◌++◌, length, take, drop, Some, None, fold, Option}
use Rattle.shared.specs.Notice.{Kind, Step, notice_text}
use Rattle.shared_text.specs.Events.{Event, events_of}
use Rattle.shared_pen.specs.declared.pen.Pen.{Pen}
use Rattle.shared_pen.specs.declared.printer.Printer.{Printer}
use Rattle.shared_pen.specs.declared.ruler.Ruler.{Ruler}
use Rattle.shared_pen.specs.Inks.{poured, pen_at, inked}
use Rattle.shared_pen.specs.Pens.{event_text, events_text, head_text, end_text}
use Rattle.shared_pen.specs.Prints.{put, printed}
use Rattle.shared_pen.specs.Rules.{measured, ruled_byte, ruled_event}

-- two texts in a row are one
abbrev pub InkJoined : Type 0
InkJoined = (p : Pen) (a b : List ℕ) → inked (inked p a) b ≡ inked p (a ++ b)

-- a text that fits stands right after what was written, and the bytes past it are as they were
abbrev pub InkFits : Type 0
InkFits =
    (p : Pen) (at : ℕ) (text : List ℕ) → p.written ≡ Some at → at + length text ≤ length p.out.now
    → inked p text ≡ pen_at p (take at p.out.now ++ (text ++ drop (at + length text) p.out.now)) (Some (at + length text))

-- one that does not fit fills the memory up, and the pen is full
abbrev pub InkOver : Type 0
InkOver =
    (p : Pen) (at : ℕ) (text : List ℕ) → p.written ≡ Some at → at ≤ length p.out.now → length p.out.now < at + length text
    → inked p text ≡ pen_at p (take at p.out.now ++ take (length p.out.now - at) text) None

-- a full pen writes nothing more
abbrev pub InkFull : Type 0
InkFull = (p : Pen) (text : List ℕ) → p.written ≡ None → inked p text ≡ p

-- a pen that sees events writes their texts
abbrev pub InkEvents : Type 0
InkEvents = (p : Pen) (es : List Event) → fold (λ q e. inked q (event_text e)) p es ≡ inked p (events_text es)

-- head, events and end write the notice's text
abbrev pub InkNotice : Type 0
InkNotice =
    (p : Pen) (kind : Kind) (n : ℕ) (steps : List Step)
    → inked (fold (λ q e. inked q (event_text e)) (inked p (head_text n (length steps))) (events_of steps)) (end_text n) ≡ inked p (notice_text kind n steps)

-- below 2^64 the ruler shows the exact sum
abbrev pub RuleExact : Type 0
RuleExact = (len : ℕ) (text : List ℕ) → len + length text < 2 ^ 64 → measured len text ≡ len + length text

-- byte after byte it shows that sum too
abbrev pub RuleBytes : Type 0
RuleBytes = (r : Ruler) (text : List ℕ) → r.len < 2 ^ 64 → poured ruled_byte r text ≡ record { len = measured r.len text }

-- after a text that is not empty it has measured that text, whatever it showed before
abbrev pub RuleText : Type 0
RuleText = (r : Ruler) (text : List ℕ) → 1 ≤ length text → poured ruled_byte r text ≡ record { len = measured r.len text }

-- after an event's text it has measured that text, whatever it showed before
abbrev pub RuleEvent : Type 0
RuleEvent = (r : Ruler) (e : Event) → poured ruled_byte r (event_text e) ≡ ruled_event r e

-- two texts in a row are one
abbrev pub RuleJoined : Type 0
RuleJoined = (len : ℕ) (a b : List ℕ) → measured (measured len a) b ≡ measured len (a ++ b)

-- a ruler that sees events measures their texts
abbrev pub RuleEvents : Type 0
RuleEvents = (len : ℕ) (text : List ℕ) (es : List Event) → (fold ruled_event (record { len = measured len text }) es).len ≡ measured len (text ++ events_text es)

-- head, events and end measure the notice's text
abbrev pub RuleNotice : Type 0
RuleNotice =
    (len : ℕ) (kind : Kind) (n : ℕ) (steps : List Step)
    → measured (fold ruled_event (record { len = measured len (head_text n (length steps)) }) (events_of steps)).len (end_text n) ≡ measured len (notice_text kind n steps)

-- `r` is the ruler at its start and `s` after a text that is not too long
abbrev pub RuleFinished : Type 0
RuleFinished = (r s : Ruler) (text : List ℕ) → r.len ≡ 0 → s ≡ poured ruled_byte r text → length text < 2 ^ 64 → s.len ≡ length text

-- a printer that is shown events prints their texts, whatever its sink is
abbrev pub PrintEvents : {S : Type 0} → (S → ℕ → S) → Type 0
PrintEvents {S} each = (p : Printer S) (es : List Event) → fold (printed each) p es ≡ put each p (events_text es)

-- head, events and end print the notice's text
abbrev pub PrintNotice : {S : Type 0} → (S → ℕ → S) → Type 0
PrintNotice {S} each =
    (p : Printer S) (kind : Kind) (n : ℕ) (steps : List Step)
    → put each (fold (printed each) (put each p (head_text n (length steps))) (events_of steps)) (end_text n) ≡ put each p (notice_text kind n steps)

-- what a pen that began at the front of `before` leaves there, and its answer: the whole text, or that it was too long
abbrev pub Finished : List ℕ → List ℕ → List ℕ → Option ℕ → Type 0
Finished text before left (Some len) = (len ≡ length text) × (left ≡ text ++ drop len before)
Finished text before left None = length before < length text

-- `p` is the pen at its start and `q` after the text; `r` is what its finish answers
abbrev pub InkFinished : Type 0
InkFinished =
    (p q : Pen) (text : List ℕ) (r : Option ℕ) → p.written ≡ Some 0 → q ≡ inked p text → r ≡ q.written
    → (p.out.ghost_name ≡ q.out.ghost_name) × Finished text p.out.now q.out.now r
