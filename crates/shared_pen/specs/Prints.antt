-- What a printer is after a text, and after an event.
use Rattle.std.specs.Prelude.{ℕ, List}
use Rattle.shared_text.specs.Events.{Event}
use Rattle.shared_pen.specs.declared.printer.Printer.{Printer}
use Rattle.shared_pen.specs.Inks.{poured}
use Rattle.shared_pen.specs.Pens.{event_text}

-- the same sink, with the text in it
abbrev pub put : {S : Type 0} → (S → ℕ → S) → Printer S → List ℕ → Printer S
put each p text = record { sink = record { ref_ptr = p.sink.ref_ptr; ghost_name = p.sink.ghost_name; now = poured each p.sink.now text } }

abbrev pub printed : {S : Type 0} → (S → ℕ → S) → Printer S → Event → Printer S
printed each p e = put each p (event_text e)
