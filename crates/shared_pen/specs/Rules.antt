-- What a ruler is after bytes.
use Rattle.std.specs.Prelude.{ℕ, ◌+◌, ◌-◌, ◌^◌, min, List, length}
use Rattle.shared_text.specs.Events.{Event}
use Rattle.shared_pen.specs.Pens.{event_text}
use Rattle.shared_pen.specs.declared.ruler.Ruler.{Ruler}

-- the length with a text's, or the largest number where that is more
abbrev pub measured : ℕ → List ℕ → ℕ
measured len text = min (len + length text) (2 ^ 64 - 1)

abbrev pub ruled_byte : Ruler → ℕ → Ruler
ruled_byte r b = record { len = min (r.len + 1) (2 ^ 64 - 1) }

abbrev pub ruled_event : Ruler → Event → Ruler
ruled_event r e = record { len = measured r.len (event_text e) }
