-- A ruler, byte after byte.
use Rattle.std.proofs.Common.{◌≡◌, zero, suc, ◌+◌, ◌-◌, ◌^◌, ◌≤◌, min, [], ◌∷◌, length, refl, ap, ◌∙◌, arith}
use Rattle.shared_text.specs.Events.{Event, begin_bucket, setting_at, row_a, row_b, flip, end_bucket, slot_step}
use Rattle.shared_pen.specs.Inks.{poured}
use Rattle.shared_pen.specs.Pens.{event_text}
use Rattle.shared_pen.specs.Laws.{RuleText, RuleBytes, RuleEvent}
use Rattle.shared_pen.specs.Rules.{measured, ruled_byte}

-- after a byte the length is in bounds, whatever it was
pub ruled_some : RuleText
unfolding poured
ruled_some r [] h = absurd (omega arith)
ruled_some r (b ∷ []) h = refl
ruled_some r (b ∷ c ∷ bs) h =
    let e : measured (min (r.len + 1) (2 ^ 64 - 1)) (c ∷ bs) ≡ measured r.len (b ∷ c ∷ bs) = omega arith in
    ruled_some (ruled_byte r b) (c ∷ bs) (omega arith) ∙ ap (λ n. record { len = n }) e

pub ruled : RuleBytes
unfolding poured
ruled r [] h = let e : r.len ≡ min (r.len + 0) (2 ^ 64 - 1) = omega arith in ap (λ n. record { len = n }) e
ruled r (b ∷ bs) h = ruled_some r (b ∷ bs) (omega arith)

event_some : (e : Event) → 1 ≤ length (event_text e)
event_some (begin_bucket j s) = omega arith
event_some (setting_at zero v) = omega arith
event_some (setting_at (suc i) v) = omega arith
event_some row_a = omega arith
event_some row_b = omega arith
event_some (flip p) = omega arith
event_some end_bucket = omega arith
event_some (slot_step j i v) = omega arith

pub ruled_event_is : RuleEvent
ruled_event_is r e = ruled_some r (event_text e) (event_some e)
