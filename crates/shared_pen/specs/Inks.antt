-- What takes bytes one by one, and what it is after them.
use Rattle.std.specs.Prelude.{ℕ, ◌+◌, cond, List, [], ◌∷◌, length, nat_le, slice_set, Some, None, Option}
use Rattle.shared_pen.specs.declared.pen.Pen.{Pen}

-- byte after byte
unfoldable pub poured : {S : Type 0} → (S → ℕ → S) → S → List ℕ → S
poured each s [] = s
poured each s (b ∷ bs) = poured each (each s b) bs

-- the same memory, with other bytes in it, and the pen behind as many of them as `written` says
abbrev pub pen_at : Pen → List ℕ → Option ℕ → Pen
pen_at p text written = record { out = record { ref_ptr = p.out.ref_ptr; ghost_name = p.out.ghost_name; now = text }; written = written }

-- a pen behind `written` bytes writes the byte there, if the memory has a place for it, and else it is full
abbrev pub inked_behind : Option ℕ → Pen → ℕ → Pen
inked_behind None p b = p
inked_behind (Some at) p b = cond (nat_le (length p.out.now) at) (pen_at p p.out.now None) (pen_at p (slice_set p.out.now at b) (Some (at + 1)))

abbrev pub inked_byte : Pen → ℕ → Pen
inked_byte p b = inked_behind p.written p b

abbrev pub inked : Pen → List ℕ → Pen
inked p bs = poured inked_byte p bs
