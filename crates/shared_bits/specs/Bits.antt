-- The bits of a list of bytes, and its fields of five bits.
use Rattle.std.specs.Prelude.{◌≡◌, ℕ, ◌+◌, ◌*◌, ◌/◌, ◌%◌, ◌^◌, ◌<◌, ◌≤◌, Bool, ◌⊎◌, List, ◌==◌, bit_xor, slice_index, slice_set}

-- bit t of a number, the least being bit 0
abbrev pub bit : ℕ → ℕ → ℕ
bit n t = (n / 2 ^ t) % 2

-- bit i of the bytes: bit i mod 8 of byte i div 8
unfoldable pub bit_at : List ℕ → ℕ → ℕ
bit_at bs i = bit (slice_index bs (i / 8)) (i % 8)

-- bit i is 1
unfoldable pub lit : List ℕ → ℕ → Bool
lit bs i = bit_at bs i == 1

-- the bytes with bit i turned over
unfoldable pub flip_at : List ℕ → ℕ → List ℕ
flip_at bs i = slice_set bs (i / 8) (bit_xor (slice_index bs (i / 8)) (2 ^ (i % 8)))

-- field j: bits 5j to 5j + 4, the least first
unfoldable pub field_of : List ℕ → ℕ → ℕ
field_of bs j =
    bit_at bs (j * 5) + 2 * bit_at bs (j * 5 + 1) + 4 * bit_at bs (j * 5 + 2) + 8 * bit_at bs (j * 5 + 3) + 16 * bit_at bs (j * 5 + 4)

-- field j has the value v, and every other bit is as before
pub record Written (bs after : List ℕ) (j v : ℕ) : Type 0 where
  pub field : field_of after j ≡ v
  pub rest : (i : ℕ) → (i < j * 5) ⊎ (j * 5 + 5 ≤ i) → bit_at after i ≡ bit_at bs i

-- the number of two neighbouring bytes, the low one first; a byte past the end counts as 0
abbrev pub word_at : List ℕ → ℕ → ℕ
word_at bs q = slice_index bs (q + 1) * 256 + slice_index bs q

-- w with v in place of its five bits from s on
abbrev pub spliced : ℕ → ℕ → ℕ → ℕ
spliced w s v = (w / 2 ^ (s + 5) * 32 + v) * 2 ^ s + w % 2 ^ s

-- the bytes with v in field j; no byte past the end is written
unfoldable pub put_field : List ℕ → ℕ → ℕ → List ℕ
put_field bs j v =
    let n = spliced (word_at bs (j * 5 / 8)) (j * 5 % 8) v in
    slice_set (slice_set bs (j * 5 / 8) (n % 256)) (j * 5 / 8 + 1) (n / 256)
