-- Fields do not overlap, and cleared bytes have no bit.
use Rattle.std.proofs.Common.{◌≡◌, ℕ, ◌+◌, ◌*◌, ◌/◌, ◌%◌, ◌^◌, ◌<◌, ◌≤◌, false, eqb, ◌≢◌, ◌⊎◌, List, get_or, replicate, ap, ◌∙◌, inl, inr, mod-lt, arith}
use native.Mathlib.Nat.{zero-div}
use Rattle.std.proofs.lemmas.List.{get_or_past, get_or-replicate, length-replicate}
use Rattle.std.proofs.lemmas.Bool.{cases_lt, cases_order}
use Rattle.shared_bits.specs.Bits.{bit, bit_at, lit, field_of, Written}

pub bit-two : (bs : List ℕ) (k : ℕ) → bit_at bs k < 2
unfolding bit_at
bit-two bs k = mod-lt (get_or bs (k / 8) 0 / 2 ^ (k % 8)) (omega arith)

pub field_low : (bs : List ℕ) (j : ℕ) → field_of bs j < 32
unfolding field_of
field_low bs j =
    omega (arith, bit-two bs (j * 5), bit-two bs (j * 5 + 1), bit-two bs (j * 5 + 2), bit-two bs (j * 5 + 3), bit-two bs (j * 5 + 4))

-- a bit of another field is outside
out : (j k r : ℕ) → k ≢ j → r < 5 → (k * 5 + r < j * 5) ⊎ (j * 5 + 5 ≤ k * 5 + r)
out j k r ne h =
    elim (cases_order k j) [
      | inl e ↦ absurd (ne e)
      | inr (inl l) ↦ inl (omega arith)
      | inr (inr l) ↦ inr (omega arith)
    ]

pub field_other : (bs after : List ℕ) (j v k : ℕ) → Written bs after j v → k ≢ j → field_of after k ≡ field_of bs k
unfolding field_of
field_other bs after j v k w ne =
    let o : (k * 5 < j * 5) ⊎ (j * 5 + 5 ≤ k * 5) = elim (out j k 0 ne (omega arith)) [ inl l ↦ inl (omega arith) | inr l ↦ inr (omega arith) ] in
    let same : (r : ℕ) → r < 5 → bit_at after (k * 5 + r) ≡ bit_at bs (k * 5 + r) = λ r h. w.rest (k * 5 + r) (out j k r ne h) in
    omega (arith, w.rest (k * 5) o, same 1 (omega arith), same 2 (omega arith), same 3 (omega arith), same 4 (omega arith))

zero_at : (n i : ℕ) → ◌≡◌ {A = ℕ} (get_or (replicate n 0) i 0) 0
zero_at n i =
    elim (cases_lt i n) [
      | inl l ↦ get_or-replicate n i 0 0 l
      | inr l ↦ get_or_past (replicate n 0) i 0 (omega (arith, length-replicate {A = ℕ} n 0))
    ]

pub bit-clear : (n i : ℕ) → bit_at (replicate n 0) i ≡ 0
unfolding bit_at
bit-clear n i = ap (λ (b : ℕ). bit b (i % 8)) (zero_at n (i / 8)) ∙ ap (λ (m : ℕ). m % 2) (zero-div (2 ^ (i % 8)))

pub lit-clear : (n i : ℕ) → lit (replicate n 0) i ≡ false
unfolding lit
lit-clear n i = ap (λ (b : ℕ). eqb b 1) (bit-clear n i)

pub field_clear : (n j : ℕ) → field_of (replicate n 0) j ≡ 0
unfolding field_of
field_clear n j =
    omega (arith, bit-clear n (j * 5), bit-clear n (j * 5 + 1), bit-clear n (j * 5 + 2), bit-clear n (j * 5 + 3), bit-clear n (j * 5 + 4))
