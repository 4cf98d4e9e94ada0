-- Bits of numbers, of words of two bytes, and of the list.
use Rattle.std.proofs.Common.{◌≡◌, ℕ, zero, suc, ◌+◌, ◌-◌, ◌*◌, ◌/◌, ◌%◌, ◌^◌, ◌<◌, ◌≤◌, ◌≢◌, ◌⊎◌, List, length, get_or, set, sym, refl, ap, ◌∙◌, subst, inl, inr, mod-lt, mul_assoc, pow-suc, arith, pow_pos, pow-add, shr-shr}
use native.Mathlib.Nat.{mul-add-div_right, mul-add-mod_self_right}
use lib.Pow.{high, split}
use Rattle.std.proofs.lemmas.List.{get_or-set_same, get_or-set_other, get_or_past, length-set}
use Rattle.std.proofs.lemmas.Bool.{cases_lt}
use Rattle.shared_bits.specs.Bits.{bit, bit_at, field_of, word_at, spliced, Written}

-- a number below eight is one of eight
pub below8 : (P : ℕ → Type 0) → P 0 → P 1 → P 2 → P 3 → P 4 → P 5 → P 6 → P 7 → (s : ℕ) → s < 8 → P s
below8 P a b c d e f g h zero l = a
below8 P a b c d e f g h (suc zero) l = b
below8 P a b c d e f g h (suc (suc zero)) l = c
below8 P a b c d e f g h (suc (suc (suc zero))) l = d
below8 P a b c d e f g h (suc (suc (suc (suc zero)))) l = e
below8 P a b c d e f g h (suc (suc (suc (suc (suc zero))))) l = f
below8 P a b c d e f g h (suc (suc (suc (suc (suc (suc zero)))))) l = g
below8 P a b c d e f g h (suc (suc (suc (suc (suc (suc (suc zero))))))) l = h
below8 P a b c d e f g h (suc (suc (suc (suc (suc (suc (suc (suc n)))))))) l = absurd (omega arith)

-- the bits below s of a * 2 ^ s + low are those of low
low_by : (a u t low : ℕ) → bit (a * 2 ^ (suc u + t) + low) t ≡ bit low t
low_by a u t low =
    ap (λ (p : ℕ). (a * p + low) / 2 ^ t % 2) (pow-add 2 (suc u) t)
    ∙ ap (λ (m : ℕ). (m + low) / 2 ^ t % 2) (sym (mul_assoc a (2 ^ suc u) (2 ^ t)))
    ∙ ap (λ (m : ℕ). m % 2) (mul-add-div_right (pow_pos t) (a * 2 ^ suc u) low)
    ∙ ap (λ (p : ℕ). (a * p + low / 2 ^ t) % 2) (pow-suc 2 u)
    ∙ ap (λ (m : ℕ). (m + low / 2 ^ t) % 2) (sym (mul_assoc a (2 ^ u) 2))
    ∙ mul-add-mod_self_right (a * 2 ^ u) 2 (low / 2 ^ t)

bit-low : (a s low t : ℕ) → t < s → bit (a * 2 ^ s + low) t ≡ bit low t
bit-low a s low t h =
    let e : suc (s - t - 1) + t ≡ s = omega arith in
    subst (λ (m : ℕ). bit (a * 2 ^ m + low) t ≡ bit low t) e (low_by a (s - t - 1) t low)

-- those from s on are a's
bit_high : (a s low t : ℕ) → low < 2 ^ s → bit (a * 2 ^ s + low) (s + t) ≡ bit a t
bit_high a s low t h =
    ap (λ (m : ℕ). m % 2) (sym (shr-shr (a * 2 ^ s + low) s t) ∙ ap (λ (m : ℕ). m / 2 ^ t) (high a s h))

-- a splice: below, within and above the five bits
splice_below : (w s v t : ℕ) → t < s → bit (spliced w s v) t ≡ bit w t
splice_below w s v t h =
    bit-low (w / 2 ^ (s + 5) * 32 + v) s (w % 2 ^ s) t h
    ∙ sym (bit-low (w / 2 ^ s) s (w % 2 ^ s) t h)
    ∙ ap (λ (m : ℕ). bit m t) (split w s)

splice_above : (w s v u : ℕ) → v < 32 → bit (spliced w s v) (s + (5 + u)) ≡ bit w (s + (5 + u))
splice_above w s v u h =
    bit_high (w / 2 ^ (s + 5) * 32 + v) s (w % 2 ^ s) (5 + u) (mod-lt w (pow_pos s))
    ∙ bit_high (w / 2 ^ (s + 5)) 5 v u h
    ∙ ap (λ (m : ℕ). m % 2) (shr-shr w (s + 5) u)
    ∙ ap (λ (m : ℕ). bit w m) (omega arith)

-- five bits are the number mod 32
five : (n : ℕ) → n / 2 ^ 0 % 2 + 2 * (n / 2 ^ 1 % 2) + 4 * (n / 2 ^ 2 % 2) + 8 * (n / 2 ^ 3 % 2) + 16 * (n / 2 ^ 4 % 2) ≡ n % 32
five n = omega (arith, shr-shr n 1 1, shr-shr n 2 1, shr-shr n 3 1, shr-shr n 4 1)

-- with no byte above, a splice of the low bits stays in one byte
splice_byte : (s w v : ℕ) → s < 4 → w < 256 → v < 32 → spliced w s v < 256
splice_byte s w v hs hw hv =
    let P : ℕ → Type 0 = λ n. n < 4 → spliced w n v < 256 in
    below8 P (λ l. omega arith) (λ l. omega arith) (λ l. omega arith) (λ l. omega arith) (λ l. omega arith) (λ l. omega arith) (λ l. omega arith) (λ l. omega arith) s (omega arith) hs

word_bit_lo : (bs : List ℕ) (q t : ℕ) → t < 8 → bit_at bs (q * 8 + t) ≡ bit (word_at bs q) t
unfolding bit_at
word_bit_lo bs q t h =
    let e : (q * 8 + t) / 8 ≡ q = omega arith in
    let f : (q * 8 + t) % 8 ≡ t = omega arith in
    rw (e, f) (sym (bit-low (get_or bs (q + 1) 0) 8 (get_or bs q 0) t h))

word_bit_hi : (bs : List ℕ) (q u : ℕ) → u < 8 → get_or bs q 0 < 256 → bit_at bs (q * 8 + (8 + u)) ≡ bit (word_at bs q) (8 + u)
unfolding bit_at
word_bit_hi bs q u h lo =
    let e : (q * 8 + (8 + u)) / 8 ≡ q + 1 = omega arith in
    let f : (q * 8 + (8 + u)) % 8 ≡ u = omega arith in
    rw (e, f) (sym (bit_high (get_or bs (q + 1) 0) 8 (get_or bs q 0) u lo))

-- bit i of the list is bit i - 8q of the word at q
word_bit : (bs : List ℕ) (q i t : ℕ) → i ≡ q * 8 + t → t < 16 → get_or bs q 0 < 256 → bit_at bs i ≡ bit (word_at bs q) t
word_bit bs q i t e h lo =
    ap (bit_at bs) e
    ∙ elim (cases_lt t 8) [
      | inl l ↦ word_bit_lo bs q t l
      | inr l ↦
          let g : 8 + (t - 8) ≡ t = omega arith in
          subst (λ (m : ℕ). bit_at bs (q * 8 + m) ≡ bit (word_at bs q) m) g (word_bit_hi bs q (t - 8) (omega arith) lo)
    ]

-- a field, as the code reads it from the word
field_bit : (bs : List ℕ) (j i k : ℕ) → i ≡ j * 5 + k → k < 5 → get_or bs (j * 5 / 8) 0 < 256
    → bit_at bs i ≡ word_at bs (j * 5 / 8) / 2 ^ (j * 5 % 8) / 2 ^ k % 2
field_bit bs j i k e h lo =
    word_bit bs (j * 5 / 8) i (j * 5 % 8 + k) (omega arith) (omega arith) lo
    ∙ ap (λ (m : ℕ). m % 2) (sym (shr-shr (word_at bs (j * 5 / 8)) (j * 5 % 8) k))

pub field_word : (bs : List ℕ) (j : ℕ) → get_or bs (j * 5 / 8) 0 < 256 → field_of bs j ≡ word_at bs (j * 5 / 8) / 2 ^ (j * 5 % 8) % 32
unfolding field_of
field_word bs j lo =
    let a = field_bit bs j (j * 5) 0 (omega arith) (omega arith) lo in
    let b = field_bit bs j (j * 5 + 1) 1 refl (omega arith) lo in
    let c = field_bit bs j (j * 5 + 2) 2 refl (omega arith) lo in
    let d = field_bit bs j (j * 5 + 3) 3 refl (omega arith) lo in
    let e = field_bit bs j (j * 5 + 4) 4 refl (omega arith) lo in
    rw (a, b, c, d, e) (five (word_at bs (j * 5 / 8) / 2 ^ (j * 5 % 8)))

-- outside its five bits a splice keeps each bit
splice_rest : (w s v t : ℕ) → v < 32 → (t < s) ⊎ (s + 5 ≤ t) → bit (spliced w s v) t ≡ bit w t
splice_rest w s v t hv (inl l) = splice_below w s v t l
splice_rest w s v t hv (inr l) =
    let g : s + (5 + (t - s - 5)) ≡ t = omega arith in
    subst (λ (m : ℕ). bit (spliced w s v) m ≡ bit w m) g (splice_above w s v (t - s - 5) hv)

same_byte : (bs after : List ℕ) (i : ℕ) → get_or after (i / 8) 0 ≡ get_or bs (i / 8) 0 → bit_at after i ≡ bit_at bs i
unfolding bit_at
same_byte bs after i e = ap (λ (b : ℕ). bit b (i % 8)) e

rest_at : (bs after : List ℕ) (j v : ℕ) → v < 32
    → get_or bs (j * 5 / 8) 0 < 256 → get_or after (j * 5 / 8) 0 < 256
    → word_at after (j * 5 / 8) ≡ spliced (word_at bs (j * 5 / 8)) (j * 5 % 8) v
    → ((k : ℕ) → k ≢ j * 5 / 8 → k ≢ j * 5 / 8 + 1 → get_or after k 0 ≡ get_or bs k 0)
    → (i : ℕ) → (i < j * 5) ⊎ (j * 5 + 5 ≤ i) → bit_at after i ≡ bit_at bs i
rest_at bs after j v hv lo lo' hw other i out =
    elim (cases_lt (i / 8) (j * 5 / 8)) [
      | inl below ↦ same_byte bs after i (other (i / 8) (λ e. omega arith) (λ e. omega arith))
      | inr from ↦ elim (cases_lt (j * 5 / 8 + 1) (i / 8)) [
        | inl above ↦ same_byte bs after i (other (i / 8) (λ e. omega arith) (λ e. omega arith))
        | inr to ↦
            let t : ℕ = i - j * 5 / 8 * 8 in
            let e : i ≡ j * 5 / 8 * 8 + t = omega arith in
            let h : t < 16 = omega arith in
            let o : (t < j * 5 % 8) ⊎ (j * 5 % 8 + 5 ≤ t) = elim out [ inl l ↦ inl (omega arith) | inr l ↦ inr (omega arith) ] in
            word_bit after (j * 5 / 8) i t e h lo'
            ∙ ap (λ (m : ℕ). bit m t) hw
            ∙ splice_rest (word_at bs (j * 5 / 8)) (j * 5 % 8) v t hv o
            ∙ sym (word_bit bs (j * 5 / 8) i t e h lo)
      ]
    ]

-- the theorem of a write, from what it does to the word and to the other bytes
written : (bs after : List ℕ) (j v : ℕ) → v < 32
    → get_or bs (j * 5 / 8) 0 < 256 → get_or after (j * 5 / 8) 0 < 256
    → word_at after (j * 5 / 8) ≡ spliced (word_at bs (j * 5 / 8)) (j * 5 % 8) v
    → ((k : ℕ) → k ≢ j * 5 / 8 → k ≢ j * 5 / 8 + 1 → get_or after k 0 ≡ get_or bs k 0)
    → Written bs after j v
written bs after j v hv lo lo' hw other =
    let q : ℕ = j * 5 / 8 in
    let s : ℕ = j * 5 % 8 in
    let w : ℕ = word_at bs q in
    record {
      field =
          field_word after j lo'
          ∙ ap (λ (m : ℕ). m / 2 ^ s % 32) hw
          ∙ ap (λ (m : ℕ). m % 32) (high (w / 2 ^ (s + 5) * 32 + v) s (mod-lt w (pow_pos s)))
          ∙ omega arith;
      rest = rest_at bs after j v hv lo lo' hw other;
    }

-- the two ways that the code takes: both bytes are written, or there is no second
pub written-two : (bs : List ℕ) (j v n : ℕ) → v < 32 → j * 5 / 8 + 1 < length bs → get_or bs (j * 5 / 8) 0 < 256
    → n ≡ spliced (word_at bs (j * 5 / 8)) (j * 5 % 8) v
    → Written bs (set (set bs (j * 5 / 8) (n % 256)) (j * 5 / 8 + 1) (n / 256)) j v
written-two bs j v n hv long lo e =
    let q : ℕ = j * 5 / 8 in
    let one : List ℕ = set bs q (n % 256) in
    let after : List ℕ = set one (q + 1) (n / 256) in
    let low : get_or after q 0 ≡ n % 256 = get_or-set_other one (q + 1) q (n / 256) 0 (λ f. omega arith) ∙ get_or-set_same bs q (n % 256) 0 (omega arith) in
    let top : get_or after (q + 1) 0 ≡ n / 256 = get_or-set_same one (q + 1) (n / 256) 0 (omega (arith, length-set bs q (n % 256))) in
    written bs after j v hv lo (omega (arith, low)) (omega (arith, low, top, e))
    (λ k a b. get_or-set_other one (q + 1) k (n / 256) 0 b ∙ get_or-set_other bs q k (n % 256) 0 a)

pub written_one : (bs : List ℕ) (j v n : ℕ) → v < 32 → j * 5 + 5 ≤ 8 * length bs → length bs ≤ j * 5 / 8 + 1 → get_or bs (j * 5 / 8) 0 < 256
    → n ≡ spliced (word_at bs (j * 5 / 8)) (j * 5 % 8) v
    → Written bs (set bs (j * 5 / 8) (n % 256)) j v
written_one bs j v n hv fits short lo e =
    let q : ℕ = j * 5 / 8 in
    let after : List ℕ = set bs q (n % 256) in
    let low : get_or after q 0 ≡ n % 256 = get_or-set_same bs q (n % 256) 0 (omega arith) in
    let past : get_or bs (q + 1) 0 ≡ 0 = get_or_past bs (q + 1) 0 short in
    let past' : get_or after (q + 1) 0 ≡ 0 = get_or_past after (q + 1) 0 (omega (arith, length-set bs q (n % 256))) in
    let small : spliced (word_at bs q) (j * 5 % 8) v < 256 = splice_byte (j * 5 % 8) (word_at bs q) v (omega arith) (omega (arith, past)) hv in
    written bs after j v hv lo (omega (arith, low)) (omega (arith, low, past', e, small))
    (λ k a b. get_or-set_other bs q k (n % 256) 0 a)
