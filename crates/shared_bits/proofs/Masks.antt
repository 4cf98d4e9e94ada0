-- A splice by masks is the splice by division.
use Rattle.std.proofs.Common.{◌≡◌, ℕ, ◌+◌, ◌-◌, ◌*◌, ◌/◌, ◌%◌, ◌^◌, ◌<◌, sym, ap, ◌∙◌, add-zero, mod-lt, mul_assoc, mul_comm, add_comm, arith, pow_pos, pow-add}
use lib.Bits.{bit_and, bit_or, and_block, and_mask, or_block, or_shifted, or_zero_r}
use lib.Pow.{split, shr_mod, mod-mod-pow, ones_lt}
use Rattle.shared_bits.specs.Bits.{spliced}
use Rattle.shared_bits.proofs.Words.{below8}

-- the mask that is 1 but for five bits from s, at s + 5 + j bits
mask : ℕ → ℕ → ℕ
mask s j = (2 ^ j - 1) * 2 ^ (s + 5) + (2 ^ s - 1)

cleared : (w s j : ℕ) → w < 2 ^ (j + (s + 5)) → bit_and w (mask s j) ≡ w / 2 ^ (s + 5) * 2 ^ (s + 5) + w % 2 ^ s
unfolding mask
cleared w s j hw =
    let hi : ℕ = w / 2 ^ (s + 5) in
    let lo : ℕ = w % 2 ^ (s + 5) in
    let small : 2 ^ s - 1 < 2 ^ (s + 5) = omega (arith, ones_lt s, pow-add 2 s 5, pow_pos s) in
    ap (λ (n : ℕ). bit_and n ((2 ^ j - 1) * 2 ^ (s + 5) + (2 ^ s - 1))) (sym (split w (s + 5)))
    ∙ and_block (s + 5) hi (2 ^ j - 1) lo (2 ^ s - 1) (mod-lt w (pow_pos (s + 5))) small
    ∙ ap (λ (n : ℕ). n * 2 ^ (s + 5) + bit_and lo (2 ^ s - 1)) (and_mask hi j ∙ shr_mod j (s + 5) hw)
    ∙ ap (λ (n : ℕ). hi * 2 ^ (s + 5) + n)
    (and_mask lo s ∙ ap (λ (k : ℕ). w % 2 ^ k % 2 ^ s) (add_comm s 5) ∙ mod-mod-pow w 5 s)

put_in : (h s low v : ℕ) → low < 2 ^ s → v < 32 → bit_or (h * 2 ^ (s + 5) + low) (v * 2 ^ s) ≡ (h * 32 + v) * 2 ^ s + low
put_in h s low v hl hv =
    let e : h * 2 ^ (s + 5) ≡ h * 32 * 2 ^ s = ap (λ (p : ℕ). h * p) (pow-add 2 s 5 ∙ mul_comm (2 ^ s) 32) ∙ sym (mul_assoc h 32 (2 ^ s)) in
    ap (λ (n : ℕ). bit_or (n + low) (v * 2 ^ s)) e
    ∙ ap (λ (n : ℕ). bit_or (h * 32 * 2 ^ s + low) n) (sym (add-zero (v * 2 ^ s)))
    ∙ or_block s (h * 32) v low 0 hl (pow_pos s)
    ∙ ap (λ (n : ℕ). n * 2 ^ s + bit_or low 0) (or_shifted h 5 v hv)
    ∙ ap (λ (n : ℕ). (h * 32 + v) * 2 ^ s + n) (or_zero_r low)

by_mask : (w s j v : ℕ) → w < 2 ^ (j + (s + 5)) → v < 32 → bit_or (bit_and w (mask s j)) (v * 2 ^ s) ≡ spliced w s v
by_mask w s j v hw hv =
    ap (λ (n : ℕ). bit_or n (v * 2 ^ s)) (cleared w s j hw)
    ∙ put_in (w / 2 ^ (s + 5)) s (w % 2 ^ s) v (mod-lt w (pow_pos s)) hv

-- as the code has it, at 16 bits
pub masked : (w s v : ℕ) → s < 8 → w < 2 ^ 16 → v < 32
    → bit_or (bit_and w (65535 - (31 * 2 ^ s) % 65536)) ((v * 2 ^ s) % 65536) ≡ spliced w s v
unfolding mask
masked w s v hs hw hv =
    let at : (n j : ℕ) → (v * 2 ^ n) % 65536 ≡ v * 2 ^ n → w < 2 ^ (j + (n + 5)) → bit_or (bit_and w (mask n j)) ((v * 2 ^ n) % 65536) ≡ spliced w n v =
    λ n j e h. ap (λ (x : ℕ). bit_or (bit_and w (mask n j)) x) e ∙ by_mask w n j v h hv in
    below8 (λ n. bit_or (bit_and w (65535 - (31 * 2 ^ n) % 65536)) ((v * 2 ^ n) % 65536) ≡ spliced w n v)
    (at 0 11 (omega arith) hw) (at 1 10 (omega arith) hw) (at 2 9 (omega arith) hw) (at 3 8 (omega arith) hw)
    (at 4 7 (omega arith) hw) (at 5 6 (omega arith) hw) (at 6 5 (omega arith) hw) (at 7 4 (omega arith) hw) s hs
