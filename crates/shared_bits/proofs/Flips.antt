-- What a flip leaves, bit by bit.
use Rattle.std.proofs.Common.{◌≡◌, ℕ, zero, suc, ◌-◌, ◌*◌, ◌/◌, ◌%◌, ◌^◌, ◌<◌, Bool, true, cond, eqb, ◌≢◌, List, length, get_or, set, sym, refl, ap, ◌∙◌, subst, inl, inr, mod-lt, arith}
use lib.Bits.{bit_xor, xor_shr, xor_mod, xor_zero_r}
use Rattle.std.proofs.lemmas.List.{get_or-set_same, get_or-set_other, length-set}
use Rattle.std.proofs.lemmas.Bool.{cases_eq, eq-eqb, ne_eqb}
use Rattle.shared.specs.Graph.{◌⊕◌}
use Rattle.shared_bits.specs.Bits.{bit, bit_at}
use Rattle.shared_bits.proofs.Apart.{bit-two}
use Rattle.shared_bits.proofs.Words.{below8}
use Rattle.shared_bits.specs.Bits.{lit, flip_at}

one_bit_lem : (t u : ℕ) → t < 8 → u < 8 → bit (2 ^ t) u ≡ cond (eqb u t) 1 0
one_bit_lem t u ht hu =
    let row : (t : ℕ) → ℕ → Type 0 = λ t u. bit (2 ^ t) u ≡ cond (eqb u t) 1 0 in
    below8 (λ t. bit (2 ^ t) u ≡ cond (eqb u t) 1 0)
    (below8 (row 0) refl refl refl refl refl refl refl refl u hu) (below8 (row 1) refl refl refl refl refl refl refl refl u hu)
    (below8 (row 2) refl refl refl refl refl refl refl refl u hu) (below8 (row 3) refl refl refl refl refl refl refl refl u hu)
    (below8 (row 4) refl refl refl refl refl refl refl refl u hu) (below8 (row 5) refl refl refl refl refl refl refl refl u hu)
    (below8 (row 6) refl refl refl refl refl refl refl refl u hu) (below8 (row 7) refl refl refl refl refl refl refl refl u hu) t ht

xor_bit : (x t u : ℕ) → t < 8 → u < 8 → bit (bit_xor x (2 ^ t)) u ≡ bit_xor (bit x u) (cond (eqb u t) 1 0)
xor_bit x t u ht hu =
    ap (λ (n : ℕ). n % 2) (xor_shr x (2 ^ t) u) ∙ xor_mod (x / 2 ^ u) (2 ^ t / 2 ^ u) 1 ∙ ap (λ (n : ℕ). bit_xor (bit x u) n) (one_bit_lem t u ht hu)

below2 : (P : ℕ → Type 0) → P 0 → P 1 → (n : ℕ) → n < 2 → P n
below2 P a b zero l = a
below2 P a b (suc zero) l = b
below2 P a b (suc (suc n)) l = absurd (omega arith)

same_bit : (x t : ℕ) → t < 8 → bit (bit_xor x (2 ^ t)) t ≡ 1 - bit x t
same_bit x t h =
    xor_bit x t t h h
    ∙ ap (λ (b : Bool). bit_xor (bit x t) (cond b 1 0)) (eq-eqb t t refl)
    ∙ below2 (λ n. bit_xor n 1 ≡ 1 - n) refl refl (bit x t) (mod-lt (x / 2 ^ t) (omega arith))

other-bit : (x t u : ℕ) → t < 8 → u < 8 → u ≢ t → bit (bit_xor x (2 ^ t)) u ≡ bit x u
other-bit x t u ht hu ne =
    xor_bit x t u ht hu
    ∙ ap (λ (b : Bool). bit_xor (bit x u) (cond b 1 0)) (ne_eqb u t ne)
    ∙ xor_zero_r (bit x u)

flip_same : (bs : List ℕ) (i : ℕ) → i < 8 * length bs → bit_at (flip_at bs i) i ≡ 1 - bit_at bs i
unfolding bit_at flip_at
flip_same bs i h =
    let l : i / 8 < length bs = omega arith in
    ap (λ (x : ℕ). bit x (i % 8)) (get_or-set_same bs (i / 8) (bit_xor (get_or bs (i / 8) 0) (2 ^ (i % 8))) 0 l)
    ∙ same_bit (get_or bs (i / 8) 0) (i % 8) (omega arith)

flip_other : (bs : List ℕ) (i k : ℕ) → i < 8 * length bs → k ≢ i → bit_at (flip_at bs i) k ≡ bit_at bs k
unfolding bit_at flip_at
flip_other bs i k h ne =
    let new : ℕ = bit_xor (get_or bs (i / 8) 0) (2 ^ (i % 8)) in
    let l : i / 8 < length bs = omega arith in
    elim (cases_eq (k / 8) (i / 8)) [
      | inl e ↦
          let d : k % 8 ≢ i % 8 = λ f. ne (omega arith) in
          ap (λ (q : ℕ). bit (get_or (set bs (i / 8) new) q 0) (k % 8)) e
          ∙ ap (λ (x : ℕ). bit x (k % 8)) (get_or-set_same bs (i / 8) new 0 l)
          ∙ other-bit (get_or bs (i / 8) 0) (i % 8) (k % 8) (omega arith) (omega arith) d
          ∙ ap (λ (q : ℕ). bit (get_or bs q 0) (k % 8)) (sym e)
      | inr d ↦ ap (λ (x : ℕ). bit x (k % 8)) (get_or-set_other bs (i / 8) (k / 8) new 0 d)
    ]

-- a flip in the words of the rules
pub flip_lit : (bs : List ℕ) (i k : ℕ) → i < 8 * length bs → lit (flip_at bs i) k ≡ eqb k i ⊕ lit bs k
unfolding lit
flip_lit bs i k h =
    elim (cases_eq k i) [
      | inl e ↦
          subst (λ (m : ℕ). eqb (bit_at (flip_at bs i) m) 1 ≡ eqb m i ⊕ eqb (bit_at bs m) 1) (sym e)
          (ap (λ (n : ℕ). eqb n 1) (flip_same bs i h)
          ∙ below2 (λ n. eqb (1 - n) 1 ≡ true ⊕ eqb n 1) refl refl (bit_at bs i) (bit-two bs i)
          ∙ ap (λ (b : Bool). b ⊕ eqb (bit_at bs i) 1) (sym (eq-eqb i i refl)))
      | inr d ↦ ap (λ (n : ℕ). eqb n 1) (flip_other bs i k h d) ∙ ap (λ (b : Bool). b ⊕ eqb (bit_at bs k) 1) (sym (ne_eqb k i d))
    ]

pub length-flip : (bs : List ℕ) (i : ℕ) → length (flip_at bs i) ≡ length bs
unfolding flip_at
length-flip bs i = length-set bs (i / 8) _
