-- A row that is given the bits of its words, one after the other.
use Rattle.std.proofs.Common.{◌≡◌, ℕ, ◌*◌, ◌<◌, Bool, true, false, cond, not, eqb, List, length, sym, refl, ap, ◌∙◌, inl, inr}
use mathlib.Core.Bool.{beq}
use Rattle.std.proofs.lemmas.Bool.{cases_eq, eq-eqb, ne_eqb, both_ways}
use Rattle.shared.specs.Graph.{◌⊕◌}
use Rattle.shared_bits.specs.Bits.{lit, flip_at}
use Rattle.shared_bits.proofs.Flips.{flip_lit}

turns : (x y : Bool) → not (beq x y) ≡ true → true ⊕ x ≡ y
turns true true e = absurd (both_ways false refl e)
turns true false e = refl
turns false true e = refl
turns false false e = absurd (both_ways false refl e)

-- a bit that was another and is turned over
pub lit_turned : (bs : List ℕ) (p : ℕ) (bit : Bool) → p < 8 * length bs → not (beq (lit bs p) bit) ≡ true → (k : ℕ) → lit (flip_at bs p) k ≡ cond (eqb k p) bit (lit bs k)
lit_turned bs p bit h e k =
    flip_lit bs p k h
    ∙ elim (cases_eq k p) [
      | inl q ↦ ap (λ (b : Bool). b ⊕ lit bs k) (eq-eqb k p q) ∙ ap (λ (m : ℕ). true ⊕ lit bs m) q ∙ turns (lit bs p) bit e ∙ sym (ap (λ (b : Bool). cond b bit (lit bs k)) (eq-eqb k p q))
      | inr n ↦ ap (λ (b : Bool). b ⊕ lit bs k) (ne_eqb k p n) ∙ sym (ap (λ (b : Bool). cond b bit (lit bs k)) (ne_eqb k p n))
    ]
