-- A slot written, as the rules see it.
use Rattle.std.proofs.Common.{◌≡◌, ℕ, zero, suc, ◌+◌, ◌*◌, ◌<◌, ◌≤◌, Bool, true, false, cond, eqb, ltb, ◌⊎◌, List, [], ◌∷◌, ◌++◌, map, length, set, Option, None, sym, refl, ap, ◌∙◌, ap₂, inl, inr, arith, get_or-set_other, get_or-set_same}
use mathlib.Core.Path.{fun_ext}
use Rattle.std.proofs.Math.Option.{none, some}
use Rattle.std.proofs.lemmas.Bool.{cond-true, cond-false, eq-eqb, lt-ltb, le-ltb, cases_lt, false≢true}
use Rattle.shared.specs.declared.sizes.Sizes.{Sizes}
use Rattle.shared.specs.Book.{Held as HeldPart, Slot}
use Rattle.shared.specs.Lists.{up_from, at2}
use Rattle.chain_laws.specs.Plans.{Placement, slots_after}
use Rattle.chain_laws.proofs.Plans.{at2-row}
use Rattle.chain_laws.proofs.Ranges.{map_last}
use Rattle.chain_laws.proofs.Tools.{at2-same, at2-other, at2-cases}
use Rattle.book_slots.specs.declared.Held.{Held}
use Rattle.book_slots.specs.Slots.{viewed, slot_in}
use Rattle.book_steps.specs.declared.plan.Placing.{Placing}
use Rattle.book_steps.specs.Plans.{placing_at, held_or, held_at, placement_at}
use Rattle.book_enter.specs.Enters.{Sure}

module _ {P S : Type 0} (bytes : P → List ℕ) (numbers : S → List ℕ) where
  pub slot_set : (xs : List (Option (Held P S))) (j i : ℕ) (x : Option (Held P S)) → i < 4 → 4 * j + i < length xs
      → slot_in bytes numbers (set xs (4 * j + i) x) ≡ at2 (slot_in bytes numbers xs) j i (viewed bytes numbers x)
  slot_set xs j i x few h = fun_ext (λ q. fun_ext (λ r. go q r (cases_lt r 4) (at2-cases j i q r)))
    where
      new : List (Option (Held P S))
      new = set xs (4 * j + i) x

      go : (q r : ℕ) → (r < 4) ⊎ (4 ≤ r) → ((q ≡ j) × (r ≡ i)) ⊎ (q ≡ j → r ≡ i → ⊥) → slot_in bytes numbers new q r ≡ at2 (slot_in bytes numbers xs) j i (viewed bytes numbers x) q r
      go q r low (inl c) =
          ap₂ (slot_in bytes numbers new) c.0 c.1
          ∙ cond-true (ltb i 4) _ none (lt-ltb i 4 few)
          ∙ ap (viewed bytes numbers) (get_or-set_same xs (4 * j + i) x None h)
          ∙ sym (ap₂ (at2 (slot_in bytes numbers xs) j i (viewed bytes numbers x)) c.0 c.1 ∙ at2-same (slot_in bytes numbers xs) j i (viewed bytes numbers x))
      go q r (inl l) (inr n) =
          ap (λ (y : Option (Held P S)). cond (ltb r 4) (viewed bytes numbers y) none) (get_or-set_other xs (4 * j + i) (4 * q + r) x None (λ (e : 4 * q + r ≡ 4 * j + i). n (omega arith) (omega arith)))
          ∙ sym (at2-other (slot_in bytes numbers xs) j i (viewed bytes numbers x) q r n)
      go q r (inr l) (inr n) =
          cond-false (ltb r 4) _ none (le-ltb r 4 l)
          ∙ sym (at2-other (slot_in bytes numbers xs) j i (viewed bytes numbers x) q r n ∙ cond-false (ltb r 4) _ none (le-ltb r 4 l))

-- the slots after some placements, and one more
slots-more : (ps : List Placement) (p : Placement) (slot : ℕ → ℕ → Slot) → slots_after slot (ps ++ (p ∷ [])) ≡ at2 (slots_after slot ps) p.into p.spot (some p.held)
slots-more [] p slot = refl
slots-more (q ∷ ps) p slot = slots-more ps p (at2 slot q.into q.spot (some q.held))

module _ (z : Sizes) (slot : ℕ → ℕ → Slot) (plan : List Placing) (h : HeldPart) (sure : Sure z plan) where
  abbrev pub upto : ℕ → ℕ → ℕ → Slot
  upto i = slots_after slot (map (placement_at slot plan h) (up_from 0 i))

  pub upto-more : (i : ℕ) → upto (i + 1) ≡ at2 (upto i) (placing_at plan i).bucket (placing_at plan i).spot (some (held_at slot plan h i))
  upto-more i = ap (slots_after slot) (map_last (placement_at slot plan h) i) ∙ slots-more (map (placement_at slot plan h) (up_from 0 i)) (placement_at slot plan h i) slot

  -- a bucket that no placement is for stays
  kept_row : (p : ℕ → Placement) (c i n : ℕ) (f : ℕ → ℕ → Slot) → ((k : ℕ) → i ≤ k → k < i + n → (p k).into ≡ c → ⊥) → slots_after f (map p (up_from i n)) c ≡ f c
  kept_row p c i zero f e = refl
  kept_row p c i (suc n) f e =
      kept_row p c (suc i) n (at2 f (p i).into (p i).spot (some (p i).held)) (λ k a b. e k (omega arith) (omega arith)) ∙ at2-row f (p i).into (p i).spot (some (p i).held) c (λ q. e i (omega arith) (omega arith) (sym q))

  -- what a step brings is still there when it is written
  pub held_kept : (i : ℕ) → i < length plan → held_at (upto i) plan h i ≡ held_at slot plan h i
  held_kept i few = go (eqb (i + 1) (length plan)) refl
    where
      next : Placing
      next = placing_at plan (i + 1)

      go : (b : Bool) → eqb (i + 1) (length plan) ≡ b → held_at (upto i) plan h i ≡ held_at slot plan h i
      go true e = cond-true (eqb (i + 1) (length plan)) h _ e ∙ sym (cond-true (eqb (i + 1) (length plan)) h _ e)
      go false e =
          let more : (i + 1 ≡ length plan → ⊥) = λ q. false≢true (sym e ∙ eq-eqb (i + 1) (length plan) q) in
          ap (λ (x : ℕ → Slot). cond (eqb (i + 1) (length plan)) h (held_or h (x next.spot))) (kept_row (placement_at slot plan h) next.bucket 0 i slot (λ k a b. sure.apart k (i + 1) (omega arith) (omega (arith, more))))

  -- so one more is written
  pub stored_more : (i : ℕ) → i < length plan → (now after : ℕ → ℕ → Slot) (x : HeldPart) → now ≡ upto i → x ≡ held_at now plan h i → after ≡ at2 now (placing_at plan i).bucket (placing_at plan i).spot (some x)
      → after ≡ upto (i + 1)
  stored_more i few now after x e is t =
      t
      ∙ ap₂ (λ (f : ℕ → ℕ → Slot) (y : HeldPart). at2 f (placing_at plan i).bucket (placing_at plan i).spot (some y)) e (is ∙ ap (λ (f : ℕ → ℕ → Slot). held_at f plan h i) e ∙ held_kept i few)
      ∙ sym (upto-more i)
