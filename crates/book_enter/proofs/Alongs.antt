-- A plan along the rules' chain writes no bucket twice.
use Rattle.std.proofs.Common.{◌≡◌, ℕ, zero, suc, ◌+◌, ◌<◌, ◌≤◌, true, false, eqb, List, [], ◌∷◌, map, length, reverse, None, Some, Option as CodeOption, Result, sym, refl, ap, ◌∙◌, subst, inl, inr, arith}
use Rattle.std.proofs.Math.Option.{some}
use Rattle.std.specs.Option.{ok_or}
use Rattle.short_list.specs.Lists.{ShortList}
use Rattle.std.proofs.lemmas.Bool.{cases_eq, eq-eqb, or_left}
use Rattle.shared.specs.declared.sizes.Sizes.{Sizes}
use Rattle.shared.specs.declared.refusal.Refusal.{Refusal}
use Rattle.shared.specs.declared.refusal.Refusal.TheVariants.{NoSeed}
use Rattle.book_chains.specs.declared.Chain.{Chain}
use Rattle.book_chains.specs.Chains.{chain_of}
use Rattle.shared.specs.Book.{Held, Slot, chain}
use Rattle.shared.specs.Kinds.{Hash}
use Rattle.shared.specs.Lists.{memb, up_from}
use Rattle.chain_laws.specs.Plans.{Placement, planned}
use Rattle.chain_laws.proofs.Chains.{chain-found}
use Rattle.chain_laws.proofs.Plans.{Off, Distinct, planned-distinct}
use Rattle.book_steps.specs.declared.plan.Placing.{Placing}
use Rattle.book_steps.specs.Plans.{placement_at, placements_of}
use Rattle.book_plan.specs.Makes.{plan_of, MadeIf}
use Rattle.book_enter.specs.Enters.{Apart, SureIf}

off_at : (p : ℕ → Placement) (c i n b : ℕ) → Off c (map p (up_from i n)) → i ≤ b → b < i + n → (p b).into ≡ c → ⊥
off_at p c i zero b o l h e = absurd (omega arith)
off_at p c i (suc n) b o l h e =
    elim (cases_eq b i) [ inl q ↦ o.0 (ap (λ (k : ℕ). (p k).into) (sym q) ∙ e) | inr q ↦ off_at p c (suc i) n b o.1 (omega arith) (omega arith) e ]

distinct_at : (p : ℕ → Placement) (i n a b : ℕ) → Distinct (map p (up_from i n)) → i ≤ a → a < b → b < i + n → (p a).into ≡ (p b).into → ⊥
distinct_at p i zero a b d l h k e = absurd (omega arith)
distinct_at p i (suc n) a b d l h k e =
    elim (cases_eq a i) [
      | inl q ↦ off_at p (p i).into (suc i) n b d.0 (omega arith) (omega arith) (sym e ∙ ap (λ (k : ℕ). (p k).into) q)
      | inr q ↦ distinct_at p (suc i) n a b d.1 (omega arith) h (omega arith) e
    ]

-- a plan along the rules' chain, or none
module _ (z : Sizes) (hash : Hash) (slot : ℕ → ℕ → Slot) (h : Held) (chosen : CodeOption Chain) (is_chain : chain_of chosen ≡ chain z hash slot h.0) (c : Chain) (is : chosen ≡ Some c) where
  found : some (c.first, reverse c.slots.items) ≡ chain z hash slot h.0
  found = sym (ap chain_of is) ∙ is_chain

  plan_apart : (ps : List Placing) → some (placements_of slot ps h) ≡ planned z hash slot c.first h (reverse c.slots.items) → Apart ps
  plan_apart ps e i k l m =
      let own : memb c.first (c.first ∷ []) ≡ true = or_left (eqb c.first c.first) false (eq-eqb c.first c.first refl) in
      let chained = chain-found z hash slot h.0 (c.first, reverse c.slots.items) (sym found) in
      let d = planned-distinct z hash slot (reverse c.slots.items) c.first h (c.first ∷ []) own chained.moves (placements_of slot ps h) (sym e) in
      distinct_at (placement_at slot ps h) 0 (length ps) i k d (omega arith) l (omega arith)

  sure_made : (made : CodeOption (ShortList Placing)) (m : ℕ) → plan_of slot h made ≡ planned z hash slot c.first h (reverse c.slots.items) → MadeIf z slot m made → SureIf z (ok_or made NoSeed)
  sure_made None m e s = refl
  sure_made (Some p) m e s = record { fit = s.fit; apart = plan_apart p.items e }

  pub along_sure : (made : CodeOption (ShortList Placing)) (picks : List ℕ) → picks ≡ c.slots.items → plan_of slot h made ≡ planned z hash slot c.first h (reverse picks) → MadeIf z slot (length picks) made
      → (r : Result (ShortList Placing) Refusal) → r ≡ ok_or made NoSeed → SureIf z r
  along_sure made picks same e s r gives =
      subst (SureIf z) (sym gives) (sure_made made (length picks) (e ∙ ap (λ (l : List ℕ). planned z hash slot c.first h (reverse l)) same) s)
