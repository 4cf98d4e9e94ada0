-- How a plan comes about: at the chain's end, and along a move.
use Rattle.std.proofs.Common.{◌≡◌, ℕ, zero, suc, ◌+◌, ◌<◌, eqb, cond, List, [], ◌∷◌, ◌++◌, length, reverse, get_or, refl, sym, ap, ap₂, ◌∙◌, subst, arith, length-append}
use Rattle.std.specs.Prelude.{Option as CodeOption, Some, None}
use Rattle.std.proofs.Math.ListN.{get_or-append}
use Rattle.std.proofs.Math.Seq.{get_or-append_seam}
use Rattle.std.proofs.lemmas.List.{reverse-append}
use mathlib.Core.Option.{Option, none, some}
use Rattle.short_list.specs.Lists.{ShortList}
use Rattle.shared.specs.declared.sizes.Sizes.{Sizes}
use Rattle.shared.specs.Book.{Held, Slot, other}
use Rattle.shared.specs.Kinds.{Hash}
use Rattle.shared.specs.Lists.{◌then◌}
use Rattle.shared_places.specs.declared.Places.{Places}
use Rattle.shared_places.specs.Places.{Placed, other_of}
use Rattle.chain_laws.specs.Plans.{Placement, placement, seed_at, planned}
use Rattle.chain_laws.proofs.Tools.{never, some_same}
use Rattle.book_slots.specs.declared.Held.{Held as CodeHeld}
use Rattle.book_slots.specs.Slots.{held_as, viewed, slot_in, four_of}
use Rattle.book_steps.specs.declared.plan.Placing.{Placing}
use Rattle.book_steps.specs.Plans.{placements_of}
use Rattle.book_plan.specs.Makes.{with_last, steps_of, plan_of, Made, MadeIf}
use Rattle.book_plan.proofs.Puts.{placements_more, made_more}

-- the other bucket of a part, by its places
pub other-is : (z : Sizes) (hash : Hash) (k : List ℕ) (p : Places) → Placed z hash k p → (j : ℕ) → other_of p j ≡ other z hash k j
other-is z hash k p placed j = ap₂ (λ (x y : ℕ). cond (eqb x j) y x) placed.first placed.second

-- what was read in the bucket's four slots
module _ {P S : Type 0} (bytes : P → List ℕ) (numbers : S → List ℕ) (xs : List (CodeOption (CodeHeld P S))) (j : ℕ) where
  seen_four : (i : ℕ) (x : CodeOption (CodeHeld P S)) → i < 4 → x ≡ get_or (four_of xs j) i x → slot_in bytes numbers xs j i ≡ viewed bytes numbers x
  seen_four zero x h e = sym (ap (viewed bytes numbers) e)
  seen_four (suc zero) x h e = sym (ap (viewed bytes numbers) e)
  seen_four (suc (suc zero)) x h e = sym (ap (viewed bytes numbers) e)
  seen_four (suc (suc (suc zero))) x h e = sym (ap (viewed bytes numbers) e)
  seen_four (suc (suc (suc (suc i)))) x h e = absurd (omega arith)

  pub moved_as : (four : List (CodeOption (CodeHeld P S))) (i : ℕ) (x : CodeOption (CodeHeld P S)) (g : CodeHeld P S)
      → four ≡ four_of xs j → i < 4 → x ≡ get_or four i x → x ≡ Some g → slot_in bytes numbers xs j i ≡ some (held_as bytes numbers g)
  moved_as four i x g whole low is e = seen_four i x low (is ∙ ap (λ (ys : List (CodeOption (CodeHeld P S))). get_or ys i x) whole) ∙ ap (viewed bytes numbers) e

-- the slot of the first move, and the slots of the others
pub one_move : (picks rest : List ℕ) (i : ℕ) → picks ≡ rest ++ (i ∷ []) → reverse picks ≡ i ∷ reverse rest
one_move picks rest i e = ap reverse e ∙ reverse-append rest (i ∷ [])

abbrev Low : List ℕ → Type 0
Low xs = (k : ℕ) → k < length xs → get_or xs k 0 < 4

pub last_low : (picks rest : List ℕ) (i : ℕ) → picks ≡ rest ++ (i ∷ []) → Low picks → i < 4
last_low picks rest i e low =
    let seen : get_or picks (length rest) 0 ≡ i = ap (λ (l : List ℕ). get_or l (length rest) 0) e ∙ get_or-append_seam rest i [] 0 in
    omega (arith, seen, low (length rest) (omega (arith, ap length e, length-append rest (i ∷ []))))

pub rest_low : (picks rest : List ℕ) (i : ℕ) → picks ≡ rest ++ (i ∷ []) → Low picks → Low rest
rest_low picks rest i e low k l =
    let seen : get_or picks k 0 ≡ get_or rest k 0 = ap (λ (xs : List ℕ). get_or xs k 0) e ∙ get_or-append rest (i ∷ []) 0 k l in
    omega (arith, seen, low k (omega (arith, ap length e, length-append rest (i ∷ []))))

-- the last step, under the seed that was found
abbrev pub last_step : ℕ → Held → List Placement → ℕ → Option ℕ → Option (List Placement)
last_step j h ps i seed = seed then (λ s. some (ps ++ (placement j i h s ∷ [])))

-- a move: the part in the slot goes on first
module _ (z : Sizes) (hash : Hash) (slot : ℕ → ℕ → Slot) (j i : ℕ) (h g : Held) (ms is : List ℕ) (next : is ≡ i ∷ ms) (at : slot j i ≡ some g) where
  abbrev last : List Placement → Option (List Placement)
  last ps = last_step j h ps i (seed_at z hash slot j i h)

  along : planned z hash slot j h is ≡ (planned z hash slot (other z hash g.0 j) g ms then last)
  along = ap (planned z hash slot j h) next ∙ ap (λ (x : Slot). x then (λ q. planned z hash slot (other z hash q.0 j) q ms then last)) at

  pub move_dead : none ≡ planned z hash slot (other z hash g.0 j) g ms → none ≡ planned z hash slot j h is
  move_dead e = ap (λ (o : Option (List Placement)). o then last) e ∙ sym along

  pub move_at : (ps : List Placement) → some ps ≡ planned z hash slot (other z hash g.0 j) g ms → last ps ≡ planned z hash slot j h is
  move_at ps e = ap (λ (o : Option (List Placement)). o then last) e ∙ sym along

-- the plan with its last step
module _ (z : Sizes) (slot : ℕ → ℕ → Slot) (j i m : ℕ) (h g : Held) (at : slot j i ≡ some g) (ps : List Placing) (made : Made z slot m ps) where
  pub plan_more : (r : CodeOption (ShortList Placing)) (seed : Option ℕ) → steps_of r ≡ with_last ps j i seed → plan_of slot h r ≡ last_step j h (placements_of slot ps g) i seed
  plan_more None none e = refl
  plan_more None (some s) e = absurd (never e)
  plan_more (Some p) none e = absurd (never (sym e))
  plan_more (Some p) (some s) e = ap (λ (l : List Placing). some (placements_of slot l h)) (some_same e) ∙ ap some (placements_more slot ps j i s h g at made.whole)

  pub made_next : (r : CodeOption (ShortList Placing)) (seed : Option ℕ) → steps_of r ≡ with_last ps j i seed → m < 4 → j < z.buckets → i < 4 → MadeIf z slot (m + 1) r
  made_next None seed e few lj li = tt
  made_next (Some p) none e few lj li = absurd (never (sym e))
  made_next (Some p) (some s) e few lj li = subst (Made z slot (m + 1)) (sym (some_same e)) (made_more slot ps j i s z m g at few lj li made)
