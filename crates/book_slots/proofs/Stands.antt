-- The first slot of a bucket that is empty, and the first of all that holds a part, by their index.
use Rattle.std.proofs.Common.{◌≡◌, ℕ, zero, suc, ◌+◌, ◌*◌, ◌/◌, ◌%◌, ◌<◌, Bool, true, false, cond, List, length, get_or, drop, sym, refl, ap, ap₂, ◌∙◌, arith, drop_of_length-le}
use mathlib.Core.Option.{none, some}
use Rattle.std.proofs.Math.Option.{Option as RuleOption}
use Rattle.std.specs.Prelude.{Option, Some, None, is_none}
use Rattle.std.specs.List.{position_from}
use Rattle.shared.specs.declared.sizes.Sizes.{Sizes}
use Rattle.shared.specs.Answers.{optional}
use Rattle.shared.specs.Book.{is_empty, empty_slot, where_is}
use Rattle.shared.specs.Lists.{same_list, first_answer, ◌then◌}
use Rattle.shared.specs.Table.{Part}
use Rattle.book_slots.specs.declared.Held.{Held}
use Rattle.book_slots.specs.Slots.{viewed, slot_in, four_of, holds}
use Rattle.book_slots.specs.Spots.{spot_at, spot_in}
use Rattle.book_slots.proofs.Firsts.{first_from-position, answer-cond, answer-four}
use Rattle.book_slots.proofs.Slots.{drop-four}

-- an index of a slot as its bucket and its number there
abbrev pub place_at : ℕ → ℕ × ℕ
place_at q = (q / 4, q % 4)

abbrev pub placed : Option ℕ → RuleOption (ℕ × ℕ)
placed None = none
placed (Some q) = some (place_at q)

placed-cond : (b : Bool) (q : ℕ) (o : Option ℕ) (x : ℕ × ℕ) (r : RuleOption (ℕ × ℕ)) → place_at q ≡ x → placed o ≡ r → placed (cond b (Some q) o) ≡ cond b (some x) r
placed-cond true q o x r e rest = ap some e
placed-cond false q o x r e rest = rest

at_four : (j i q : ℕ) → q ≡ 4 * j + i → i < 4 → place_at q ≡ (j, i)
at_four j i q e h =
    let quotient : q / 4 ≡ j = omega arith in
    let rest : q % 4 ≡ i = omega arith in
    ap₂ (λ (a b : ℕ). (a, b)) quotient rest

module _ {P S : Type 0} (bytes : P → List ℕ) (numbers : S → List ℕ) where
  empty-viewed : (x : Option (Held P S)) → is_empty (viewed bytes numbers x) ≡ is_none x
  empty-viewed None = refl
  empty-viewed (Some h) = refl

  empty-at : (xs : List (Option (Held P S))) (j k : ℕ) → k < 4 → is_empty (slot_in bytes numbers xs j (0 + k)) ≡ is_none (get_or (four_of xs j) k None)
  empty-at xs j zero h = empty-viewed _
  empty-at xs j (suc zero) h = empty-viewed _
  empty-at xs j (suc (suc zero)) h = empty-viewed _
  empty-at xs j (suc (suc (suc zero))) h = empty-viewed _
  empty-at xs j (suc (suc (suc (suc k)))) h = absurd (omega arith)

  pub empty_slot-position : (xs : List (Option (Held P S))) (j : ℕ) → empty_slot (slot_in bytes numbers xs) j ≡ optional (position_from is_none 0 (four_of xs j))
  empty_slot-position xs j = first_from-position is_none (λ i. is_empty (slot_in bytes numbers xs j i)) None (four_of xs j) 0 (empty-at xs j)

  module _ (k : Part) where
    spot-viewed : (x : Option (Held P S)) (j i : ℕ) → ◌then◌ {B = ℕ × ℕ} (viewed bytes numbers x) (λ h. cond (same_list k h.0) (some (j, i)) none) ≡ cond (holds bytes k x) (some (j, i)) none
    spot-viewed None j i = refl
    spot-viewed (Some h) j i = refl

    -- the spots of the buckets from j on
    stands_from : (xs : List (Option (Held P S))) (n j : ℕ) → length xs ≡ 4 * (j + n) → first_answer (spot_in (slot_in bytes numbers xs) k) j n ≡ placed (position_from (holds bytes k) (4 * j) (drop (4 * j) xs))
    unfolding first_answer
    stands_from xs zero j e = sym (ap (λ (ys : List (Option (Held P S))). placed (position_from (holds bytes k) (4 * j) ys)) (drop_of_length-le xs {i = 4 * j} (omega arith)))
    stands_from xs (suc n) j e =
        let p : Option (Held P S) → Bool = holds bytes k in
        let s = slot_in bytes numbers xs in
        let f = spot_at s k j in
        let at : (i : ℕ) → Option (Held P S) = λ i. get_or xs (4 * j + i) None in
        let next : 4 * suc j ≡ 4 * j + 1 + 1 + 1 + 1 = omega arith in
        let next' : 4 * suc j ≡ 4 * j + 4 = omega arith in
        let rest = ap₂ (λ (q r : ℕ). placed (position_from p q (drop r xs))) next next' in
        answer-four (spot_in s k) j n (p (at 0)) (p (at 1)) (p (at 2)) (p (at 3)) (j, 0) (j, 1) (j, 2) (j, 3) _
        (answer-cond f 0 3 _ _ _ (spot-viewed (at 0) j 0) (answer-cond f 1 2 _ _ _ (spot-viewed (at 1) j 1) (answer-cond f 2 1 _ _ _ (spot-viewed (at 2) j 2) (answer-cond f 3 0 _ _ _ (spot-viewed (at 3) j 3) refl))))
        (stands_from xs n (suc j) (omega arith) ∙ rest)
        ∙ sym (placed-cond (p (at 0)) (4 * j) _ (j, 0) _ (at_four j 0 (4 * j) (omega arith) (omega arith))
        (placed-cond (p (at 1)) (4 * j + 1) _ (j, 1) _ (at_four j 1 (4 * j + 1) (omega arith) (omega arith))
        (placed-cond (p (at 2)) (4 * j + 1 + 1) _ (j, 2) _ (at_four j 2 (4 * j + 1 + 1) (omega arith) (omega arith))
        (placed-cond (p (at 3)) (4 * j + 1 + 1 + 1) _ (j, 3) _ (at_four j 3 (4 * j + 1 + 1 + 1) (omega arith) (omega arith)) refl))))
        ∙ sym (ap (λ (ys : List (Option (Held P S))). placed (position_from p (4 * j) ys)) (drop-four xs j (omega arith)))

    pub where_is-position : (z : Sizes) (xs : List (Option (Held P S))) → length xs ≡ 4 * z.buckets → where_is z (slot_in bytes numbers xs) k ≡ placed (position_from (holds bytes k) 0 xs)
    where_is-position z xs e = stands_from xs z.buckets 0 (omega arith)
