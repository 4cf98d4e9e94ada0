-- The slots of the slice as the rules' buckets.
use Rattle.std.proofs.Common.{◌≡◌, ℕ, zero, suc, ◌+◌, ◌*◌, ◌<◌, ◌≤◌, Bool, true, false, cond, ◌&&◌, eqb, ltb, List, [], ◌∷◌, ◌++◌, map, length, get_or, take, drop, set, sym, refl, ap, ◌∙◌, ap₂, append-nil, arith, drop_of_length-le, drop-cons}
use mathlib.Core.List.{map-append}
use mathlib.Core.Option.{none, some}
use Rattle.std.specs.Prelude.{Option, Some, None}
use Rattle.std.proofs.lemmas.List.{get_or_read}
use Rattle.std.proofs.lemmas.Bool.{cond-true, eq-eqb, lt-ltb}
use Rattle.shared.specs.declared.sizes.Sizes.{Sizes}
use Rattle.shared.specs.Book as rules
use Rattle.shared.specs.Book.{held_in, contents, contents_from, part_of, standing}
use Rattle.shared.specs.Lists.{up_from, at2}
use Rattle.book_slots.specs.declared.Held.{Held}
use Rattle.book_slots.specs.Slots.{viewed, slot_in, parts, four_of}

-- the slots from bucket j on begin with its four
one_more : {P S : Type 0} (xs : List (Option (Held P S))) (k i : ℕ) → k + i < length xs → drop (k + i) xs ≡ get_or xs (k + i) None ∷ drop (k + (i + 1)) xs
one_more xs k i h =
    let e : suc (k + i) ≡ k + (i + 1) = omega arith in
    drop-cons xs (k + i) None h ∙ ap (λ (n : ℕ). get_or xs (k + i) None ∷ drop n xs) e

pub drop-four : {P S : Type 0} (xs : List (Option (Held P S))) (j : ℕ) → 4 * j + 4 ≤ length xs → drop (4 * j) xs ≡ four_of xs j ++ drop (4 * j + 4) xs
drop-four {P} {S} xs j h =
    let k = 4 * j in
    let z : k ≡ k + 0 = omega arith in
    ap (λ (n : ℕ). drop n xs) z
    ∙ one_more xs k 0 (omega arith)
    ∙ ap (λ (l : List (Option (Held P S))). get_or xs (k + 0) None ∷ l) (one_more xs k 1 (omega arith)
    ∙ ap (λ (l : List (Option (Held P S))). get_or xs (k + 1) None ∷ l) (one_more xs k 2 (omega arith)
    ∙ ap (λ (l : List (Option (Held P S))). get_or xs (k + 2) None ∷ l) (one_more xs k 3 (omega arith))))

-- the slice of bucket j
pub slice_four : {P S : Type 0} (xs : List (Option (Held P S))) (j n : ℕ) → n ≡ 4 → 4 * j + 4 ≤ length xs → take n (drop (4 * j) xs) ≡ four_of xs j
slice_four {P} {S} xs j n e h = ap₂ (λ (m : ℕ) (l : List (Option (Held P S))). take m l) e (drop-four xs j h)

module _ {P S : Type 0} (bytes : P → List ℕ) (numbers : S → List ℕ) where
  -- the slot that was read at 4j + i, as the rules see it
  pub seen_as : (xs : List (Option (Held P S))) (j i : ℕ) (x y : Option (Held P S)) → 4 * j + i < length xs → i < 4 → x ≡ get_or xs (4 * j + i) x → x ≡ y → slot_in bytes numbers xs j i ≡ viewed bytes numbers y
  seen_as xs j i x y h few is e = cond-true (ltb i 4) _ none (lt-ltb i 4 few) ∙ ap (viewed bytes numbers) (sym (get_or_read xs (4 * j + i) x h is None) ∙ e)

  pub parts-append : (xs ys : List (Option (Held P S))) → parts bytes (xs ++ ys) ≡ map part_of (held_in (map (viewed bytes numbers) xs)) ++ parts bytes ys
  unfolding parts
  parts-append [] ys = refl
  parts-append (None ∷ xs) ys = parts-append xs ys
  parts-append (Some h ∷ xs) ys = ap (λ (l : List (List ℕ)). bytes h.part ∷ l) (parts-append xs ys)

  standing-from : (xs : List (Option (Held P S))) (m j : ℕ) → length xs ≡ 4 * (j + m) → map part_of (contents_from (slot_in bytes numbers xs) (up_from j m)) ≡ parts bytes (drop (4 * j) xs)
  unfolding parts
  standing-from xs zero j e = sym (ap (parts bytes) (drop_of_length-le xs {i = 4 * j} (omega arith)))
  standing-from xs (suc m) j e =
      let next : 4 * suc j ≡ 4 * j + 4 = omega arith in
      map-append part_of (contents (slot_in bytes numbers xs) j) (contents_from (slot_in bytes numbers xs) (up_from (suc j) m))
      ∙ ap (λ (l : List (List ℕ)). map part_of (contents (slot_in bytes numbers xs) j) ++ l) (standing-from xs m (suc j) (omega arith) ∙ ap (λ (n : ℕ). parts bytes (drop n xs)) next)
      ∙ sym (ap (parts bytes) (drop-four xs j (omega arith)) ∙ parts-append (four_of xs j) (drop (4 * j + 4) xs))

  -- the standing parts
  pub standing-parts : (z : Sizes) (xs : List (Option (Held P S))) → length xs ≡ 4 * z.buckets → map part_of (standing z (slot_in bytes numbers xs)) ≡ parts bytes xs
  standing-parts z xs e = standing-from xs z.buckets 0 (omega arith)

  parts_held : (xs : List (Option (Held P S))) → parts bytes xs ≡ map part_of (held_in (map (viewed bytes numbers) xs))
  unfolding parts
  parts_held xs = ap (parts bytes) (sym (append-nil xs)) ∙ parts-append xs [] ∙ append-nil (map part_of (held_in (map (viewed bytes numbers) xs)))

  -- the four slots of a bucket with one written
  written : (xs : List (Option (Held P S))) (j i : ℕ) (h : Held P S) → i < 4 → (b : Bool) → b ≡ true
      → map (viewed bytes numbers) (set (four_of xs j) i (Some h)) ≡ (cond (b && eqb 0 i) (some (bytes h.part, numbers h.setting)) (slot_in bytes numbers xs j 0) ∷ cond (b && eqb 1 i) (some (bytes h.part, numbers h.setting)) (slot_in bytes numbers xs j 1) ∷ cond (b && eqb 2 i) (some (bytes h.part, numbers h.setting)) (slot_in bytes numbers xs j 2) ∷ cond (b && eqb 3 i) (some (bytes h.part, numbers h.setting)) (slot_in bytes numbers xs j 3) ∷ [])
  written xs j zero g few true t = refl
  written xs j (suc zero) g few true t = refl
  written xs j (suc (suc zero)) g few true t = refl
  written xs j (suc (suc (suc zero))) g few true t = refl
  written xs j (suc (suc (suc (suc i)))) g few true t = absurd (omega arith)
  written xs j i g few false t = absurd (let q : ◌≡◌ {A = ℕ} 0 1 = cc in omega arith)

  pub four-with : (xs : List (Option (Held P S))) (j i : ℕ) (h : Held P S) → i < 4 → parts bytes (set (four_of xs j) i (Some h)) ≡ map part_of (contents (at2 (slot_in bytes numbers xs) j i (some (bytes h.part, numbers h.setting))) j)
  four-with xs j i h few = parts_held (set (four_of xs j) i (Some h)) ∙ ap (λ (l : List rules.Slot). map part_of (held_in l)) (written xs j i h few (eqb j j) (eq-eqb j j refl))
