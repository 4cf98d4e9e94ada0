-- The walk of a chain, move by move.
use Rattle.std.proofs.Common.{◌≡◌, ℕ, zero, suc, ◌+◌, ◌-◌, ◌<◌, Bool, true, false, cond, eqb, ◌||◌, List, [], ◌∷◌, ◌++◌, length, get_or, reverse, take, sym, refl, ap, ◌∙◌, subst, ap₂, inl, inr, arith, length-append}
use mathlib.Core.Option.{Option, none, some}
use Rattle.std.specs.List.{IsAnyAnswer}
use Rattle.std.specs.Prelude.{Option as CodeOption}
use Rattle.std.proofs.lemmas.List.Elements.{contains_decides}
use Rattle.std.proofs.Math.Seq.{take-append_seam, get_or-append_seam}
use Rattle.std.proofs.Math.ListN.{get_or-append}
use Rattle.std.proofs.lemmas.Bool.{cases_lt}
use Rattle.std.proofs.lemmas.List.{reverse-append}
use Rattle.std.proofs.lemmas.Bool.Decides.{same_from_decides, Decides-eqb, Decides-like, Decides-by_or}
use Rattle.shared.specs.declared.sizes.Sizes.{Sizes}
use Rattle.shared.specs.Book.{Held, Slot, empty_slot, other, walk}
use Rattle.shared.specs.Kinds.{Hash}
use Rattle.shared.specs.Lists.{first_answer, memb, ◌then◌}
use Rattle.shared.specs.Table.{Part}
use Rattle.shared_places.specs.declared.Places.{Places}
use Rattle.shared_places.specs.Places.{Placed, other_of}
use Rattle.book_slots.specs.declared.Held.{Held as HeldIn}
use Rattle.book_slots.specs.Slots.{viewed, slot_in, four_of}
use Rattle.book_chains.specs.Paths.{next_of, Picks}

-- what `contains` answers
contains_memb : (xs : List ℕ) (x : ℕ) (r : Bool) → IsAnyAnswer (λ y t. eqb y x ≡ t) xs r → r ≡ memb x xs
contains_memb xs x r h =
    same_from_decides r (memb x xs) (contains_decides eqb Decides-eqb xs x r h)
    (Decides-by_or (λ y. eqb x y) (λ y. y ≡ x) (memb x) (λ y. Decides-like (eqb x y) sym sym (Decides-eqb x y)) refl (λ _ _. refl) xs)

-- a list has the same numbers in either order
or_last : (a b : Bool) → (b || (a || false)) ≡ (a || b)
or_last true true = refl
or_last true false = refl
or_last false true = refl
or_last false false = refl

or_assoc : (a b c d : Bool) → b ≡ (c || d) → (a || b) ≡ ((a || c) || d)
or_assoc true b c d e = refl
or_assoc false b c d e = e

memb-append : (x : ℕ) (xs ys : List ℕ) → memb x (xs ++ ys) ≡ (memb x xs || memb x ys)
memb-append x [] ys = refl
memb-append x (y ∷ xs) ys = or_assoc (eqb x y) _ _ _ (memb-append x xs ys)

pub memb-reverse : (x : ℕ) (xs : List ℕ) → memb x (reverse xs) ≡ memb x xs
memb-reverse x [] = refl
memb-reverse x (y ∷ xs) =
    ap (memb x) (reverse-append (y ∷ []) xs)
    ∙ memb-append x (reverse xs) (y ∷ [])
    ∙ or_last (eqb x y) (memb x (reverse xs))
    ∙ ap (λ (b : Bool). eqb x y || b) (memb-reverse x xs)

-- the other bucket of a part, by its places
module _ (z : Sizes) (hash : Hash) (k : Part) (p : Places) (placed : Placed z hash k p) (j : ℕ) where
  other-is : other_of p j ≡ other z hash k j
  other-is = ap₂ (λ (x y : ℕ). cond (eqb x j) y x) placed.first placed.second

  pub other-low : other_of p j < z.buckets
  other-low = go (eqb p.first j)
    where
      go : (b : Bool) → cond b p.second p.first < z.buckets
      go true = placed.low_second
      go false = placed.low_first

module _ (z : Sizes) (hash : Hash) where
  -- where a held part goes, as the code finds it
  pub next-held : (h : Held) (j : ℕ) (seen : List ℕ) (p : Places) → Placed z hash h.0 p → (o : ℕ) → o ≡ other_of p j → (r b : Bool) → IsAnyAnswer (λ y t. eqb y o ≡ t) seen r → r ≡ b
      → elim b [ true ↦ none | false ↦ some o ] ≡ next_of z hash (some h) j seen
  next-held h j seen p placed o e r b any is =
      ap (λ (c : Bool). elim c as (λ (d : Bool). Option ℕ) [ true ↦ none | false ↦ some o ]) (sym is ∙ contains_memb seen o r any)
      ∙ ap (λ (q : ℕ). elim (memb q seen) as (λ (c : Bool). Option ℕ) [ true ↦ none | false ↦ some q ]) (e ∙ other-is z hash h.0 p placed j)

  pub next-reverse : (x : Slot) (j : ℕ) (seen : List ℕ) → next_of z hash x j (reverse seen) ≡ next_of z hash x j seen
  next-reverse none j seen = refl
  next-reverse (some h) j seen = let o = other z hash h.0 j in ap (λ (b : Bool). elim b as (λ (c : Bool). Option ℕ) [ true ↦ none | false ↦ some o ]) (memb-reverse o seen)

module _ (z : Sizes) (hash : Hash) (slot : ℕ → ℕ → Slot) where
  -- the chains that have slot i first and m more moves
  abbrev pub through : ℕ → ℕ → List ℕ → ℕ → Option (List ℕ)
  through m j seen i =
      slot j i then (λ h.
      let o = other z hash h.0 j in
      elim (memb o seen) [ true ↦ none | false ↦ walk z hash slot m o (o ∷ seen) then (λ is. some (i ∷ is)) ])

  through-next : (m j : ℕ) (seen : List ℕ) (i : ℕ) → through m j seen i ≡ (next_of z hash (slot j i) j seen then (λ o. walk z hash slot m o (o ∷ seen) then (λ is. some (i ∷ is))))
  through-next m j seen i = go (slot j i)
    where
      at : (o : ℕ) (b : Bool) → elim b [ true ↦ none | false ↦ walk z hash slot m o (o ∷ seen) then (λ is. some (i ∷ is)) ] ≡ (◌then◌ {A = ℕ} {B = List ℕ} (elim b [ true ↦ none | false ↦ some o ]) (λ o. walk z hash slot m o (o ∷ seen) then (λ is. some (i ∷ is))))
      at o true = refl
      at o false = refl

      go : (x : Slot) → (x then (λ h. let o = other z hash h.0 j in elim (memb o seen) [ true ↦ none | false ↦ walk z hash slot m o (o ∷ seen) then (λ is. some (i ∷ is)) ])) ≡ ((x then (λ h. let o = other z hash h.0 j in elim (memb o seen) [ true ↦ none | false ↦ some o ])) then (λ o. walk z hash slot m o (o ∷ seen) then (λ is. some (i ∷ is))))
      go none = refl
      go (some h) = at (other z hash h.0 j) (memb (other z hash h.0 j) seen)

  longer : (trail : List ℕ) (o : ℕ) → reverse (trail ++ (o ∷ [])) ≡ o ∷ reverse trail
  longer trail o = reverse-append trail (o ∷ [])

  abbrev walked : ℕ → List ℕ → ℕ → Option ℕ → Option (List ℕ)
  walked m trail i next = next then (λ o. walk z hash slot m o (o ∷ reverse trail) then (λ is. some (i ∷ is)))

  -- the trail in code has the newest bucket last, and the slots of a path its first move
  pub through-none : (m j : ℕ) (trail : List ℕ) (i : ℕ) → none ≡ next_of z hash (slot j i) j trail → through m j (reverse trail) i ≡ none
  through-none m j trail i e = through-next m j (reverse trail) i ∙ sym (ap (walked m trail i) (e ∙ sym (next-reverse z hash (slot j i) j trail)))

  pub through-dead : (m j : ℕ) (trail : List ℕ) (i o : ℕ) → some o ≡ next_of z hash (slot j i) j trail → none ≡ walk z hash slot m o (reverse (trail ++ (o ∷ []))) → through m j (reverse trail) i ≡ none
  through-dead m j trail i o e f =
      through-next m j (reverse trail) i
      ∙ sym (ap (walked m trail i) (e ∙ sym (next-reverse z hash (slot j i) j trail)))
      ∙ sym (ap (λ (x : Option (List ℕ)). x then (λ is. some (i ∷ is))) (f ∙ ap (walk z hash slot m o) (longer trail o)))

  pub through-live : (m j : ℕ) (trail : List ℕ) (i o : ℕ) (ps : List ℕ) → some o ≡ next_of z hash (slot j i) j trail → some (reverse ps) ≡ walk z hash slot m o (reverse (trail ++ (o ∷ []))) → through m j (reverse trail) i ≡ some (reverse (ps ++ (i ∷ [])))
  through-live m j trail i o ps e f =
      through-next m j (reverse trail) i
      ∙ sym (ap (walked m trail i) (e ∙ sym (next-reverse z hash (slot j i) j trail)))
      ∙ sym (ap (λ (x : Option (List ℕ)). x then (λ is. some (i ∷ is))) (f ∙ ap (walk z hash slot m o) (longer trail o)))
      ∙ ap (λ (l : List ℕ). some l) (sym (longer ps i))

  -- where the part in a slot goes that was read as x
  pub goes : (j i : ℕ) (x : Slot) (seen trail : List ℕ) (o : Option ℕ) → x ≡ slot j i → seen ≡ trail → o ≡ next_of z hash x j seen → o ≡ next_of z hash (slot j i) j trail
  goes j i x seen trail o e f n = n ∙ ap₂ (λ (y : Slot) (l : List ℕ). next_of z hash y j l) e f

  -- a walk of some moves, and of none
  pub walk-some : (m j : ℕ) (seen : List ℕ) → 0 < m → walk z hash slot m j seen ≡ first_answer (through (m - 1) j seen) 0 4
  unfolding walk
  walk-some m j seen h = let s : m ≡ suc (m - 1) = omega arith in ap (λ (k : ℕ). walk z hash slot k j seen) s

  pub walk-none : (m j : ℕ) (seen : List ℕ) → m ≡ 0 → walk z hash slot m j seen ≡ (empty_slot slot j then (λ i. some []))
  unfolding walk
  walk-none m j seen e = ap (λ (k : ℕ). walk z hash slot k j seen) e

-- a slot of the four of a bucket
pub four-at : {P S : Type 0} (bytes : P → List ℕ) (numbers : S → List ℕ) (xs : List (CodeOption (HeldIn P S))) (j i : ℕ) (x : CodeOption (HeldIn P S)) (four : List (CodeOption (HeldIn P S)))
    → four ≡ four_of xs j → i < 4 → x ≡ get_or four i x → viewed bytes numbers x ≡ slot_in bytes numbers xs j i
four-at {P} {S} bytes numbers xs j i x four e few is =
    ap (viewed bytes numbers) (is ∙ ap (λ (l : List (CodeOption (HeldIn P S))). get_or l i x) e) ∙ at i few
  where
    at : (k : ℕ) → k < 4 → viewed bytes numbers (get_or (four_of xs j) k x) ≡ slot_in bytes numbers xs j k
    at zero h = refl
    at (suc zero) h = refl
    at (suc (suc zero)) h = refl
    at (suc (suc (suc zero))) h = refl
    at (suc (suc (suc (suc k)))) h = absurd (omega arith)

-- one more slot of a path
pub picks_more : (is js : List ℕ) (m i : ℕ) → 0 < m → i < 4 → js ≡ is ++ (i ∷ []) → Picks is (m - 1) → Picks js m
picks_more is js m i pos few e p =
    let long : length js ≡ length is + 1 = ap length e ∙ length-append is (i ∷ []) in
    record {
      many = omega (arith, p.many);
      low = λ k h. elim (cases_lt k (length is)) [
        | inl l ↦ subst (λ (n : ℕ). n < 4) (sym (ap (λ (l : List ℕ). get_or l k 0) e ∙ get_or-append is (i ∷ []) 0 k l)) (p.low k l)
        | inr n ↦
            let last : k ≡ length is = omega arith in
            subst (λ (n : ℕ). n < 4) (sym (ap₂ (λ (l : List ℕ) (q : ℕ). get_or l q 0) e last ∙ get_or-append_seam is i [] 0)) few
      ];
    }
