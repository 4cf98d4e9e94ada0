-- Chains that the searches walk, and how a part is placed along one.
use Rattle.std.proofs.Common.{◌≡◌, ℕ, zero, suc, ◌+◌, ◌<◌, Bool, true, false, cond, eqb, ◌⊎◌, List, [], ◌∷◌, ◌++◌, map, length, sym, refl, ap, ◌∙◌, subst, inl, inr, arith}
use mathlib.Core.Option.{Option, none, some}
use Rattle.std.proofs.lemmas.Bool.{ne_eqb, both_ways, or_right, or_from}
use Rattle.shared.specs.declared.sizes.Sizes.{Sizes}
use Rattle.shared.specs.Book.{Held, Slot, Book, part_of, is_empty, empty_slot, slots, seed_for, other, walk, chain, holding, book_after, step_for, written, placed}
use Rattle.shared.specs.Kinds.{Hash}
use Rattle.shared.specs.Lists.{Among, memb, apart, ◌then◌, ◌or_else◌, at2}
use Rattle.shared.specs.Notice.{Setting, Step}
use Rattle.shared.specs.Table.{Part, slot_of, h0, h1}
use Rattle.chain_laws.specs.Chains.{Chain, ChainFor}
use Rattle.chain_laws.proofs.Tools.{never, some_same, then_some, or_some, first_from_lem, first_answer-low, among_memb, at2-other}

module _ (z : Sizes) (hash : Hash) where
  -- what is not on a list
  pub not-among : (x : ℕ) (xs : List ℕ) → memb x xs ≡ false → Among x xs → ⊥
  not-among x xs e m = both_ways (memb x xs) e (among_memb x xs m)

  pub not-memb : (x : ℕ) (xs : List ℕ) → (Among x xs → ⊥) → memb x xs ≡ false
  not-memb x [] n = refl
  not-memb x (y ∷ ys) n = or_from (eqb x y) (memb x ys) (ne_eqb x y (λ e. n (inl e))) (not-memb x ys (λ m. n (inr m)))

  empty_none : (s : Slot) → is_empty s ≡ true → s ≡ none
  empty_none none e = refl
  empty_none (some h) e = absurd (both_ways false refl e)

  -- the slot that a search for an empty one gives
  pub empty_at : (slot : ℕ → ℕ → Slot) (j i : ℕ) → empty_slot slot j ≡ some i → (i < 4) × (slot j i ≡ none)
  empty_at slot j i e =
      let r = first_from_lem (λ q. is_empty (slot j q)) 0 4 i e in
      (r.1, empty_none (slot j i) r.0)

  -- what the search walks is a chain of as many moves as it was asked for
  pub walk-chain : (slot : ℕ → ℕ → Slot) (m j : ℕ) (seen is : List ℕ) → walk z hash slot m j seen ≡ some is → Chain z hash slot is j seen × (length is ≡ m)
  unfolding walk
  walk-chain slot zero j seen is e =
      let r = then_some (empty_slot slot j) (λ i. some []) is e in
      let a = empty_at slot j r.0 r.1 in
      subst (λ (w : List ℕ). Chain z hash slot w j seen × (length w ≡ 0)) (some_same r.2) ((r.0, a.0, a.1), refl)
  walk-chain slot (suc m) j seen is e = go (walk-chain slot m) r.1
    where
      next : ℕ → Held → Option (List ℕ)
      next i h = let o = other z hash h.0 j in elim (memb o seen) [ true ↦ none | false ↦ walk z hash slot m o (o ∷ seen) then (λ ks. some (i ∷ ks)) ]

      r : (i : ℕ) × ((slot j i then next i) ≡ some is) × (i < 0 + 4)
      r = first_answer-low (λ i. slot j i then next i) 0 4 is e

      go : ((o : ℕ) (seen' ks : List ℕ) → walk z hash slot m o seen' ≡ some ks → Chain z hash slot ks o seen' × (length ks ≡ m)) → (slot j r.0 then next r.0) ≡ some is
          → Chain z hash slot is j seen × (length is ≡ suc m)
      go ih f = at_test (memb o seen) refl t.2
        where
          t : (h : Held) × (slot j r.0 ≡ some h) × (next r.0 h ≡ some is)
          t = then_some (slot j r.0) (next r.0) is f

          o : ℕ
          o = other z hash t.0.0 j

          at_test : (b : Bool) → memb o seen ≡ b
              → elim b as (λ (c : Bool). Option (List ℕ)) [ true ↦ none | false ↦ walk z hash slot m o (o ∷ seen) then (λ ks. some (r.0 ∷ ks)) ] ≡ some is → Chain z hash slot is j seen × (length is ≡ suc m)
          at_test true u v = absurd (never v)
          at_test false u v =
              let w = then_some (walk z hash slot m o (o ∷ seen)) (λ ks. some (r.0 ∷ ks)) is v in
              let c = ih o (o ∷ seen) w.0 w.1 in
              subst (λ (y : List ℕ). Chain z hash slot y j seen × (length y ≡ suc m)) (some_same w.2) ((t.0, r.2, t.1, not-among o seen u, c.0), ap suc c.1)

  -- the chain that the rules choose is one for its part
  pub chain-found : (slot : ℕ → ℕ → Slot) (k : Part) (c : ℕ × List ℕ) → chain z hash slot k ≡ some c → ChainFor z hash slot k c
  chain-found slot k c e = go (or_some _ _ c r.1)
    where
      from : ℕ → ℕ → Option (ℕ × List ℕ)
      from j m = walk z hash slot m j (j ∷ []) then (λ is. some (j, is))

      r : (m : ℕ) × ((from (h0 z hash k) m or_else from (h1 z hash k) m) ≡ some c) × (m < 0 + 5)
      r = first_answer-low (λ m. from (h0 z hash k) m or_else from (h1 z hash k) m) 0 5 c e

      one : (j : ℕ) → (j ≡ h0 z hash k) ⊎ (j ≡ h1 z hash k) → from j r.0 ≡ some c → ChainFor z hash slot k c
      one j side f =
          let w = then_some (walk z hash slot r.0 j (j ∷ [])) (λ is. some (j, is)) c f in
          let a = walk-chain slot r.0 j (j ∷ []) w.0 w.1 in
          let long : length w.0 ≡ r.0 = a.1 in
          let few : r.0 < 0 + 5 = r.2 in
          subst (λ (y : ℕ × List ℕ). ChainFor z hash slot k y) (some_same w.2) (record { side = side; few = omega arith; moves = a.0 })

      go : (from (h0 z hash k) r.0 ≡ some c) ⊎ (from (h1 z hash k) r.0 ≡ some c) → ChainFor z hash slot k c
      go (inl f) = one (h0 z hash k) (inl refl) f
      go (inr f) = one (h1 z hash k) (inr refl) f

  pub seen_apart : (o c : ℕ) (seen : List ℕ) → memb o seen ≡ false → memb c seen ≡ true → o ≡ c → ⊥
  seen_apart o c seen n y e = both_ways (memb c seen) (subst (λ (w : ℕ). memb w seen ≡ false) e n) y

  -- a change in a bucket behind us leaves the rest of a chain
  pub chain-kept : (slot slot' : ℕ → ℕ → Slot) (c : ℕ) → ((p q : ℕ) → (p ≡ c → ⊥) → slot' p q ≡ slot p q)
      → (is : List ℕ) (j : ℕ) (seen : List ℕ) → memb c seen ≡ true → (j ≡ c → ⊥) → Chain z hash slot is j seen → Chain z hash slot' is j seen
  chain-kept slot slot' c same [] j seen y n ch = (ch.0, ch.1, same j ch.0 n ∙ ch.2)
  chain-kept slot slot' c same (i ∷ is) j seen y n ch =
      let o = other z hash ch.0.0 j in
      (ch.0, ch.1, same j i n ∙ ch.2, ch.3, chain-kept slot slot' c same is o (o ∷ seen) (or_right (eqb c o) (memb c seen) y) (seen_apart o c seen (not-memb o seen ch.3) y) ch.4)

  -- what is left of a chain when the part in its first slot has been taken out
  pub chain_next : (slot : ℕ → ℕ → Slot) (i : ℕ) (is : List ℕ) (j : ℕ) (seen : List ℕ) (g : Held) → slot j i ≡ some g → memb j seen ≡ true → Chain z hash slot (i ∷ is) j seen
      → (memb (other z hash g.0 j) seen ≡ false) × (other z hash g.0 j ≡ j → ⊥) × Chain z hash (at2 slot j i none) is (other z hash g.0 j) (other z hash g.0 j ∷ seen)
  chain_next slot i is j seen g e y ch = (unseen, away, chain-kept slot (at2 slot j i none) j (λ p q n. at2-other slot j i none p q (λ x v. n x)) is o (o ∷ seen) (or_right (eqb j o) (memb j seen) y) away rest)
    where
      o : ℕ
      o = other z hash g.0 j

      link : ch.0 ≡ g
      link = some_same (sym ch.2 ∙ e)

      unseen : memb o seen ≡ false
      unseen = subst (λ (v : Held). memb (other z hash v.0 j) seen ≡ false) link (not-memb (other z hash ch.0.0 j) seen ch.3)

      rest : Chain z hash slot is o (o ∷ seen)
      rest = subst (λ (v : Held). Chain z hash slot is (other z hash v.0 j) (other z hash v.0 j ∷ seen)) link ch.4

      away : o ≡ j → ⊥
      away = seen_apart o j seen unseen y

  pub other-side : (k : Part) (j : ℕ) → (other z hash k j ≡ h0 z hash k) ⊎ (other z hash k j ≡ h1 z hash k)
  other-side k j = go (eqb (h0 z hash k) j)
    where
      go : (b : Bool) → (cond b (h1 z hash k) (h0 z hash k) ≡ h0 z hash k) ⊎ (cond b (h1 z hash k) (h0 z hash k) ≡ h1 z hash k)
      go true = inr refl
      go false = inl refl

-- How a part was placed: at the chain's end, or after the part in its slot moved on
module _ (z : Sizes) (hash : Hash) (blank : Setting) (before : List Part) (b : Book) (j : ℕ) (h : Held) where
  pub written_as : (i : ℕ) (w : Book × Step) → written z hash blank before b j i h ≡ some w
      → (s : ℕ) × (apart (map (slot_of hash s) (map part_of (holding z hash blank b j i h))) ≡ true) × ((book_after z hash blank before b j i h s, step_for z hash blank before b j i h s) ≡ w) × (s < 256)
  written_as i w e =
      let r = then_some (seed_for hash (map part_of (holding z hash blank b j i h))) (λ s. some (book_after z hash blank before b j i h s, step_for z hash blank before b j i h s)) w e in
      let t = first_from_lem (λ s. apart (map (slot_of hash s) (map part_of (holding z hash blank b j i h)))) 0 256 r.0 r.1 in
      (r.0, t.0, some_same r.2, t.1)

  pub placed-last : (r : Book × List Step) → placed z hash blank before b j h [] ≡ some r
      → (i : ℕ) × (w : Book × Step) × (empty_slot b.slot j ≡ some i) × (written z hash blank before b j i h ≡ some w) × ((w.0, w.1 ∷ []) ≡ r)
  placed-last r e =
      let f = then_some (empty_slot b.slot j) (λ i. written z hash blank before b j i h then (λ w. some (w.0, w.1 ∷ []))) r e in
      let g = then_some (written z hash blank before b j f.0 h) (λ w. some (w.0, w.1 ∷ [])) r f.2 in
      (f.0, g.0, f.1, g.1, some_same g.2)

  abbrev pub gap_at : ℕ → Book
  gap_at i = slots b (at2 b.slot j i none)

  pub placed-further : (i : ℕ) (is : List ℕ) (r : Book × List Step) → placed z hash blank before b j h (i ∷ is) ≡ some r
      → (g : Held) × (moved : Book × List Step) × (w : Book × Step) × (b.slot j i ≡ some g) × (placed z hash blank before (gap_at i) (other z hash g.0 j) g is ≡ some moved)
      × (written z hash blank before moved.0 j i h ≡ some w) × ((w.0, moved.1 ++ (w.1 ∷ [])) ≡ r)
  placed-further i is r e = (g, c.0, d.0, a.1, c.1, d.1, some_same d.2)
    where
      put : Book × List Step → Option (Book × List Step)
      put moved = written z hash blank before moved.0 j i h then (λ w. some (w.0, moved.1 ++ (w.1 ∷ [])))

      a : (g : Held) × (b.slot j i ≡ some g) × ((placed z hash blank before (gap_at i) (other z hash g.0 j) g is then put) ≡ some r)
      a = then_some (b.slot j i) (λ g. placed z hash blank before (gap_at i) (other z hash g.0 j) g is then put) r e

      g : Held
      g = a.0

      c : (moved : Book × List Step) × (placed z hash blank before (gap_at i) (other z hash g.0 j) g is ≡ some moved) × (put moved ≡ some r)
      c = then_some (placed z hash blank before (gap_at i) (other z hash g.0 j) g is) put r a.2

      d : (w : Book × Step) × (written z hash blank before c.0.0 j i h ≡ some w) × (some (w.0, c.0.1 ++ (w.1 ∷ [])) ≡ some r)
      d = then_some (written z hash blank before c.0.0 j i h) (λ w. some (w.0, c.0.1 ++ (w.1 ∷ []))) r c.2
