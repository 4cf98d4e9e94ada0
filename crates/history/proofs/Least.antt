-- The search for a chain gives the first of all chains, and none only where there is none.
use Rattle.std.proofs.Common.{◌≡◌, ℕ, zero, suc, ◌+◌, ◌<◌, ◌≤◌, Bool, true, false, ◌⊎◌, List, [], ◌∷◌, length, sym, refl, ap, ◌∙◌, subst, ap₂, inl, inr, not-suc-le-zero, arith}
use mathlib.Core.Option.{Option, none, some}
use Rattle.std.proofs.lemmas.Bool.{both_ways, cases_eq, cases_order}
use Rattle.shared.specs.declared.sizes.Sizes.{Sizes}
use Rattle.shared.specs.Book.{Held, Slot, is_empty, empty_slot, other, walk, chain}
use Rattle.shared.specs.Kinds.{Hash}
use Rattle.shared.specs.Lists.{memb, ◌then◌, ◌or_else◌}
use Rattle.shared.specs.Table.{Part, h0, h1}
use Rattle.chain_laws.specs.Chains.{Lower, Chain, ChainFor, Precedes, Used, ChainLaw}
use Rattle.chain_laws.proofs.Tools.{never, some_same, then_some, then_none, first_none, first_answer-min, no_answer}
use Rattle.chain_laws.proofs.Chains.{not-memb, walk-chain, chain-found}

no_length : {n : ℕ} → 0 ≡ suc n → ⊥
no_length e = let z : 1 ≤ 0 = omega arith in not-suc-le-zero z

module _ (z : Sizes) (hash : Hash) (slot : ℕ → ℕ → Slot) where
  -- one move out of bucket j, and m more
  abbrev tried : ℕ → ℕ → List ℕ → ℕ → Held → Option (List ℕ)
  tried m j seen i h = let o = other z hash h.0 j in elim (memb o seen) [ true ↦ none | false ↦ walk z hash slot m o (o ∷ seen) then (λ is. some (i ∷ is)) ]

  tried-none : (m j : ℕ) (seen : List ℕ) (i : ℕ) (h : Held) → memb (other z hash h.0 j) seen ≡ false → tried m j seen i h ≡ none → walk z hash slot m (other z hash h.0 j) (other z hash h.0 j ∷ seen) ≡ none
  tried-none m j seen i h u e = then_none (walk z hash slot m o (o ∷ seen)) (λ is. i ∷ is) (go (memb o seen) u e)
    where
      o : ℕ
      o = other z hash h.0 j

      go : (d : Bool) → d ≡ false → elim d as (λ (c : Bool). Option (List ℕ)) [ true ↦ none | false ↦ walk z hash slot m o (o ∷ seen) then (λ is. some (i ∷ is)) ] ≡ none
          → (walk z hash slot m o (o ∷ seen) then (λ is. some (i ∷ is))) ≡ none
      go true p q = absurd (both_ways true p refl)
      go false p q = q

  tried-some : (m j : ℕ) (seen : List ℕ) (i : ℕ) (h : Held) (is : List ℕ) → tried m j seen i h ≡ some is
      → (ks : List ℕ) × (walk z hash slot m (other z hash h.0 j) (other z hash h.0 j ∷ seen) ≡ some ks) × (i ∷ ks ≡ is)
  tried-some m j seen i h is e = go (memb o seen) e
    where
      o : ℕ
      o = other z hash h.0 j

      go : (d : Bool) → elim d as (λ (c : Bool). Option (List ℕ)) [ true ↦ none | false ↦ walk z hash slot m o (o ∷ seen) then (λ ks. some (i ∷ ks)) ] ≡ some is
          → (ks : List ℕ) × (walk z hash slot m o (o ∷ seen) ≡ some ks) × (i ∷ ks ≡ is)
      go true q = absurd (never q)
      go false q = let w = then_some (walk z hash slot m o (o ∷ seen)) (λ ks. some (i ∷ ks)) is q in (w.0, w.1, some_same w.2)

  -- a slot that gave no answer begins no chain
  dead : (m : ℕ) → ((o : ℕ) (seen ks : List ℕ) → walk z hash slot m o seen ≡ none → length ks ≡ m → Chain z hash slot ks o seen → ⊥)
      → (j : ℕ) (seen : List ℕ) (k : ℕ) (ks : List ℕ) → (slot j k then tried m j seen k) ≡ none → length ks ≡ m → Chain z hash slot (k ∷ ks) j seen → ⊥
  dead m ih j seen k ks e l ch =
      let f : tried m j seen k ch.0 ≡ none = subst (λ (o : Slot). (o then tried m j seen k) ≡ none) ch.2 e in
      ih (other z hash ch.0.0 j) (other z hash ch.0.0 j ∷ seen) ks (tried-none m j seen k ch.0 (not-memb z hash (other z hash ch.0.0 j) seen ch.3) f) l ch.4

  pub walk_none : (m j : ℕ) (seen ks : List ℕ) → walk z hash slot m j seen ≡ none → length ks ≡ m → Chain z hash slot ks j seen → ⊥
  unfolding walk
  walk_none zero j seen [] e l ch =
      let f = first_none (λ i. is_empty (slot j i)) 0 4 (then_none (empty_slot slot j) (λ i. []) e) ch.0 (omega arith) ch.1 in
      both_ways (is_empty (slot j ch.0)) f (ap is_empty ch.2)
  walk_none zero j seen (k ∷ ks) e l ch = no_length (sym l)
  walk_none (suc m) j seen [] e l ch = no_length l
  walk_none (suc m) j seen (k ∷ ks) e l ch =
      dead m (λ o seen' xs. walk_none m o seen' xs) j seen k ks (no_answer (λ i. slot j i then tried m j seen i) 0 4 e k (omega arith) ch.1) (let q : length ks ≡ m = omega arith in q) ch

  pub walk-least : (m j : ℕ) (seen is ks : List ℕ) → walk z hash slot m j seen ≡ some is → length ks ≡ m → Chain z hash slot ks j seen → Lower is ks
  unfolding walk
  walk-least zero j seen is [] e l ch = subst (λ (w : List ℕ). Lower w []) (some_same (then_some (empty_slot slot j) (λ i. some []) is e).2) tt
  walk-least zero j seen is (k ∷ ks) e l ch = absurd (no_length (sym l))
  walk-least (suc m) j seen is [] e l ch = absurd (no_length l)
  walk-least (suc m) j seen is (k ∷ ks) e l ch = subst (λ (w : List ℕ). Lower w (k ∷ ks)) u.2 (go (walk-least m) (cases_order i k))
    where
      same_length : length ks ≡ m
      same_length = omega arith

      r : (i : ℕ) × ((slot j i then tried m j seen i) ≡ some is) × (i < 0 + 4) × ((p : ℕ) → 0 ≤ p → p < i → (slot j p then tried m j seen p) ≡ none)
      r = first_answer-min (λ i. slot j i then tried m j seen i) 0 4 is e

      i : ℕ
      i = r.0

      t : (h : Held) × (slot j i ≡ some h) × (tried m j seen i h ≡ some is)
      t = then_some (slot j i) (tried m j seen i) is r.1

      u : (xs : List ℕ) × (walk z hash slot m (other z hash t.0.0 j) (other z hash t.0.0 j ∷ seen) ≡ some xs) × (i ∷ xs ≡ is)
      u = tried-some m j seen i t.0 is t.2

      go : ((o : ℕ) (seen' xs ys : List ℕ) → walk z hash slot m o seen' ≡ some xs → length ys ≡ m → Chain z hash slot ys o seen' → Lower xs ys)
          → (i ≡ k) ⊎ ((i < k) ⊎ (k < i)) → (i < k) ⊎ ((i ≡ k) × Lower u.0 ks)
      go ih (inl q) =
          let same-held : ch.0 ≡ t.0 = some_same (sym ch.2 ∙ subst (λ (w : ℕ). slot j w ≡ some t.0) q t.1) in
          inr (
            q,
            ih (other z hash t.0.0 j) (other z hash t.0.0 j ∷ seen) u.0 ks u.1 same_length
                (subst (λ (h : Held). Chain z hash slot ks (other z hash h.0 j) (other z hash h.0 j ∷ seen)) same-held ch.4),
          )
      go ih (inr (inl q)) = inl q
      go ih (inr (inr q)) = absurd (dead m (walk_none m) j seen k ks (r.3 k (omega arith) q) same_length ch)

or-none : {A : Type 0} (o p : Option A) → (o or_else p) ≡ none → (o ≡ none) × (p ≡ none)
or-none none p e = (refl, e)
or-none (some x) p e = absurd (never (sym e))

or-first : {A : Type 0} (o p : Option A) (y : A) → (o or_else p) ≡ some y → (o ≡ some y) ⊎ ((o ≡ none) × (p ≡ some y))
or-first none p y e = inr (refl, e)
or-first (some x) p y e = inl e

lower_same : (xs ys : List ℕ) → length xs ≡ length ys → Lower xs ys → Lower ys xs → xs ≡ ys
lower_same [] [] l a b = refl
lower_same [] (y ∷ ys) l a b = absurd (no_length l)
lower_same (x ∷ xs) [] l a b = absurd a
lower_same (x ∷ xs) (y ∷ ys) l a b = go (lower_same xs ys (let e : length xs ≡ length ys = omega arith in e)) a b
  where
    go : (Lower xs ys → Lower ys xs → xs ≡ ys) → (x < y) ⊎ ((x ≡ y) × Lower xs ys) → (y < x) ⊎ ((y ≡ x) × Lower ys xs) → x ∷ xs ≡ y ∷ ys
    go ih (inl p) (inl q) = let h : 1 ≤ 0 = omega arith in absurd (not-suc-le-zero h)
    go ih (inl p) (inr q) = let e : y ≡ x = q.0 in let h : 1 ≤ 0 = omega arith in absurd (not-suc-le-zero h)
    go ih (inr p) (inl q) = let e : x ≡ y = p.0 in let h : 1 ≤ 0 = omega arith in absurd (not-suc-le-zero h)
    go ih (inr p) (inr q) = ap₂ (λ (a : ℕ) (l : List ℕ). a ∷ l) p.0 (ih p.1 q.1)

module _ (z : Sizes) (hash : Hash) (slot : ℕ → ℕ → Slot) (k : Part) where
  abbrev from : ℕ → ℕ → Option (ℕ × List ℕ)
  from j m = walk z hash slot m j (j ∷ []) then (λ is. some (j, is))

  abbrev sides : ℕ → Option (ℕ × List ℕ)
  sides m = from (h0 z hash k) m or_else from (h1 z hash k) m

  -- no chain of m moves from bucket j
  none_from : (j m : ℕ) → from j m ≡ none → (d : ℕ × List ℕ) → ChainFor z hash slot k d → length d.1 ≡ m → d.0 ≡ j → ⊥
  none_from j m e d cd l q =
      walk_none z hash slot m j (j ∷ []) d.1 (then_none (walk z hash slot m j (j ∷ [])) (λ is. (j, is)) e) l (subst (λ (i : ℕ). Chain z hash slot d.1 i (i ∷ [])) q cd.moves)

  none_long : (m : ℕ) → sides m ≡ none → (d : ℕ × List ℕ) → ChainFor z hash slot k d → length d.1 ≡ m → ⊥
  none_long m e d cd l = go cd.side
    where
      r : (from (h0 z hash k) m ≡ none) × (from (h1 z hash k) m ≡ none)
      r = or-none (from (h0 z hash k) m) (from (h1 z hash k) m) e

      go : (d.0 ≡ h0 z hash k) ⊎ (d.0 ≡ h1 z hash k) → ⊥
      go (inl q) = none_from (h0 z hash k) m r.0 d cd l q
      go (inr q) = none_from (h1 z hash k) m r.1 d cd l q

  pub chain-none : chain z hash slot k ≡ none → (d : ℕ × List ℕ) → ChainFor z hash slot k d → ⊥
  chain-none e d cd =
      let few : length d.1 ≤ 4 = cd.few in
      none_long (length d.1) (no_answer sides 0 5 e (length d.1) (omega arith) (omega arith)) d cd refl

  pub chain-used : (c : ℕ × List ℕ) → chain z hash slot k ≡ some c → Used z hash slot k c
  chain-used c e = record { own = chain-found z hash slot k c e; first = first }
    where
      r : (m : ℕ) × (sides m ≡ some c) × (m < 0 + 5) × ((p : ℕ) → 0 ≤ p → p < m → sides p ≡ none)
      r = first_answer-min sides 0 5 c e

      m : ℕ
      m = r.0

      -- what a side's walk gave
      walked : (j : ℕ) → from j m ≡ some c → (c.0 ≡ j) × (length c.1 ≡ m) × (walk z hash slot m j (j ∷ []) ≡ some c.1)
      walked j f =
          let w = then_some (walk z hash slot m j (j ∷ [])) (λ is. some (j, is)) c f in
          let pair : (j, w.0) ≡ c = some_same w.2 in
          let slots_same : w.0 ≡ c.1 = ap (λ (y : ℕ × List ℕ). y.1) pair in
          (ap (λ (y : ℕ × List ℕ). y.0) (sym pair), ap length (sym slots_same) ∙ (walk-chain z hash slot m j (j ∷ []) w.0 w.1).1, w.1 ∙ ap (λ (y : List ℕ). some y) slots_same)

      lower : (j : ℕ) → from j m ≡ some c → (d : ℕ × List ℕ) → ChainFor z hash slot k d → length d.1 ≡ m → d.0 ≡ j → Lower c.1 d.1
      lower j f d cd l q = walk-least z hash slot m j (j ∷ []) c.1 d.1 (walked j f).2 l (subst (λ (i : ℕ). Chain z hash slot d.1 i (i ∷ [])) q cd.moves)

      first : (d : ℕ × List ℕ) → ChainFor z hash slot k d → Precedes z hash k c d
      first d cd = by_side (or-first (from (h0 z hash k) m) (from (h1 z hash k) m) c r.1)
        where
          by_length : length c.1 ≡ m → (length d.1 ≡ m → ((c.0 ≡ h0 z hash k) × (d.0 ≡ h0 z hash k → ⊥)) ⊎ ((c.0 ≡ d.0) × Lower c.1 d.1)) → Precedes z hash k c d
          by_length l rest = go (cases_order (length d.1) m)
            where
              go : (length d.1 ≡ m) ⊎ ((length d.1 < m) ⊎ (m < length d.1)) → Precedes z hash k c d
              go (inl q) = inr (l ∙ sym q, rest q)
              go (inr (inl q)) = absurd (none_long (length d.1) (r.3 (length d.1) (omega arith) q) d cd refl)
              go (inr (inr q)) = inl (subst (λ (i : ℕ). i < length d.1) (sym l) q)

          by_side : (from (h0 z hash k) m ≡ some c) ⊎ ((from (h0 z hash k) m ≡ none) × (from (h1 z hash k) m ≡ some c)) → Precedes z hash k c d
          by_side (inl f) = by_length (walked (h0 z hash k) f).1 (λ q. go q (cases_eq d.0 (h0 z hash k)))
            where
              go : length d.1 ≡ m → (d.0 ≡ h0 z hash k) ⊎ (d.0 ≡ h0 z hash k → ⊥) → ((c.0 ≡ h0 z hash k) × (d.0 ≡ h0 z hash k → ⊥)) ⊎ ((c.0 ≡ d.0) × Lower c.1 d.1)
              go l (inl q) = inr ((walked (h0 z hash k) f).0 ∙ sym q, lower (h0 z hash k) f d cd l q)
              go l (inr q) = inl ((walked (h0 z hash k) f).0, q)
          by_side (inr f) = by_length (walked (h1 z hash k) f.1).1 (λ l. go l cd.side)
            where
              go : length d.1 ≡ m → (d.0 ≡ h0 z hash k) ⊎ (d.0 ≡ h1 z hash k) → ((c.0 ≡ h0 z hash k) × (d.0 ≡ h0 z hash k → ⊥)) ⊎ ((c.0 ≡ d.0) × Lower c.1 d.1)
              go l (inl q) = absurd (none_from (h0 z hash k) m f.0 d cd l q)
              go l (inr q) = inr ((walked (h1 z hash k) f.1).0 ∙ sym q, lower (h1 z hash k) f.1 d cd l q)

  -- there is one first chain
  pub used_same : (c d : ℕ × List ℕ) → Used z hash slot k c → Used z hash slot k d → c ≡ d
  used_same c d u v = go (u.first d v.own) (v.first c u.own)
    where
      never_both : {A : Type 0} (m n : ℕ) → m < n → n ≤ m → A
      never_both m n p q = let h : 1 ≤ 0 = omega arith in absurd (not-suc-le-zero h)

      at_side : length c.1 ≡ length d.1 → ((c.0 ≡ h0 z hash k) × (d.0 ≡ h0 z hash k → ⊥)) ⊎ ((c.0 ≡ d.0) × Lower c.1 d.1)
          → ((d.0 ≡ h0 z hash k) × (c.0 ≡ h0 z hash k → ⊥)) ⊎ ((d.0 ≡ c.0) × Lower d.1 c.1) → c ≡ d
      at_side l (inl p) (inl q) = absurd (p.1 q.0)
      at_side l (inl p) (inr q) = absurd (p.1 (q.0 ∙ p.0))
      at_side l (inr p) (inl q) = absurd (q.1 (p.0 ∙ q.0))
      at_side l (inr p) (inr q) = ap₂ (λ (a : ℕ) (b : List ℕ). (a, b)) p.0 (lower_same c.1 d.1 l p.1 q.1)

      go : Precedes z hash k c d → Precedes z hash k d c → c ≡ d
      go (inl p) (inl q) = never_both (length c.1) (length d.1) p (let h : length d.1 ≤ length c.1 = omega arith in h)
      go (inl p) (inr q) = let e : length d.1 ≡ length c.1 = q.0 in never_both (length c.1) (length d.1) p (omega arith)
      go (inr p) (inl q) = let e : length c.1 ≡ length d.1 = p.0 in never_both (length d.1) (length c.1) q (omega arith)
      go (inr p) (inr q) = at_side p.0 p.1 q.1

pub chain-law : ChainLaw
chain-law z hash slot k = (λ c. (chain-used z hash slot k c, is_found_lem c), (chain-none z hash slot k, not_found (chain z hash slot k) refl))
  where
    is_found_lem : (c : ℕ × List ℕ) → Used z hash slot k c → chain z hash slot k ≡ some c
    is_found_lem c u = go (chain z hash slot k) refl
      where
        go : (o : Option (ℕ × List ℕ)) → chain z hash slot k ≡ o → o ≡ some c
        go none e = absurd (chain-none z hash slot k e c u.own)
        go (some d) e = ap (λ (x : ℕ × List ℕ). some x) (used_same z hash slot k d c (chain-used z hash slot k d e) u)

    not_found : (o : Option (ℕ × List ℕ)) → chain z hash slot k ≡ o → ((c : ℕ × List ℕ) → ChainFor z hash slot k c → ⊥) → o ≡ none
    not_found none e n = refl
    not_found (some d) e n = absurd (n d (chain-used z hash slot k d e).own)
