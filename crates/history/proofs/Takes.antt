-- A controller that is as far as its book has no cause to refuse the book's next notice.
use Rattle.std.proofs.Common.{◌≡◌, ℕ, zero, suc, ◌+◌, ◌-◌, ◌^◌, ◌<◌, ◌≤◌, Bool, true, false, cond, not, ◌&&◌, eqb, ltb, leb, ◌⊎◌, List, [], ◌∷◌, ◌++◌, map, sym, refl, ap, ◌∙◌, subst, inl, inr, mod-lt, arith}
use mathlib.Core.Option.{none, some}
use Rattle.std.proofs.lemmas.Bool.{and_from, and_parts, or_parts, or_from, or_left, or_right, lt-ltb, ltb-true, leb-true, ne_eqb, eq-eqb, not-true, not_from_false, both_ways}
use Rattle.shared.specs.declared.sizes.Sizes.{Sizes}
use Rattle.shared.specs.Book.{Held, Book, Call, slots, other, turned, written, placed, where_is, called}
use Rattle.shared.specs.Book.Outcome.{done}
use Rattle.shared.specs.Book.Call.{enter, change, strike}
use Rattle.shared.specs.Kinds.{Hash}
use Rattle.shared.specs.Lists.{memb, apart, all_below, up_from, kept, at2}
use Rattle.shared.specs.Notice.{Setting, Kind, Step}
use Rattle.shared.specs.Notice.Step.{bucket, single}
use Rattle.shared.specs.Table.{Part, Table, slot_of, h0, h1, overflows, within, buckets_of}
use Rattle.chain_laws.specs.Chains.{Chain}
use Rattle.history.specs.Premises.{Family}
use Rattle.chain_laws.proofs.Chains.{written_as, placed-last, placed-further, chain-found, chain_next, seen_apart, other-side}
use Rattle.history.proofs.Calls.{Kept, parts_of, entered_as, changed_as, struck-as, found_at}

-- places below a bound
below_kept : (n : ℕ) (t : ℕ → Bool) (xs : List ℕ) → all_below n xs ≡ true → all_below n (kept t xs) ≡ true
below_kept n t [] e = refl
below_kept n t (x ∷ xs) e = go (below_kept n t xs p.1) (t x)
  where
    p : (ltb x n ≡ true) × (all_below n xs ≡ true)
    p = and_parts (ltb x n) (all_below n xs) e

    go : all_below n (kept t xs) ≡ true → (b : Bool) → all_below n (cond b (x ∷ kept t xs) (kept t xs)) ≡ true
    go ih true = and_from (ltb x n) (all_below n (kept t xs)) p.0 ih
    go ih false = ih

below_up : (i n : ℕ) → all_below (i + n) (up_from i n) ≡ true
below_up i zero = refl
below_up i (suc n) =
    and_from (ltb i (i + suc n)) (all_below (i + suc n) (up_from (suc i) n)) (lt-ltb i (i + suc n) (omega arith))
    (subst (λ (m : ℕ). all_below m (up_from (suc i) n) ≡ true) (let q : suc i + n ≡ i + suc n = omega arith in q) (below_up (suc i) n))

-- those of row a, and those of row b counted from its start
below_a : (a : ℕ) (xs : List ℕ) → all_below a (kept (λ p. ltb p a) xs) ≡ true
below_a a [] = refl
below_a a (x ∷ xs) = go (below_a a xs) (ltb x a) refl
  where
    rest : List ℕ
    rest = kept (λ p. ltb p a) xs

    go : all_below a rest ≡ true → (b : Bool) → ltb x a ≡ b → all_below a (cond b (x ∷ rest) rest) ≡ true
    go ih true e = and_from (ltb x a) (all_below a rest) e ih
    go ih false e = ih

below_b : (a b : ℕ) (xs : List ℕ) → all_below (a + b) xs ≡ true → all_below b (map (λ p. p - a) (kept (λ p. leb a p) xs)) ≡ true
below_b a b [] e = refl
below_b a b (x ∷ xs) e = go (below_b a b xs p.1) (leb a x) refl
  where
    p : (ltb x (a + b) ≡ true) × (all_below (a + b) xs ≡ true)
    p = and_parts (ltb x (a + b)) (all_below (a + b) xs) e

    rest : List ℕ
    rest = kept (λ q. leb a q) xs

    go : all_below b (map (λ q. q - a) rest) ≡ true → (d : Bool) → leb a x ≡ d → all_below b (map (λ q. q - a) (cond d (x ∷ rest) rest)) ≡ true
    go ih true f =
        let l : x < a + b = ltb-true x (a + b) p.0 in
        let g : a ≤ x = leb-true a x f in
        and_from (ltb (x - a) b) (all_below b (map (λ q. q - a) rest)) (lt-ltb (x - a) b (omega arith)) ih
    go ih false f = ih

-- one bucket more at the end
buckets_append : (xs ys : List Step) → buckets_of (xs ++ ys) ≡ buckets_of xs ++ buckets_of ys
buckets_append [] ys = refl
buckets_append (bucket j s vs pa pb ∷ xs) ys = ap (λ (l : List ℕ). j ∷ l) (buckets_append xs ys)
buckets_append (single j i v ∷ xs) ys = ap (λ (l : List ℕ). j ∷ l) (buckets_append xs ys)

memb-push : (x j : ℕ) (xs : List ℕ) → memb x xs ≡ false → (x ≡ j → ⊥) → memb x (xs ++ (j ∷ [])) ≡ false
memb-push x j [] e n = or_from (eqb x j) false (ne_eqb x j n) refl
memb-push x j (y ∷ ys) e n =
    let p = or_parts (eqb x y) (memb x ys) e in
    or_from (eqb x y) (memb x (ys ++ (j ∷ []))) p.0 (memb-push x j ys p.1 n)

apart-push : (j : ℕ) (xs : List ℕ) → apart xs ≡ true → memb j xs ≡ false → apart (xs ++ (j ∷ [])) ≡ true
apart-push j [] a n = refl
apart-push j (x ∷ xs) a n =
    let p = and_parts (not (memb x xs)) (apart xs) a in
    let q = or_parts (eqb j x) (memb j xs) n in
    and_from (not (memb x (xs ++ (j ∷ [])))) (apart (xs ++ (j ∷ [])))
    (not_from_false _ (memb-push x j xs (not-true _ p.0) (λ e. both_ways (eqb j x) q.0 (eq-eqb j x (sym e)))))
    (apart-push j xs p.1 q.1)

-- a step is inside the sizes
abbrev step_within : Sizes → Step → Bool
step_within z (bucket j s vs pa pb) = ltb j z.buckets && ltb s 256 && all_below z.a pa && all_below z.b pb
step_within z (single j i v) = ltb j z.buckets && ltb i 4

within_more : (z : Sizes) (s : Step) (ss : List Step) → within z (s ∷ ss) ≡ (step_within z s && within z ss)
within_more z (bucket j s vs pa pb) ss = refl
within_more z (single j i v) ss = refl

within-append : (z : Sizes) (xs ys : List Step) → within z xs ≡ true → within z ys ≡ true → within z (xs ++ ys) ≡ true
within-append z [] ys a b = b
within-append z (x ∷ xs) ys a b =
    let p = and_parts (step_within z x) (within z xs) (sym (within_more z x xs) ∙ a) in
    within_more z x (xs ++ ys) ∙ and_from (step_within z x) (within z (xs ++ ys)) p.0 (within-append z xs ys p.1 b)

module _ (z : Sizes) (hash : Hash) (blank : Setting) (before : List Part) where
  turned-below : (row : ℕ → Bool) (j : ℕ) (k : Part) → all_below (z.a + z.b) (turned z hash blank before row j k) ≡ true
  turned-below row j k = go _ _
    where
      go : (d : Bool) (hit : ℕ → Bool) → all_below (z.a + z.b) (cond d (kept hit (up_from 0 (z.a + z.b))) []) ≡ true
      go true hit =
          below_kept (z.a + z.b) hit (up_from 0 (z.a + z.b))
          (subst (λ (m : ℕ). all_below m (up_from 0 (z.a + z.b)) ≡ true) (let q : 0 + (z.a + z.b) ≡ z.a + z.b = omega arith in q) (below_up 0 (z.a + z.b)))
      go false hit = refl

  -- the step that writes a bucket
  written-within : (b : Book) (j i : ℕ) (h : Held) (w : Book × Step) → j < z.buckets → written z hash blank before b j i h ≡ some w → (within z (w.1 ∷ []) ≡ true) × (buckets_of (w.1 ∷ []) ≡ j ∷ [])
  written-within b j i h w low e =
      let r = written_as z hash blank before b j h i w e in
      subst (λ (y : Book × Step). (within z (y.1 ∷ []) ≡ true) × (buckets_of (y.1 ∷ []) ≡ j ∷ [])) r.2
      (and_from _ _ (and_from _ _ (and_from _ _ (and_from _ _ (lt-ltb j z.buckets low) (lt-ltb r.0 256 r.3)) (below_a z.a ps)) (below_b z.a z.b ps (turned-below b.row j h.0))) refl, refl)
    where
      ps : List ℕ
      ps = turned z hash blank before b.row j h.0

  other-inside : (k : Part) (j : ℕ) → other z hash k j < z.buckets
  other-inside k j = go (other-side z hash k j)
    where
      go : (other z hash k j ≡ h0 z hash k) ⊎ (other z hash k j ≡ h1 z hash k) → other z hash k j < z.buckets
      go (inl e) = subst (λ (w : ℕ). w < z.buckets) (sym e) (mod-lt _ z.some_buckets)
      go (inr e) = subst (λ (w : ℕ). w < z.buckets) (sym e) (mod-lt _ z.some_buckets)

  -- the steps of a chain: inside the sizes, each at a bucket of its own, none at one that was seen before
  record Spread (j : ℕ) (seen : List ℕ) (ss : List Step) : Type 0 where
    inside : within z ss ≡ true
    once : apart (buckets_of ss) ≡ true
    fresh : (p : ℕ) → memb p seen ≡ true → (p ≡ j → ⊥) → memb p (buckets_of ss) ≡ false

  placed-spread : (is : List ℕ) (b : Book) (j : ℕ) (h : Held) (seen : List ℕ) → j < z.buckets → memb j seen ≡ true → Chain z hash b.slot is j seen
      → (r : Book × List Step) → placed z hash blank before b j h is ≡ some r → Spread j seen r.1
  placed-spread [] b j h seen low y ch r e =
      let a = placed-last z hash blank before b j h r e in
      let w = written-within b j a.0 h a.1 low a.3 in
      subst (λ (x : Book × List Step). Spread j seen x.1) a.4 (record {
        inside = w.0;
        once = ap apart w.1;
        fresh = λ p u n. ap (memb p) w.1 ∙ or_from (eqb p j) false (ne_eqb p j n) refl;
      })
  placed-spread (i ∷ is) b j h seen low y ch r e =
      let a = placed-further z hash blank before b j h i is r e in
      let g = a.0 in
      let o = other z hash g.0 j in
      let n = chain_next z hash b.slot i is j seen g a.3 y ch in
      let m = placed-spread is (slots b (at2 b.slot j i none)) o g (o ∷ seen) (other-inside g.0 j) (or_left (eqb o o) (memb o seen) (eq-eqb o o refl)) n.2 a.1 a.4 in
      let w = written-within a.1.0 j i h a.2 low a.5 in
      subst (λ (x : Book × List Step). Spread j seen x.1) a.6 (more a.1.1 a.2.1 o n.0 n.1 m w.0 w.1)
    where
      more : (ss : List Step) (s : Step) (o : ℕ) → memb o seen ≡ false → (o ≡ j → ⊥) → Spread o (o ∷ seen) ss → within z (s ∷ []) ≡ true → buckets_of (s ∷ []) ≡ j ∷ [] → Spread j seen (ss ++ (s ∷ []))
      more ss s o unseen away m u v = record {
        inside = within-append z ss (s ∷ []) m.inside u;
        once = ap apart all ∙ apart-push j (buckets_of ss) m.once (m.fresh j (or_right (eqb j o) (memb j seen) y) (λ x. away (sym x)));
        fresh = λ p q n. ap (memb p) all ∙ memb-push p j (buckets_of ss) (m.fresh p (or_right (eqb p o) (memb p seen) q) (λ x. seen_apart z hash o p seen unseen q (sym x))) n;
      }
        where
          all : buckets_of (ss ++ (s ∷ [])) ≡ buckets_of ss ++ (j ∷ [])
          all = buckets_append ss (s ∷ []) ∙ ap (λ (l : List ℕ). buckets_of ss ++ l) v

-- what a take asks of a notice's steps
pub record Takeable (z : Sizes) (seed : ℕ → ℕ) (ss : List Step) : Type 0 where
  pub inside : within z ss ≡ true
  pub once : apart (buckets_of ss) ≡ true
  pub few : overflows z seed ss ≡ false

module _ (z : Sizes) (hash : Hash) (kind : Kind) (low : Family hash) (b : Book) (t : Table) (cs : List Call) (kept : Kept z hash b t cs) where
  -- where a standing part is found
  pub found_inside : (k : Part) (p : ℕ × ℕ) → where_is z b.slot k ≡ some p → p.0 < z.buckets
  found_inside k p e = let h = found_at z b.slot k p e in (kept.mid.range p.0 p.1 h.0 h.1).0

  pub call_takes : (c : Call) (room : ℕ) (b' : Book) (ss : List Step) → called z hash kind b room c ≡ done b' ss → Takeable z t.seed ss
  call_takes (enter k v) room b' ss e =
      let i = entered_as z hash kind b k v room b' ss e in
      let c = chain-found z hash b.slot k i.start i.chained in
      let j = i.start.0 in
      let m = placed-spread z hash kind.blank (parts_of z hash b) i.start.1 b j (k, v) (j ∷ []) (side j c.side) (or_left (eqb j j) false (eq-eqb j j refl)) c.moves i.end i.put in
      subst (λ (y : List Step). Takeable z t.seed y) i.steps (record {
        inside = m.inside;
        once = m.once;
        few = ap (λ (f : ℕ → ℕ). overflows z f i.end.1) kept.mid.seed ∙ i.few;
      })
    where
      side : (j : ℕ) → (j ≡ h0 z hash k) ⊎ (j ≡ h1 z hash k) → j < z.buckets
      side j (inl q) = subst (λ (w : ℕ). w < z.buckets) (sym q) (mod-lt _ z.some_buckets)
      side j (inr q) = subst (λ (w : ℕ). w < z.buckets) (sym q) (mod-lt _ z.some_buckets)
  call_takes (change k v) room b' ss e =
      let a = changed_as z hash kind b k v room b' ss e in
      let p = a.0 in
      let few : b.seed p.0 < 256 = kept.mid.seeds p.0 in
      let l : hash (b.seed p.0) k < 2 ^ 32 = low (b.seed p.0) k (omega arith) in
      subst (λ (y : List Step). Takeable z t.seed y) a.3 (record {
        inside = and_from _ _ (and_from _ _ (lt-ltb p.0 z.buckets (found_inside k p a.1)) (lt-ltb (slot_of hash (b.seed p.0) k) 4 (omega arith))) refl;
        once = refl;
        few = refl;
      })
  call_takes (strike k) room b' ss e =
      let a = struck-as z hash kind b k room b' ss e in
      subst (λ (y : List Step). Takeable z t.seed y) a.3 (record { inside = refl; once = refl; few = refl })
