-- The searches of an enter find what they should: the least seed, and the places that are joined.
use Rattle.std.proofs.Common.{◌≡◌, ℕ, zero, suc, ◌+◌, ◌-◌, ◌<◌, ◌≤◌, Bool, true, false, cond, not, eqb, ltb, leb, ◌⊎◌, ◌↔◌, List, [], ◌∷◌, map, sym, refl, ap, ◌∙◌, subst, inl, inr, ⊎_elim, arith}
use mathlib.Core.Option.{Option, none, some}
use Rattle.std.proofs.lemmas.Bool.{and_parts, and_from, not-true, not_from_false, eqb-true, or_cases, cases_eq, cases_order, both_ways, lt-ltb, ltb-true, leb-true, le-leb}
use Rattle.shared.specs.declared.sizes.Sizes.{Sizes}
use Rattle.shared.specs.Book.{seed_for, places, turned}
use Rattle.shared.specs.Graph.{Joined, joins, ◌⊕◌, bit_of}
use Rattle.shared.specs.Kinds.{Hash}
use Rattle.shared.specs.Lists.{Among, memb, apart, first_from, kept, up_from}
use Rattle.shared.specs.Notice.{Setting}
use Rattle.shared.specs.Table.{Part, h0, edge, slot_of}
use Rattle.graph_laws.proofs.Forest.{by_joins, from-map, among_map}
use Rattle.graph_laws.specs.Graphs.{others_edges}
use Rattle.history.specs.Searches.{Apart, LeastSeed, SeedLaw, WrongBit, FlipLaw}
use Rattle.chain_laws.proofs.Tools.{never, some_same, first_from_lem, first_none, among_memb, among_up}

-- no number fails before the least that passes
first_least : (t : ℕ → Bool) (i n s : ℕ) → first_from t i n ≡ some s → (m : ℕ) → i ≤ m → m < s → t m ≡ false
unfolding first_from
first_least t i zero s e m h k = absurd (never e)
first_least t i (suc n) s e m h k = go (λ f l. first_least t (suc i) n s f m l k) (t i) refl e (cases_eq m i)
  where
    go : (first_from t (suc i) n ≡ some s → suc i ≤ m → t m ≡ false) → (b : Bool) → t i ≡ b → elim b [ true ↦ some i | false ↦ first_from t (suc i) n ] ≡ some s → (m ≡ i) ⊎ (m ≡ i → ⊥) → t m ≡ false
    go ih true u f c = absurd (let g : i ≡ s = some_same f in omega arith)
    go ih false u f (inl c) = ap t c ∙ u
    go ih false u f (inr c) = ih f (grind arith)

memb-among : (x : ℕ) (xs : List ℕ) → memb x xs ≡ true → Among x xs
memb-among x [] e = absurd (both_ways false refl e)
memb-among x (y ∷ ys) e = ⊎_elim (λ t. inl (eqb-true x y t)) (λ t. inr (memb-among x ys t)) (or_cases (eqb x y) (memb x ys) e)

-- the test on slots decides whether the parts are apart
apart-means : (hash : Hash) (s : ℕ) (ks : List Part) → (apart (map (slot_of hash s) ks) ≡ true) ↔ Apart hash s ks
apart-means hash s [] = (λ e. tt, λ u. refl)
apart-means hash s (k ∷ ks) =
    let slots = map (slot_of hash s) ks in (
      λ e.
          let p = and_parts (not (memb (slot_of hash s k) slots)) (apart slots) e in (
            λ q m t. both_ways (memb (slot_of hash s k) slots) (not-true (memb (slot_of hash s k) slots) p.0) (ap (λ (x : ℕ). memb x slots) t ∙ among_memb (slot_of hash s q) slots (among_map (slot_of hash s) ks q m)),
            (apart-means hash s ks).0 p.1,
          ),
      λ u.
          and_from (not (memb (slot_of hash s k) slots)) (apart slots)
          (not_from_false (memb (slot_of hash s k) slots) (absent (memb (slot_of hash s k) slots) refl u)) ((apart-means hash s ks).1 u.1),
    )
  where
    absent : (b : Bool) → memb (slot_of hash s k) (map (slot_of hash s) ks) ≡ b → Apart hash s (k ∷ ks) → b ≡ false
    absent true e u = let r = from-map (slot_of hash s) ks (slot_of hash s k) (memb-among (slot_of hash s k) (map (slot_of hash s) ks) e) in absurd (u.0 r.0 r.1 r.2)
    absent false e u = refl

pub seed_law : SeedLaw
seed_law hash ks =
    let works = λ (s : ℕ). apart (map (slot_of hash s) ks) in (
      λ s. (
        λ e. record {
          low = let h = (first_from_lem works 0 256 s e).1 in omega arith;
          works = (apart-means hash s ks).0 (first_from_lem works 0 256 s e).0;
          least = λ r h a. both_ways (works r) (first_least works 0 256 s e r (omega arith) h) ((apart-means hash r ks).1 a);
        },
        λ l. found s l (first_from works 0 256) refl,
      ),
      (
        λ e s h a. both_ways (works s) (first_none works 0 256 e s (omega arith) (omega arith)) ((apart-means hash s ks).1 a),
        λ no_way. unfound no_way (first_from works 0 256) refl,
      ),
    )
  where
    same_least : (s r : ℕ) → LeastSeed hash ks s → (r < 256) × Apart hash r ks × ((m : ℕ) → m < r → Apart hash m ks → ⊥) → r ≡ s
    same_least s r l m = go (cases_order r s)
      where
        go : (r ≡ s) ⊎ ((r < s) ⊎ (s < r)) → r ≡ s
        go (inl e) = e
        go (inr (inl h)) = absurd (l.least r h m.1)
        go (inr (inr h)) = absurd (m.2 s h l.works)

    found : (s : ℕ) → LeastSeed hash ks s → (o : Option ℕ) → seed_for hash ks ≡ o → o ≡ some s
    found s l none e = absurd (both_ways (apart (map (slot_of hash s) ks)) (first_none (λ r. apart (map (slot_of hash r) ks)) 0 256 e s (omega arith) (let h = l.low in omega arith)) ((apart-means hash s ks).1 l.works))
    found s l (some r) e =
        let f = first_from_lem (λ q. apart (map (slot_of hash q) ks)) 0 256 r e in
        ap (λ (x : ℕ). some x) (same_least s r l (omega (arith, f.1), (apart-means hash r ks).0 f.0, λ m h a. both_ways (apart (map (slot_of hash m) ks)) (first_least (λ q. apart (map (slot_of hash q) ks)) 0 256 r e m (omega arith) h) ((apart-means hash m ks).1 a)))

    unfound : ((s : ℕ) → s < 256 → Apart hash s ks → ⊥) → (o : Option ℕ) → seed_for hash ks ≡ o → o ≡ none
    unfound no_way none e = refl
    unfound no_way (some r) e =
        let f = first_from_lem (λ q. apart (map (slot_of hash q) ks)) 0 256 r e in
        absurd (no_way r (omega (arith, f.1)) ((apart-means hash r ks).0 f.0))

-- what is kept of a list, and of the numbers below n
kept-means : (t : ℕ → Bool) (p : ℕ) (xs : List ℕ) → Among p (kept t xs) ↔ ((t p ≡ true) × Among p xs)
kept-means t p [] = (λ m. absurd m, λ m. m.1)
kept-means t p (x ∷ xs) = go (kept-means t p xs) (t x) refl
  where
    go : Among p (kept t xs) ↔ ((t p ≡ true) × Among p xs) → (b : Bool) → t x ≡ b → Among p (cond b (x ∷ kept t xs) (kept t xs)) ↔ ((t p ≡ true) × Among p (x ∷ xs))
    go ih true e = (
      λ m. ⊎_elim (λ u. (ap t u ∙ e, inl u)) (λ n. let r = ih.0 n in (r.0, inr r.1)) m,
      λ m. ⊎_elim (λ u. inl u) (λ n. inr (ih.1 (m.0, n))) m.1,
    )
    go ih false e = (
      λ m. let r = ih.0 m in (r.0, inr r.1),
      λ m. ⊎_elim (λ u. absurd (both_ways (t x) e (sym (ap t u) ∙ m.0))) (λ n. ih.1 (m.0, n)) m.1,
    )

below_up : (p i n : ℕ) → Among p (up_from i n) → p < i + n
below_up p i zero m = absurd m
below_up p i (suc n) (inl e) = omega arith
below_up p i (suc n) (inr m) = let h = below_up p (suc i) n m in omega arith

-- two bits differ where their exclusive or is true
xor_means : (a b : Bool) → ((a ⊕ b) ≡ true) ↔ (a ≡ b → ⊥)
xor_means true true = (λ e f. both_ways false refl e, λ f. absurd (f refl))
xor_means true false = (λ e f. both_ways false refl (sym f), λ f. refl)
xor_means false true = (λ e f. both_ways false refl f, λ f. refl)
xor_means false false = (λ e f. both_ways false refl e, λ f. absurd (f refl))

module _ (z : Sizes) (hash : Hash) (blank : Setting) (before : List Part) (row : ℕ → Bool) (j : ℕ) (k : Part) where
  joined_places : (p : ℕ) → Among p (places z hash (others_edges (edge z hash) k before) (edge z hash k).1) ↔ ((p < z.a + z.b) × Joined (others_edges (edge z hash) k before) (edge z hash k).1 p)
  joined_places p =
      let hit = joins (others_edges (edge z hash) k before) (edge z hash k).1 in
      let means = kept-means hit p (up_from 0 (z.a + z.b)) in (
        λ m. let r = means.0 m in (let h = below_up p 0 (z.a + z.b) r.1 in omega arith, (by_joins (others_edges (edge z hash) k before) (edge z hash k).1 p).0 r.0),
        λ m. means.1 ((by_joins (others_edges (edge z hash) k before) (edge z hash k).1 p).1 m.1, among_up p 0 (z.a + z.b) (omega arith) (let h = m.0 in omega arith)),
      )

  turned-places : (p : ℕ) → Among p (turned z hash blank before row j k) ↔ (WrongBit z hash row j k × (p < z.a + z.b) × Joined (others_edges (edge z hash) k before) (edge z hash k).1 p)
  turned-places p = go (bit_of row (edge z hash k) ⊕ not (eqb (h0 z hash k) j)) refl
    where
      all : List ℕ
      all = places z hash (others_edges (edge z hash) k before) (edge z hash k).1

      wrong : ((bit_of row (edge z hash k) ⊕ not (eqb (h0 z hash k) j)) ≡ true) ↔ WrongBit z hash row j k
      wrong = xor_means (bit_of row (edge z hash k)) (not (eqb (h0 z hash k) j))

      go : (d : Bool) → (bit_of row (edge z hash k) ⊕ not (eqb (h0 z hash k) j)) ≡ d → Among p (cond d all []) ↔ (WrongBit z hash row j k × (p < z.a + z.b) × Joined (others_edges (edge z hash) k before) (edge z hash k).1 p)
      go true e = (λ m. let r = (joined_places p).0 m in (wrong.0 e, r.0, r.1), λ m. (joined_places p).1 (m.1, m.2))
      go false e = (λ m. absurd m, λ m. absurd (both_ways (bit_of row (edge z hash k) ⊕ not (eqb (h0 z hash k) j)) e (wrong.1 m.0)))

-- the places of a list by row
row-a : (a x : ℕ) (ps : List ℕ) → Among x (kept (λ p. ltb p a) ps) ↔ ((x < a) × Among x ps)
row-a a x ps =
    let means = kept-means (λ p. ltb p a) x ps in
    (λ m. let r = means.0 m in (ltb-true x a r.0, r.1), λ m. means.1 (lt-ltb x a m.0, m.1))

row-b : (a y : ℕ) (ps : List ℕ) → Among y (map (λ p. p - a) (kept (λ p. leb a p) ps)) ↔ Among (a + y) ps
row-b a y ps = (
  λ m.
      let r = from-map (λ (p : ℕ). p - a) (kept (λ p. leb a p) ps) y m in
      let q = (kept-means (λ p. leb a p) r.0 ps).0 r.1 in
      let h = leb-true a r.0 q.0 in
      let e : r.0 ≡ a + y = omega (arith, r.2) in
      subst (λ (p : ℕ). Among p ps) e q.1,
  λ m.
      let e : a + y - a ≡ y = omega arith in
      subst (λ (p : ℕ). Among p (map (λ q. q - a) (kept (λ q. leb a q) ps))) e
      (among_map (λ (p : ℕ). p - a) (kept (λ p. leb a p) ps) (a + y) ((kept-means (λ p. leb a p) (a + y) ps).1 (le-leb a (a + y) (omega arith), m))),
)

pub flip_law : FlipLaw
flip_law z hash blank before b j i h s = record {
  places = turned-places z hash blank before b.row j h.0;
  listed_a = λ x. row-a z.a x (turned z hash blank before b.row j h.0);
  listed_b = λ y. row-b z.a y (turned z hash blank before b.row j h.0);
}
