-- The standing parts' edges make no circle, whatever is entered or struck; a flip turns one part's bit and no other's.
use Rattle.std.proofs.Common.{◌≡◌, ℕ, Bool, true, false, cond, not, ◌⊎◌, ◌↔◌, List, [], ◌∷◌, map, sym, refl, ap, ◌∙◌, subst, inl, inr}
use Rattle.std.proofs.lemmas.Bool.{both_ways}
use Rattle.shared.specs.Graph.{Edge, Joined, joins, ◌⊕◌, bit_of, flipped, without, Forest}
use Rattle.shared.specs.Lists.{Among}
use Rattle.shared.specs.Graph.Joined.{same, along, back}
use Rattle.graph_laws.proofs.Walks.{follow, turn, wider, by_eq, Within, Via, via, decides, decided}

pub among_map : {A B : Type 0} (f : A → B) (xs : List A) (x : A) → Among x xs → Among (f x) (map f xs)
among_map f [] x m = m
among_map f (y ∷ ys) x (inl e) = inl (ap f e)
among_map f (y ∷ ys) x (inr m) = inr (among_map f ys x m)

pub from-map : {A B : Type 0} (f : A → B) (xs : List A) (b : B) → Among b (map f xs) → (x : A) × Among x xs × (b ≡ f x)
from-map f [] b m = absurd m
from-map f (y ∷ ys) b (inl e) = (y, inl refl, e)
from-map f (y ∷ ys) b (inr m) = let r = from-map f ys b m in (r.0, inr r.1, r.2)

pub map-within : {A B : Type 0} (f : A → B) (xs ys : List A) → Within xs ys → Within (map f xs) (map f ys)
map-within f xs ys w b m =
    let r = from-map f xs b m in
    subst (λ (c : _). Among c (map f ys)) (sym r.2) (among_map f ys r.0 (w r.0 r.1))

module _ {P : Type 0} (eq : P → P → Bool) (sound : (x y : P) → eq x y ≡ true → x ≡ y) (own : (x : P) → eq x x ≡ true) where
  -- what stands in the list without k
  pub without_in : (k : P) (ps : List P) (q : P) → Among q (without eq k ps) → Among q ps × (q ≡ k → ⊥)
  without_in k [] q m = absurd m
  without_in k (p ∷ ps) q m = go (without_in k ps q) (eq k p) refl m
    where
      rest : List P
      rest = without eq k ps

      go : (Among q rest → Among q ps × (q ≡ k → ⊥)) → (b : Bool) → eq k p ≡ b → Among q (cond b rest (p ∷ rest)) → Among q (p ∷ ps) × (q ≡ k → ⊥)
      go ih true e n = (inr (ih n).0, (ih n).1)
      go ih false e (inl t) = (inl t, λ u. both_ways (eq k p) e (subst (λ (w : P). eq k w ≡ true) (sym u ∙ t) (own k)))
      go ih false e (inr n) = (inr (ih n).0, (ih n).1)

  pub in_without : (k : P) (ps : List P) (q : P) → Among q ps → (q ≡ k → ⊥) → Among q (without eq k ps)
  in_without k [] q m n = m
  in_without k (p ∷ ps) q m n = go (λ i. in_without k ps q i n) (eq k p) refl m
    where
      rest : List P
      rest = without eq k ps

      go : (Among q ps → Among q rest) → (b : Bool) → eq k p ≡ b → Among q (p ∷ ps) → Among q (cond b rest (p ∷ rest))
      go ih true e (inl t) = absurd (n (t ∙ sym (sound k p e)))
      go ih true e (inr i) = ih i
      go ih false e (inl t) = inl t
      go ih false e (inr i) = inr (ih i)

  module _ (edge : P → Edge) where
    -- fewer parts, or the same in another order
    pub forest_within : (ps qs : List P) → Within qs ps → Forest eq edge ps → Forest eq edge qs
    forest_within ps qs w forest k m j =
        forest k (w k m) (wider (map-within edge _ _ (λ q n. let r = without_in k qs q n in in_without k ps q (w q r.0) r.1)) j)

    -- one part more, whose places the others don't join
    pub forest_enter : (ps : List P) (n : P) → Forest eq edge ps → (Joined (map edge ps) (edge n).0 (edge n).1 → ⊥) → Forest eq edge (n ∷ ps)
    forest_enter ps n forest apart k (inl e) j =
        apart (subst (λ (d : P). Joined (map edge ps) (edge d).0 (edge d).1) e (wider (map-within edge _ _ inside) j))
      where
        inside : Within (without eq k (n ∷ ps)) ps
        inside q m = go (without_in k (n ∷ ps) q m).1 (without_in k (n ∷ ps) q m).0
          where
            go : (q ≡ k → ⊥) → Among q (n ∷ ps) → Among q ps
            go d (inl t) = absurd (d (t ∙ sym e))
            go d (inr i) = i
    forest_enter ps n forest apart k (inr m) j = ways (via (edge n) es (edge k).0 (edge k).1 (wider inside j))
      where
        es : List Edge
        es = map edge (without eq k ps)

        up : {x y : ℕ} → Joined es x y → Joined (map edge ps) x y
        up p = wider (map-within edge _ _ (λ q i. (without_in k ps q i).0)) p

        own-edge : Among (edge k) (map edge ps)
        own-edge = among_map edge ps k m

        inside : Within (map edge (without eq k (n ∷ ps))) (edge n ∷ es)
        inside = map-within edge (without eq k (n ∷ ps)) (n ∷ without eq k ps) (λ q i. go q (without_in k (n ∷ ps) q i).0 (without_in k (n ∷ ps) q i).1)
          where
            go : (q : P) → Among q (n ∷ ps) → (q ≡ k → ⊥) → Among q (n ∷ without eq k ps)
            go q (inl t) d = inl t
            go q (inr i) d = inr (in_without k ps q i d)

        ways : Via (edge n) es (edge k).0 (edge k).1 → ⊥
        ways (inl p) = forest k m p
        ways (inr (inl p)) = apart (follow (turn (up p.0)) (along own-edge (turn (up p.1))))
        ways (inr (inr p)) = apart (follow (up p.1) (back own-edge (up p.0)))

-- A flip leaves the bit of an edge where it takes both ends or neither, and turns it where it takes one.
keeps_bit : (h a b : Bool) → (h ⊕ a) ⊕ (h ⊕ b) ≡ a ⊕ b
keeps_bit true true true = refl
keeps_bit true true false = refl
keeps_bit true false true = refl
keeps_bit true false false = refl
keeps_bit false a b = refl

turns-bit : (h a b : Bool) → (not h ⊕ a) ⊕ (h ⊕ b) ≡ not (a ⊕ b)
turns-bit true true true = refl
turns-bit true true false = refl
turns-bit true false true = refl
turns-bit true false false = refl
turns-bit false true true = refl
turns-bit false true false = refl
turns-bit false false true = refl
turns-bit false false false = refl

pub flip_keeps : (hit row : ℕ → Bool) (e : Edge) → hit e.0 ≡ hit e.1 → bit_of (flipped hit row) e ≡ bit_of row e
flip_keeps hit row e q = ap (λ (h : Bool). (h ⊕ row e.0) ⊕ (hit e.1 ⊕ row e.1)) q ∙ keeps_bit (hit e.1) (row e.0) (row e.1)

pub flip_turns : (hit row : ℕ → Bool) (e : Edge) → hit e.0 ≡ not (hit e.1) → bit_of (flipped hit row) e ≡ not (bit_of row e)
flip_turns hit row e q = ap (λ (h : Bool). (h ⊕ row e.0) ⊕ (hit e.1 ⊕ row e.1)) q ∙ turns-bit (hit e.1) (row e.0) (row e.1)

-- a test that passes exactly the places that es joins to an end
module _ (es : List Edge) (end : ℕ) (hit : ℕ → Bool) (only : (p : ℕ) → (hit p ≡ true) ↔ Joined es end p) where
  misses : (p : ℕ) → (Joined es end p → ⊥) → hit p ≡ false
  misses p n = go (hit p) refl
    where
      go : (b : Bool) → hit p ≡ b → b ≡ false
      go true e = absurd (n ((only p).0 e))
      go false e = refl

  -- joined places are hit together
  together : (x y : ℕ) → Joined es x y → hit x ≡ hit y
  together x y j = go (hit x) (hit y) refl refl
    where
      go : (a b : Bool) → hit x ≡ a → hit y ≡ b → a ≡ b
      go true true p q = refl
      go true false p q = sym ((only y).1 (follow ((only x).0 p) j)) ∙ q
      go false true p q = sym p ∙ (only x).1 (follow ((only y).0 q) (turn j))
      go false false p q = refl

  -- the others' edges keep their bits, and an edge with one end at `end`, whose ends es does not join, turns its own
  pub flip_others : (row : ℕ → Bool) (e : Edge) → Among e es → bit_of (flipped hit row) e ≡ bit_of row e
  flip_others row e m = flip_keeps hit row e (together e.0 e.1 (along m same))

  pub flip_own : (row : ℕ → Bool) (e : Edge) → (end ≡ e.0) ⊎ (end ≡ e.1) → (Joined es e.0 e.1 → ⊥) → bit_of (flipped hit row) e ≡ not (bit_of row e)
  flip_own row e (inl q) apart = flip_turns hit row e ((only e.0).1 (by_eq q) ∙ ap not (sym (misses e.1 (λ j. apart (follow (by_eq (sym q)) j)))))
  flip_own row e (inr q) apart = flip_turns hit row e (misses e.0 (λ j. apart (turn (follow (by_eq (sym q)) j))) ∙ ap not (sym ((only e.1).1 (by_eq q))))

-- the test of the rules is one
pub by_joins : (es : List Edge) (end p : ℕ) → (joins es end p ≡ true) ↔ Joined es end p
by_joins es end p = (decides es end p, decided es end p)
