-- A chain's steps can be written exactly where each has a seed.
use Rattle.std.proofs.Common.{◌≡◌, ℕ, Bool, true, false, eqb, ◌⊎◌, List, [], ◌∷◌, ◌++◌, map, sym, refl, ap, ◌∙◌, subst, ap₂, inl, inr}
use mathlib.Core.Path.{fun_ext}
use mathlib.Core.Option.{Option, none, some}
use Rattle.std.proofs.lemmas.Bool.{cases_eq, eq-eqb, or_left, or_right}
use Rattle.shared.specs.declared.sizes.Sizes.{Sizes}
use Rattle.shared.specs.Book.{Held, Slot, Book, part_of, held_in, contents, is_empty, slots, empty_slot, other, holding, book_after, step_for, written, placed}
use Rattle.shared.specs.Kinds.{Hash}
use Rattle.shared.specs.Lists.{memb, apart, first_from, ◌then◌, at2}
use Rattle.shared.specs.Notice.{Setting, Step}
use Rattle.shared.specs.Table.{Part, slot_of}
use Rattle.history.specs.Acceptance.{HasSeed, Seeded}
use Rattle.chain_laws.specs.Chains.{Chain}
use Rattle.chain_laws.proofs.Tools.{some_same, first_exists, at2-same, at2-other}
use Rattle.chain_laws.proofs.Chains.{written_as, placed-last, placed-further, chain_next, not-memb, seen_apart}

-- buckets with the same slots
contents-same : (slot slot' : ℕ → ℕ → Slot) (j : ℕ) → ((q : ℕ) → slot' j q ≡ slot j q) → contents slot' j ≡ contents slot j
contents-same slot slot' j same =
    ap₂ (λ (x y : Slot). held_in (x ∷ y ∷ slot' j 2 ∷ slot' j 3 ∷ [])) (same 0) (same 1) ∙ ap₂ (λ (x y : Slot). held_in (slot j 0 ∷ slot j 1 ∷ x ∷ y ∷ [])) (same 2) (same 3)

-- with a part put into one slot, the others alone have to be the same
put_same : (slot slot' : ℕ → ℕ → Slot) (j i : ℕ) (x : Slot) → ((q : ℕ) → (q ≡ i → ⊥) → slot' j q ≡ slot j q) → contents (at2 slot' j i x) j ≡ contents (at2 slot j i x) j
put_same slot slot' j i x same = contents-same (at2 slot j i x) (at2 slot' j i x) j (λ q. go q (cases_eq q i))
  where
    go : (q : ℕ) → (q ≡ i) ⊎ (q ≡ i → ⊥) → at2 slot' j i x j q ≡ at2 slot j i x j q
    go q (inl e) = ap (at2 slot' j i x j) e ∙ at2-same slot' j i x ∙ sym (at2-same slot j i x) ∙ ap (at2 slot j i x j) (sym e)
    go q (inr n) = at2-other slot' j i x j q (λ a b. n b) ∙ same q n ∙ sym (at2-other slot j i x j q (λ a b. n b))

module _ (z : Sizes) (hash : Hash) (blank : Setting) (before : List Part) where
  pub placed-number : (is : List ℕ) (b : Book) (j : ℕ) (h : Held) (r : Book × List Step) → placed z hash blank before b j h is ≡ some r → r.0.number ≡ b.number
  placed-number [] b j h r e =
      let a = placed-last z hash blank before b j h r e in
      let w = written_as z hash blank before b j h a.0 a.1 a.3 in
      ap (λ (x : Book × List Step). x.0.number) (sym a.4) ∙ ap (λ (x : Book × Step). x.0.number) (sym w.2)
  placed-number (i ∷ is) b j h r e =
      let a = placed-further z hash blank before b j h i is r e in
      let w = written_as z hash blank before a.1.0 j h i a.2 a.5 in
      ap (λ (x : Book × List Step). x.0.number) (sym a.6) ∙ ap (λ (x : Book × Step). x.0.number) (sym w.2)
      ∙ placed-number is (slots b (at2 b.slot j i none)) (other z hash a.0.0 j) a.0 a.1 a.4

  -- the slots of the buckets behind a chain's first stay
  placed-others : (is : List ℕ) (b : Book) (j : ℕ) (h : Held) (seen : List ℕ) → memb j seen ≡ true → Chain z hash b.slot is j seen → (r : Book × List Step) → placed z hash blank before b j h is ≡ some r
      → (p q : ℕ) → memb p seen ≡ true → (p ≡ j → ⊥) → r.0.slot p q ≡ b.slot p q
  placed-others [] b j h seen y ch r e p q u n =
      let a = placed-last z hash blank before b j h r e in
      let w = written_as z hash blank before b j h a.0 a.1 a.3 in
      ap (λ (x : Book × List Step). x.0.slot p q) (sym a.4) ∙ ap (λ (x : Book × Step). x.0.slot p q) (sym w.2) ∙ at2-other b.slot j a.0 (some h) p q (λ s t. n s)
  placed-others (i ∷ is) b j h seen y ch r e p q u n =
      let a = placed-further z hash blank before b j h i is r e in
      let g = a.0 in
      let o = other z hash g.0 j in
      let c = chain_next z hash b.slot i is j seen g a.3 y ch in
      let w = written_as z hash blank before a.1.0 j h i a.2 a.5 in
      let deep = placed-others is (slots b (at2 b.slot j i none)) o g (o ∷ seen) (or_left (eqb o o) (memb o seen) (eq-eqb o o refl)) c.2 a.1 a.4 p q (or_right (eqb p o) (memb p seen) u) (λ s. seen_apart z hash o p seen c.0 u (sym s)) in
      ap (λ (x : Book × List Step). x.0.slot p q) (sym a.6) ∙ ap (λ (x : Book × Step). x.0.slot p q) (sym w.2) ∙ at2-other a.1.0.slot j i (some h) p q (λ s t. n s)
      ∙ deep ∙ at2-other b.slot j i none p q (λ s t. n s)

-- a change in a bucket behind us leaves a chain's seeds
module _ (z : Sizes) (hash : Hash) where
  empty_same : (slot slot' : ℕ → ℕ → Slot) (j : ℕ) → ((q : ℕ) → slot' j q ≡ slot j q) → empty_slot slot' j ≡ empty_slot slot j
  empty_same slot slot' j same = ap (λ (t : ℕ → Bool). first_from t 0 4) (fun_ext (λ q. ap is_empty (same q)))

  seeded-kept : (slot slot' : ℕ → ℕ → Slot) (c : ℕ) → ((p q : ℕ) → (p ≡ c → ⊥) → slot' p q ≡ slot p q)
      → (is : List ℕ) (j : ℕ) (h : Held) (seen : List ℕ) → memb c seen ≡ true → (j ≡ c → ⊥) → Chain z hash slot is j seen → Seeded z hash slot j h is → Seeded z hash slot' j h is
  seeded-kept slot slot' c same [] j h seen y n ch s =
      (s.0, empty_same slot slot' j (λ q. same j q n) ∙ s.1, subst (λ (l : List Held). HasSeed hash (map part_of l)) (sym (put_same slot slot' j s.0 (some h) (λ q d. same j q n))) s.2)
  seeded-kept slot slot' c same (i ∷ is) j h seen y n ch s =
      let g = s.0 in
      let o = other z hash g.0 j in
      let link : ch.0 ≡ g = some_same (sym ch.2 ∙ s.1) in
      let unseen : memb o seen ≡ false = subst (λ (v : Held). memb (other z hash v.0 j) seen ≡ false) link (not-memb z hash (other z hash ch.0.0 j) seen ch.3) in
      let rest : Chain z hash slot is o (o ∷ seen) = subst (λ (v : Held). Chain z hash slot is (other z hash v.0 j) (other z hash v.0 j ∷ seen)) link ch.4 in (
        g,
        same j i n ∙ s.1,
        subst (λ (l : List Held). HasSeed hash (map part_of l)) (sym (put_same slot slot' j i (some h) (λ q d. same j q n))) s.2,
        seeded-kept slot slot' c same is o g (o ∷ seen) (or_right (eqb c o) (memb c seen) y) (seen_apart z hash o c seen unseen y) rest s.3,
      )

module _ (z : Sizes) (hash : Hash) (blank : Setting) (before : List Part) where
  -- a bucket's parts where the part in its slot i has moved on and h has come
  bucket_parts : (is : List ℕ) (b : Book) (j i : ℕ) (g h : Held) (seen : List ℕ) → memb j seen ≡ true → memb (other z hash g.0 j) seen ≡ false → (other z hash g.0 j ≡ j → ⊥)
      → Chain z hash (at2 b.slot j i none) is (other z hash g.0 j) (other z hash g.0 j ∷ seen)
      → (moved : Book × List Step) → placed z hash blank before (slots b (at2 b.slot j i none)) (other z hash g.0 j) g is ≡ some moved
      → contents (at2 moved.0.slot j i (some h)) j ≡ contents (at2 b.slot j i (some h)) j
  bucket_parts is b j i g h seen y unseen away rest moved e = put_same b.slot moved.0.slot j i (some h) stays
    where
      o : ℕ
      o = other z hash g.0 j

      stays : (q : ℕ) → (q ≡ i → ⊥) → moved.0.slot j q ≡ b.slot j q
      stays q n =
          placed-others z hash blank before is (slots b (at2 b.slot j i none)) o g (o ∷ seen) (or_left (eqb o o) (memb o seen) (eq-eqb o o refl)) rest moved e j q (or_right (eqb j o) (memb j seen) y) (λ s. away (sym s))
          ∙ at2-other b.slot j i none j q (λ s t. n t)

  pub seeded : (is : List ℕ) (b : Book) (j : ℕ) (h : Held) (seen : List ℕ) → memb j seen ≡ true → Chain z hash b.slot is j seen → (r : Book × List Step) → placed z hash blank before b j h is ≡ some r
      → Seeded z hash b.slot j h is
  seeded [] b j h seen y ch r e =
      let a = placed-last z hash blank before b j h r e in
      let w = written_as z hash blank before b j h a.0 a.1 a.3 in
      (a.0, a.2, (w.0, w.3, w.1))
  seeded (i ∷ is) b j h seen y ch r e =
      let a = placed-further z hash blank before b j h i is r e in
      let g = a.0 in
      let o = other z hash g.0 j in
      let c = chain_next z hash b.slot i is j seen g a.3 y ch in
      let w = written_as z hash blank before a.1.0 j h i a.2 a.5 in
      let parts = bucket_parts is b j i g h seen y c.0 c.1 c.2 a.1 a.4 in
      let deep = seeded is (slots b (at2 b.slot j i none)) o g (o ∷ seen) (or_left (eqb o o) (memb o seen) (eq-eqb o o refl)) c.2 a.1 a.4 in (
        g,
        a.3,
        subst (λ (l : List Held). HasSeed hash (map part_of l)) parts (w.0, w.3, w.1),
        seeded-kept z hash (at2 b.slot j i none) b.slot j (λ p q n. sym (at2-other b.slot j i none p q (λ s t. n s))) is o g (o ∷ seen) (or_right (eqb j o) (memb j seen) y) c.1 c.2 deep,
      )

  -- a bucket whose parts have a seed is written
  has_written : (b : Book) (j i : ℕ) (h : Held) → HasSeed hash (map part_of (contents (at2 b.slot j i (some h)) j)) → (w : Book × Step) × (written z hash blank before b j i h ≡ some w)
  has_written b j i h s =
      let m = first_exists (λ x. apart (map (slot_of hash x) (map part_of (holding z hash blank b j i h)))) 256 s.0 s.1 s.2 in
      ((book_after z hash blank before b j i h m.0, step_for z hash blank before b j i h m.0), ap (λ (o : Option ℕ). o then (λ x. some (book_after z hash blank before b j i h x, step_for z hash blank before b j i h x))) m.1)

  -- one more move in front of a chain that was placed
  put-further : (i : ℕ) (is : List ℕ) (b : Book) (j : ℕ) (g h : Held) (moved : Book × List Step) (w : Book × Step) → b.slot j i ≡ some g
      → placed z hash blank before (slots b (at2 b.slot j i none)) (other z hash g.0 j) g is ≡ some moved → written z hash blank before moved.0 j i h ≡ some w
      → placed z hash blank before b j h (i ∷ is) ≡ some (w.0, moved.1 ++ (w.1 ∷ []))
  put-further i is b j g h moved w e f q = ap (λ (x : Slot). x then first) e ∙ ap (λ (x : Option (Book × List Step)). x then second) f ∙ ap (λ (x : Option (Book × Step)). x then (λ v. some (v.0, moved.1 ++ (v.1 ∷ [])))) q
    where
      second : Book × List Step → Option (Book × List Step)
      second m = written z hash blank before m.0 j i h then (λ v. some (v.0, m.1 ++ (v.1 ∷ [])))

      first : Held → Option (Book × List Step)
      first f = placed z hash blank before (slots b (at2 b.slot j i none)) (other z hash f.0 j) f is then second

  pub seeded-placed : (is : List ℕ) (b : Book) (j : ℕ) (h : Held) (seen : List ℕ) → memb j seen ≡ true → Chain z hash b.slot is j seen → Seeded z hash b.slot j h is
      → (r : Book × List Step) × (placed z hash blank before b j h is ≡ some r)
  seeded-placed [] b j h seen y ch s =
      let w = has_written b j s.0 h s.2 in
      ((w.0.0, w.0.1 ∷ []), ap (λ (o : Option ℕ). o then (λ i. written z hash blank before b j i h then (λ x. some (x.0, x.1 ∷ [])))) s.1 ∙ ap (λ (o : Option (Book × Step)). o then (λ x. some (x.0, x.1 ∷ []))) w.1)
  seeded-placed (i ∷ is) b j h seen y ch s =
      let g = s.0 in
      let o = other z hash g.0 j in
      let gap = slots b (at2 b.slot j i none) in
      let c = chain_next z hash b.slot i is j seen g s.1 y ch in
      let link : ch.0 ≡ g = some_same (sym ch.2 ∙ s.1) in
      let rest : Chain z hash b.slot is o (o ∷ seen) = subst (λ (v : Held). Chain z hash b.slot is (other z hash v.0 j) (other z hash v.0 j ∷ seen)) link ch.4 in
      let m =
      seeded-placed is gap o g (o ∷ seen) (or_left (eqb o o) (memb o seen) (eq-eqb o o refl)) c.2
      (seeded-kept z hash b.slot gap.slot j (λ p q n. at2-other b.slot j i none p q (λ u t. n u)) is o g (o ∷ seen) (or_right (eqb j o) (memb j seen) y) c.1 rest s.3) in
      let parts = bucket_parts is b j i g h seen y c.0 c.1 c.2 m.0 m.1 in
      let w = has_written m.0.0 j i h (subst (λ (l : List Held). HasSeed hash (map part_of l)) (sym parts) s.2) in
      ((w.0.0, m.0.1 ++ (w.0.1 ∷ [])), put-further i is b j g h m.0 w.0 s.1 m.1 w.1)
