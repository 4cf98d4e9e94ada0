-- One step keeps book and table together.
use Rattle.std.proofs.Common.{◌≡◌, ℕ, ◌+◌, ◌*◌, ◌%◌, ◌^◌, ◌<◌, Bool, true, false, cond, not, eqb, ◌⊎◌, List, [], ◌∷◌, map, sym, refl, ap, ◌∙◌, subst, ap₂, inl, inr, mod-lt, arith}
use mathlib.Core.Path.{fun_ext}
use mathlib.Core.Option.{none, some}
use Rattle.std.proofs.lemmas.Bool.{eqb-true, eqb-false, eq-eqb, ne_eqb, cases_eq, cond-true, cond-false}
use Rattle.shared.specs.declared.sizes.Sizes.{Sizes}
use Rattle.shared.specs.Book.{Held, Slot, Book, part_of, value_at, places, turned, holding, book_after, step_for}
use Rattle.shared.specs.Graph.{Edge, Joined, joins, ◌⊕◌, bit_of, flipped, without}
use Rattle.shared.specs.Kinds.{Hash}
use Rattle.shared.specs.Lists.{Among, same_list, memb, apart, at, at2}
use Rattle.shared.specs.Notice.{Setting}
use Rattle.shared.specs.Table.{Part, Table, slot_of, h0, h1, edge, choose, applied}
use Rattle.graph_laws.proofs.Same.{same_sound, same_own}
use Rattle.graph_laws.proofs.Forest.{among_map, in_without, by_joins, flip_others, flip_own}
use Rattle.history.specs.Premises.{Family}
use Rattle.history.specs.Sound.{Mid}
use Rattle.chain_laws.proofs.Tools.{some_same, at_same, at_other, at2-same, at2-other, at2-cases, kept-up, two_rows, four, contents-in, apart-contents, value_of}

module _ (z : Sizes) (hash : Hash) where
  edge-low : (k : Part) → (edge z hash k).0 < z.a + z.b
  edge-low k = let h : (edge z hash k).0 < z.a = mod-lt _ z.some_a in omega arith

  edge-high : (k : Part) → (edge z hash k).1 < z.a + z.b
  edge-high k = let h : hash (259 + 4 * z.turn) k % z.b < z.b = mod-lt _ z.some_b in omega arith

  -- a flip as the rules list its places
  listed : (es : List Edge) (y : ℕ) (row : ℕ → Bool) (k : Part) → bit_of (flipped (λ p. memb p (places z hash es y)) row) (edge z hash k) ≡ bit_of (flipped (joins es y) row) (edge z hash k)
  listed es y row k =
      ap₂ (λ (u w : Bool). (u ⊕ row (edge z hash k).0) ⊕ (w ⊕ row (edge z hash k).1))
      (kept-up (joins es y) (edge z hash k).0 (z.a + z.b) (edge-low k)) (kept-up (joins es y) (edge z hash k).1 (z.a + z.b) (edge-high k))

xor_true : (a w : Bool) → a ⊕ w ≡ true → not a ≡ w
xor_true true true e = e
xor_true true false e = refl
xor_true false true e = refl
xor_true false false e = sym e

xor_false : (a w : Bool) → a ⊕ w ≡ false → a ≡ w
xor_false true true e = refl
xor_false true false e = e
xor_false false true e = sym e
xor_false false false e = refl

module _ (z : Sizes) (hash : Hash) (before : List Part) (row : ℕ → Bool) (j : ℕ) (k : Part) where
  abbrev others : List Edge
  others = map (edge z hash) (without same_list k before)

  abbrev turned_row : ℕ → Bool
  turned_row = flipped (λ p. memb p (turned z hash [] before row j k)) row

  -- the other parts' bits stay
  pub turn_other : (q : Part) → Among (edge z hash q) others → bit_of turned_row (edge z hash q) ≡ bit_of row (edge z hash q)
  turn_other q m = go (bit_of row (edge z hash k) ⊕ not (eqb (h0 z hash k) j))
    where
      go : (b : Bool) → bit_of (flipped (λ p. memb p (cond b (places z hash others (edge z hash k).1) [])) row) (edge z hash q) ≡ bit_of row (edge z hash q)
      go true = listed z hash others (edge z hash k).1 row q ∙ flip_others others (edge z hash k).1 (joins others (edge z hash k).1) (by_joins others (edge z hash k).1) row (edge z hash q) m
      go false = refl

  -- k's bit is the one that chooses bucket j
  turn_own : (Joined others (edge z hash k).0 (edge z hash k).1 → ⊥) → bit_of turned_row (edge z hash k) ≡ not (eqb (h0 z hash k) j)
  turn_own free = go (bit_of row (edge z hash k) ⊕ not (eqb (h0 z hash k) j)) refl
    where
      go : (b : Bool) → bit_of row (edge z hash k) ⊕ not (eqb (h0 z hash k) j) ≡ b
          → bit_of (flipped (λ p. memb p (cond b (places z hash others (edge z hash k).1) [])) row) (edge z hash k) ≡ not (eqb (h0 z hash k) j)
      go true e = listed z hash others (edge z hash k).1 row k ∙ flip_own others (edge z hash k).1 (joins others (edge z hash k).1) (by_joins others (edge z hash k).1) row (edge z hash k) (inr refl) free ∙ xor_true _ _ e
      go false e = xor_false _ _ e

  choose-own : (Joined others (edge z hash k).0 (edge z hash k).1 → ⊥) → (j ≡ h0 z hash k) ⊎ (j ≡ h1 z hash k) → choose z hash turned_row k ≡ j
  choose-own free side = ap (λ (b : Bool). cond b (h1 z hash k) (h0 z hash k)) (turn_own free) ∙ go (eqb (h0 z hash k) j) refl side
    where
      go : (b : Bool) → eqb (h0 z hash k) j ≡ b → (j ≡ h0 z hash k) ⊎ (j ≡ h1 z hash k) → cond (not b) (h1 z hash k) (h0 z hash k) ≡ j
      go true e s = eqb-true _ _ e
      go false e (inl s) = absurd (eqb-false _ _ e (sym s))
      go false e (inr s) = sym s

module _ (z : Sizes) (hash : Hash) (blank : Setting) (low : Family hash) where
  slot_low : (s : ℕ) (k : Part) → s < 256 → slot_of hash s k < 4
  slot_low s k l = let h : hash s k < 2 ^ 32 = low s k (omega arith) in omega arith

  module _ (before : List Part) (b : Book) (t : Table) (m : Mid z hash before b t) (j i : ℕ) (h : Held) (s : ℕ) (small : s < 256)
      (vacant : b.slot j i ≡ none) (inside : i < 4)
      (fresh : (p q : ℕ) (g : Held) → b.slot p q ≡ some g → g.0 ≡ h.0 → ⊥)
      (side : (j ≡ h0 z hash h.0) ⊎ (j ≡ h1 z hash h.0))
      (free : Joined (map (edge z hash) (without same_list h.0 before)) (edge z hash h.0).0 (edge z hash h.0).1 → ⊥)
      (seeded : apart (map (slot_of hash s) (map part_of (holding z hash blank b j i h))) ≡ true) where
    abbrev new_slot : ℕ → ℕ → Slot
    new_slot = at2 b.slot j i (some h)

    read : (p q : ℕ) (g : Held) → new_slot p q ≡ some g → ((p ≡ j) × (q ≡ i) × (g ≡ h)) ⊎ (b.slot p q ≡ some g)
    read p q g e = go (at2-cases j i p q)
      where
        go : ((p ≡ j) × (q ≡ i)) ⊎ (p ≡ j → q ≡ i → ⊥) → ((p ≡ j) × (q ≡ i) × (g ≡ h)) ⊎ (b.slot p q ≡ some g)
        go (inl c) = inl (c.0, c.1, some_same (sym (subst (λ (w : ℕ). new_slot w i ≡ some g) c.0 (subst (λ (w : ℕ). new_slot p w ≡ some g) c.1 e)) ∙ at2-same b.slot j i (some h)))
        go (inr n) = inr (sym (at2-other b.slot j i (some h) p q n) ∙ e)

    -- elsewhere than in bucket j nothing changed
    apart-read : (p q : ℕ) (g : Held) → (p ≡ j → ⊥) → new_slot p q ≡ some g → b.slot p q ≡ some g
    apart-read p q g n e = sym (at2-other b.slot j i (some h) p q (λ x y. n x)) ∙ e

    low_bucket : j < z.buckets
    low_bucket = go side
      where
        go : (j ≡ h0 z hash h.0) ⊎ (j ≡ h1 z hash h.0) → j < z.buckets
        go (inl e) = subst (λ (w : ℕ). w < z.buckets) (sym e) (mod-lt _ z.some_buckets)
        go (inr e) = subst (λ (w : ℕ). w < z.buckets) (sym e) (mod-lt _ z.some_buckets)

    new_range : (p q : ℕ) (g : Held) → new_slot p q ≡ some g → (p < z.buckets) × (q < 4)
    new_range p q g e = go (read p q g e)
      where
        go : ((p ≡ j) × (q ≡ i) × (g ≡ h)) ⊎ (b.slot p q ≡ some g) → (p < z.buckets) × (q < 4)
        go (inl c) = (subst (λ (w : ℕ). w < z.buckets) (sym c.0) low_bucket, subst (λ (w : ℕ). w < 4) (sym c.1) inside)
        go (inr o) = m.range p q g o

    abbrev after : Book
    after = book_after z hash blank before b j i h s

    abbrev table_after : Table
    table_after = applied z blank t (step_for z hash blank before b j i h s)

    new_chosen : (p q : ℕ) (g : Held) → new_slot p q ≡ some g → choose z hash after.row g.0 ≡ p
    new_chosen p q g e = go (read p q g e)
      where
        go : ((p ≡ j) × (q ≡ i) × (g ≡ h)) ⊎ (b.slot p q ≡ some g) → choose z hash after.row g.0 ≡ p
        go (inl c) = ap (λ (w : Held). choose z hash after.row w.0) c.2 ∙ choose-own z hash before b.row j h.0 free side ∙ sym c.0
        go (inr o) =
            ap (λ (w : Bool). cond w (h1 z hash g.0) (h0 z hash g.0))
            (turn_other z hash before b.row j h.0 g.0
            (among_map (edge z hash) (without same_list h.0 before) g.0 (in_without same_list same_sound same_own h.0 before g.0 (m.stood p q g o) (fresh p q g o))))
            ∙ m.chosen p q g o

    new_value : (p q : ℕ) (g : Held) → new_slot p q ≡ some g → table_after.setting p (slot_of hash (after.seed p) g.0) ≡ g.1
    new_value p q g e = go (cases_eq p j)
      where
        here : new_slot j q ≡ some g → table_after.setting j (slot_of hash (after.seed j) g.0) ≡ g.1
        here f =
            ap (λ (w : ℕ). table_after.setting j (slot_of hash w g.0)) (at_same b.seed j s)
            ∙ cond-true (eqb j j) _ _ (eq-eqb j j refl)
            ∙ four (value_at hash blank s (holding z hash blank b j i h)) blank (slot_of hash s g.0) (slot_low s g.0 small)
            ∙ value_of hash blank s (holding z hash blank b j i h) seeded g (contents-in new_slot j q g (new_range j q g f).1 f)

        go : (p ≡ j) ⊎ (p ≡ j → ⊥) → table_after.setting p (slot_of hash (after.seed p) g.0) ≡ g.1
        go (inl c) = subst (λ (w : ℕ). table_after.setting w (slot_of hash (after.seed w) g.0) ≡ g.1) (sym c) (here (subst (λ (w : ℕ). new_slot w q ≡ some g) c e))
        go (inr n) =
            cond-false (eqb p j) _ _ (ne_eqb p j n)
            ∙ ap (λ (w : ℕ). t.setting p (slot_of hash w g.0)) (at_other b.seed j s p n)
            ∙ m.value p q g (apart-read p q g n e)

    new_apart : (p q r : ℕ) (g f : Held) → new_slot p q ≡ some g → new_slot p r ≡ some f → slot_of hash (after.seed p) g.0 ≡ slot_of hash (after.seed p) f.0 → q ≡ r
    new_apart p q r g f e u w = go (cases_eq p j)
      where
        here : new_slot j q ≡ some g → new_slot j r ≡ some f → slot_of hash (after.seed j) g.0 ≡ slot_of hash (after.seed j) f.0 → q ≡ r
        here e' u' w' =
            apart-contents (slot_of hash s) new_slot j seeded q r g f (new_range j q g e').1 (new_range j r f u').1 e' u'
            (subst (λ (y : ℕ). slot_of hash y g.0 ≡ slot_of hash y f.0) (at_same b.seed j s) w')

        go : (p ≡ j) ⊎ (p ≡ j → ⊥) → q ≡ r
        go (inl c) =
            here (subst (λ (y : ℕ). new_slot y q ≡ some g) c e) (subst (λ (y : ℕ). new_slot y r ≡ some f) c u)
            (subst (λ (y : ℕ). slot_of hash (after.seed y) g.0 ≡ slot_of hash (after.seed y) f.0) c w)
        go (inr n) =
            m.apart p q r g f (apart-read p q g n e) (apart-read p r f n u)
            (subst (λ (y : ℕ). slot_of hash y g.0 ≡ slot_of hash y f.0) (at_other b.seed j s p n) w)

    new_stood : (p q : ℕ) (g : Held) → new_slot p q ≡ some g → Among g.0 (h.0 ∷ before)
    new_stood p q g e = go (read p q g e)
      where
        go : ((p ≡ j) × (q ≡ i) × (g ≡ h)) ⊎ (b.slot p q ≡ some g) → Among g.0 (h.0 ∷ before)
        go (inl c) = inl (ap (λ (w : Held). w.0) c.2)
        go (inr o) = inr (m.stood p q g o)

    new_seeds : (p : ℕ) → after.seed p < 256
    new_seeds p = go (eqb p j)
      where
        go : (d : Bool) → cond d s (b.seed p) < 256
        go true = small
        go false = m.seeds p

    pub write_keeps : Mid z hash (h.0 ∷ before) after table_after
    write_keeps = record {
      row = fun_ext (λ p. ap₂ (λ (u w : Bool). u ⊕ w) (two_rows z.a p (turned z hash blank before b.row j h.0)) (ap (λ (r : ℕ → Bool). r p) m.row));
      seed = ap (λ (f : ℕ → ℕ). at f j s) m.seed;
      seeds = new_seeds;
      chosen = new_chosen;
      value = new_value;
      apart = new_apart;
      range = new_range;
      stood = new_stood;
    }
