-- All steps of an enter keep book and table together.
use Rattle.std.proofs.Common.{◌≡◌, ℕ, ◌<◌, true, false, eqb, ◌⊎◌, List, [], ◌∷◌, ◌++◌, map, sym, refl, ap, ◌∙◌, subst, inl, inr}
use mathlib.Core.Option.{none, some}
use Rattle.std.proofs.lemmas.Bool.{eq-eqb, or_left, or_right}
use Rattle.shared.specs.declared.sizes.Sizes.{Sizes}
use Rattle.shared.specs.Book.{Held, Slot, Book, part_of, slots, other, holding, book_after, step_for, written, placed}
use Rattle.shared.specs.Graph.{Joined, without, Forest}
use Rattle.shared.specs.Kinds.{Hash}
use Rattle.shared.specs.Lists.{Among, same_list, memb, apart, at2}
use Rattle.shared.specs.Notice.{Setting, Step}
use Rattle.shared.specs.Table.{Part, Table, slot_of, h0, h1, edge, choose, applied, applied_all}
use Rattle.graph_laws.proofs.Walks.{Within}
use Rattle.chain_laws.specs.Chains.{Chain}
use Rattle.history.specs.Premises.{Family}
use Rattle.history.specs.Sound.{Mid}
use Rattle.chain_laws.proofs.Chains.{empty_at, seen_apart, chain_next, other-side, written_as, placed-last, placed-further}
use Rattle.chain_laws.proofs.Tools.{never, some_same, at2-same, at2-other, at2-cases}
use Rattle.history.proofs.Writes.{write_keeps}

abbrev pub Holds : (ℕ → ℕ → Slot) → Held → Type 0
Holds slot g = (p : ℕ) × (q : ℕ) × (slot p q ≡ some g)

pub freed : (slot : ℕ → ℕ → Slot) (j i p q : ℕ) (g : Held) → at2 slot j i none p q ≡ some g → (slot p q ≡ some g) × (p ≡ j → q ≡ i → ⊥)
freed slot j i p q g e = go (at2-cases j i p q)
  where
    go : ((p ≡ j) × (q ≡ i)) ⊎ (p ≡ j → q ≡ i → ⊥) → (slot p q ≡ some g) × (p ≡ j → q ≡ i → ⊥)
    go (inl c) = absurd (never (sym (at2-same slot j i none) ∙ subst (λ (w : ℕ). at2 slot j i none w i ≡ some g) c.0 (subst (λ (w : ℕ). at2 slot j i none p w ≡ some g) c.1 e)))
    go (inr n) = (sym (at2-other slot j i none p q n) ∙ e, n)

module _ (z : Sizes) (hash : Hash) where
  pub mid_within : (xs ys : List Part) (b : Book) (t : Table) → Within xs ys → Mid z hash xs b t → Mid z hash ys b t
  mid_within xs ys b t w m = record {
    row = m.row;
    seed = m.seed;
    seeds = m.seeds;
    chosen = m.chosen;
    value = m.value;
    apart = m.apart;
    range = m.range;
    stood = λ j i h e. w h.0 (m.stood j i h e);
  }

  -- a slot emptied
  pub free_keeps : (xs : List Part) (b : Book) (t : Table) (j i : ℕ) → Mid z hash xs b t → Mid z hash xs (slots b (at2 b.slot j i none)) t
  free_keeps xs b t j i m = record {
    row = m.row;
    seed = m.seed;
    seeds = m.seeds;
    chosen = λ p q h e. m.chosen p q h (freed b.slot j i p q h e).0;
    value = λ p q h e. m.value p q h (freed b.slot j i p q h e).0;
    apart = λ p q r g h e f. m.apart p q r g h (freed b.slot j i p q g e).0 (freed b.slot j i p r h f).0;
    range = λ p q h e. m.range p q h (freed b.slot j i p q h e).0;
    stood = λ p q h e. m.stood p q h (freed b.slot j i p q h e).0;
  }

  -- a part stands in one slot
  pub unique : (xs : List Part) (b : Book) (t : Table) → Mid z hash xs b t → (p q j i : ℕ) (x g : Held) → b.slot p q ≡ some x → b.slot j i ≡ some g → x.0 ≡ g.0 → (p ≡ j) × (q ≡ i)
  unique xs b t m p q j i x g e f s =
      let same-bucket : p ≡ j = sym (m.chosen p q x e) ∙ ap (choose z hash b.row) s ∙ m.chosen j i g f in
      (same-bucket, m.apart j q i x g (subst (λ (w : ℕ). b.slot w q ≡ some x) same-bucket e) f (ap (slot_of hash (b.seed j)) s))

  -- a part that was taken out of its slot is in no other
  pub gap-fresh : (xs : List Part) (b : Book) (t : Table) → Mid z hash xs b t → (j i : ℕ) (g : Held) → b.slot j i ≡ some g → (p q : ℕ) (x : Held) → at2 b.slot j i none p q ≡ some x → x.0 ≡ g.0 → ⊥
  gap-fresh xs b t m j i g e p q x u v =
      let a = freed b.slot j i p q x u in
      let c = unique xs b t m p q j i x g a.0 e v in
      a.1 c.0 c.1

-- What the steps that bring h into bucket j come to: r is the book after them and the steps
pub record Brought (z : Sizes) (hash : Hash) (blank : Setting) (before : List Part) (b : Book) (t : Table) (j : ℕ) (h : Held) (seen : List ℕ) (r : Book × List Step) : Type 0 where
  pub mid : Mid z hash (h.0 ∷ before) r.0 (applied_all z blank t r.1)
  pub others : (p q : ℕ) → memb p seen ≡ true → (p ≡ j → ⊥) → r.0.slot p q ≡ b.slot p q
  pub holds : (g : Held) → Holds b.slot g → Holds r.0.slot g
  pub own : Holds r.0.slot h
  pub only : (g : Held) → Holds r.0.slot g → (g ≡ h) ⊎ Holds b.slot g
  pub number : r.0.number ≡ b.number

module _ (z : Sizes) (hash : Hash) (blank : Setting) (low : Family hash) where
  pub all_append : (t : Table) (xs ys : List Step) → applied_all z blank t (xs ++ ys) ≡ applied_all z blank (applied_all z blank t xs) ys
  all_append t [] ys = refl
  all_append t (x ∷ xs) ys = all_append (applied z blank t x) xs ys

  module _ (before : List Part) (forest : Forest same_list (edge z hash) before) where
    abbrev pub Free : Part → Type 0
    Free k = Joined (map (edge z hash) (without same_list k before)) (edge z hash k).0 (edge z hash k).1 → ⊥

    -- the last step, after the steps `done` that led from (b, t) to (c, u): slot i of bucket j is vacant in c
    last_step : (b c : Book) (t : Table) (steps : List Step) → Mid z hash before c (applied_all z blank t steps)
        → (j i : ℕ) (h : Held) (seen : List ℕ) → c.slot j i ≡ none → i < 4
        → ((p q : ℕ) (g : Held) → c.slot p q ≡ some g → g.0 ≡ h.0 → ⊥) → (j ≡ h0 z hash h.0) ⊎ (j ≡ h1 z hash h.0) → Free h.0
        → ((p q : ℕ) → memb p seen ≡ true → (p ≡ j → ⊥) → c.slot p q ≡ b.slot p q)
        → ((g : Held) → Holds b.slot g → Holds c.slot g)
        → ((g : Held) → Holds c.slot g → Holds b.slot g)
        → c.number ≡ b.number
        → (w : Book × Step) → written z hash blank before c j i h ≡ some w → Brought z hash blank before b t j h seen (w.0, steps ++ (w.1 ∷ []))
    last_step b c t steps m j i h seen vacant inside fresh side free same up down num w e =
        subst (λ (y : Book × Step). Brought z hash blank before b t j h seen (y.0, steps ++ (y.1 ∷ []))) v.2 made
      where
        v : (s : ℕ) × (apart (map (slot_of hash s) (map part_of (holding z hash blank c j i h))) ≡ true) × ((book_after z hash blank before c j i h s, step_for z hash blank before c j i h s) ≡ w) × (s < 256)
        v = written_as z hash blank before c j h i w e

        after : Book
        after = book_after z hash blank before c j i h v.0

        step : Step
        step = step_for z hash blank before c j i h v.0

        keeps : (g : Held) → Holds c.slot g → Holds after.slot g
        keeps g o =
            (o.0, o.1, at2-other c.slot j i (some h) o.0 o.1 (λ x y. never (sym vacant ∙ subst (λ (p : ℕ). c.slot p i ≡ some g) x (subst (λ (q : ℕ). c.slot o.0 q ≡ some g) y o.2))) ∙ o.2)

        back : (g : Held) → Holds after.slot g → (g ≡ h) ⊎ Holds c.slot g
        back g o = go (at2-cases j i o.0 o.1)
          where
            go : ((o.0 ≡ j) × (o.1 ≡ i)) ⊎ (o.0 ≡ j → o.1 ≡ i → ⊥) → (g ≡ h) ⊎ Holds c.slot g
            go (inl y) = inl (some_same (sym (subst (λ (p : ℕ). after.slot p i ≡ some g) y.0 (subst (λ (q : ℕ). after.slot o.0 q ≡ some g) y.1 o.2)) ∙ at2-same c.slot j i (some h)))
            go (inr n) = inr (o.0, o.1, sym (at2-other c.slot j i (some h) o.0 o.1 n) ∙ o.2)

        back-to-b : (g : Held) → (g ≡ h) ⊎ Holds c.slot g → (g ≡ h) ⊎ Holds b.slot g
        back-to-b g (inl y) = inl y
        back-to-b g (inr o) = inr (down g o)

        made : Brought z hash blank before b t j h seen (after, steps ++ (step ∷ []))
        made = record {
          mid = subst (λ (y : Table). Mid z hash (h.0 ∷ before) after y) (sym (all_append t steps (step ∷ [])))
              (write_keeps z hash blank low before c (applied_all z blank t steps) m j i h v.0 v.3 vacant inside fresh side free v.1);
          others = λ p q y n. at2-other c.slot j i (some h) p q (λ x u. n x) ∙ same p q y n;
          holds = λ g o. keeps g (up g o);
          own = (j, i, at2-same c.slot j i (some h));
          only = λ g o. back-to-b g (back g o);
          number = num;
        }

    -- the part in slot i moves on first: `ih` is the law at the shorter chain
    module _ (i : ℕ) (is : List ℕ)
        (ih : (b : Book) (t : Table) → Mid z hash before b t → (j : ℕ) (h : Held) (seen : List ℕ)
        → ((p q : ℕ) (g : Held) → b.slot p q ≡ some g → g.0 ≡ h.0 → ⊥) → (j ≡ h0 z hash h.0) ⊎ (j ≡ h1 z hash h.0) → Free h.0
        → memb j seen ≡ true → Chain z hash b.slot is j seen
        → (r : Book × List Step) → placed z hash blank before b j h is ≡ some r → Brought z hash blank before b t j h seen r)
        (b : Book) (t : Table) (m : Mid z hash before b t) (j : ℕ) (h : Held) (seen : List ℕ)
        (fresh : (p q : ℕ) (g : Held) → b.slot p q ≡ some g → g.0 ≡ h.0 → ⊥) (side : (j ≡ h0 z hash h.0) ⊎ (j ≡ h1 z hash h.0)) (free : Free h.0)
        (y : memb j seen ≡ true) (ch : Chain z hash b.slot (i ∷ is) j seen) where
      abbrev gap : Book
      gap = slots b (at2 b.slot j i none)

      moved_on : (g : Held) → b.slot j i ≡ some g → (moved : Book × List Step) → placed z hash blank before gap (other z hash g.0 j) g is ≡ some moved
          → (w : Book × Step) → written z hash blank before moved.0 j i h ≡ some w → Brought z hash blank before b t j h seen (w.0, moved.1 ++ (w.1 ∷ []))
      moved_on g e moved f w q =
          last_step b moved.0 t moved.1 (mid_within z hash (g.0 ∷ before) before moved.0 _ within dn.mid) j i h seen
          (dn.others j i (or_right (eqb j o) (memb j seen) y) (λ x. seen_apart z hash o j seen unseen y (sym x)) ∙ at2-same b.slot j i none)
          (m.range j i g e).1 fresh2 side free
          (λ p q u n. dn.others p q (or_right (eqb p o) (memb p seen) u) (λ x. seen_apart z hash o p seen unseen u (sym x)) ∙ at2-other b.slot j i none p q (λ x v. n x))
          up down dn.number w q
        where
          o : ℕ
          o = other z hash g.0 j

          next : (memb o seen ≡ false) × (o ≡ j → ⊥) × Chain z hash gap.slot is o (o ∷ seen)
          next = chain_next z hash b.slot i is j seen g e y ch

          unseen : memb o seen ≡ false
          unseen = next.0

          dn : Brought z hash blank before gap t o g (o ∷ seen) moved
          dn =
              ih gap t (free_keeps z hash before b t j i m) o g (o ∷ seen) (gap-fresh z hash before b t m j i g e) (other-side z hash g.0 j) (forest g.0 (m.stood j i g e))
              (or_left (eqb o o) (memb o seen) (eq-eqb o o refl))
              next.2
              moved f

          within : Within (g.0 ∷ before) before
          within x (inl v) = subst (λ (k : Part). Among k before) (sym v) (m.stood j i g e)
          within x (inr v) = v

          down : (x : Held) → Holds moved.0.slot x → Holds b.slot x
          down x u = go (dn.only x u)
            where
              go : (x ≡ g) ⊎ Holds gap.slot x → Holds b.slot x
              go (inl v) = (j, i, e ∙ ap (λ (a : Held). some a) (sym v))
              go (inr v) = (v.0, v.1, (freed b.slot j i v.0 v.1 x v.2).0)

          fresh2 : (p q : ℕ) (x : Held) → moved.0.slot p q ≡ some x → x.0 ≡ h.0 → ⊥
          fresh2 p q x u v = let a = down x (p, q, u) in fresh a.0 a.1 x a.2 v

          up : (x : Held) → Holds b.slot x → Holds moved.0.slot x
          up x u = go (at2-cases j i u.0 u.1)
            where
              go : ((u.0 ≡ j) × (u.1 ≡ i)) ⊎ (u.0 ≡ j → u.1 ≡ i → ⊥) → Holds moved.0.slot x
              go (inl c) = subst (λ (v : Held). Holds moved.0.slot v) (some_same (sym e ∙ subst (λ (p : ℕ). b.slot p i ≡ some x) c.0 (subst (λ (q : ℕ). b.slot u.0 q ≡ some x) c.1 u.2))) dn.own
              go (inr n) = dn.holds x (u.0, u.1, at2-other b.slot j i none u.0 u.1 n ∙ u.2)

      further : (r : Book × List Step) → placed z hash blank before b j h (i ∷ is) ≡ some r → Brought z hash blank before b t j h seen r
      further r e =
          let a = placed-further z hash blank before b j h i is r e in
          subst (λ (x : Book × List Step). Brought z hash blank before b t j h seen x) a.6 (moved_on a.0 a.3 a.1 a.4 a.2 a.5)

    pub brought : (is : List ℕ) (b : Book) (t : Table) → Mid z hash before b t → (j : ℕ) (h : Held) (seen : List ℕ)
        → ((p q : ℕ) (g : Held) → b.slot p q ≡ some g → g.0 ≡ h.0 → ⊥) → (j ≡ h0 z hash h.0) ⊎ (j ≡ h1 z hash h.0) → Free h.0
        → memb j seen ≡ true → Chain z hash b.slot is j seen
        → (r : Book × List Step) → placed z hash blank before b j h is ≡ some r → Brought z hash blank before b t j h seen r
    brought [] b t m j h seen fresh side free y ch r e =
        let a = placed-last z hash blank before b j h r e in
        let o = empty_at z hash b.slot j a.0 a.2 in
        subst (λ (x : Book × List Step). Brought z hash blank before b t j h seen x) a.4
        (last_step b b t [] m j a.0 h seen o.1 o.0 fresh side free (λ p q u n. refl) (λ x u. u) (λ x u. u) refl a.1 a.3)
    brought (i ∷ is) b t m j h seen fresh side free y ch r e = further i is (brought is) b t m j h seen fresh side free y ch r e
