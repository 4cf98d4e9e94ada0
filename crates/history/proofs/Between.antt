-- Between the steps of a notice every part that stood before is found.
use Rattle.std.proofs.Common.{◌≡◌, ℕ, Bool, true, false, cond, eqb, ◌⊎◌, List, [], ◌∷◌, ◌++◌, sym, refl, ap, ◌∙◌, subst, ap₂, inl, inr, append-nil}
use mathlib.Core.Path.{fun_ext}
use mathlib.Core.Option.{none, some}
use Rattle.std.proofs.lemmas.Bool.{cond-false, eq-eqb, ne_eqb, or_left, or_right}
use Rattle.shared.specs.declared.sizes.Sizes.{Sizes}
use Rattle.shared.specs.Book.{Held, Book, slots, other, turned, step_for, written, placed}
use Rattle.shared.specs.Graph.{Forest, ◌⊕◌, bit_of, flipped, without}
use Rattle.shared.specs.Kinds.{Hash}
use Rattle.shared.specs.Lists.{Among, same_list, memb, at2}
use Rattle.shared.specs.Notice.{Setting, Step}
use Rattle.shared.specs.Table.{Part, Table, slot_of, h0, h1, edge, choose, find, applied, applied_all}
use Rattle.graph_laws.proofs.Same.{same_sound, same_own}
use Rattle.graph_laws.proofs.Forest.{among_map, in_without}
use Rattle.chain_laws.specs.Chains.{Chain}
use Rattle.history.specs.Premises.{Family}
use Rattle.history.specs.Sound.{Mid}
use Rattle.chain_laws.proofs.Tools.{some_same, same_head, same_tail, no_cons, at_other, at2-other, at2-cases, two_rows}
use Rattle.history.proofs.Writes.{turn_other}
use Rattle.chain_laws.proofs.Chains.{written_as, placed-last, placed-further, chain_next, seen_apart, other-side}
use Rattle.history.proofs.Chains.{Holds, Brought, freed, free_keeps, gap-fresh, all_append, Free, brought}

-- find answers what the book holds
pub find-held : (z : Sizes) (hash : Hash) (xs : List Part) (b : Book) (t : Table) → Mid z hash xs b t → (g : Held) → Holds b.slot g → find z hash t g.0 ≡ g.1
find-held z hash xs b t m g o =
    ap (λ (r : ℕ → Bool). let j = choose z hash r g.0 in t.setting j (slot_of hash (t.seed j) g.0)) m.row
    ∙ ap (λ (s : ℕ → ℕ). let j = choose z hash b.row g.0 in t.setting j (slot_of hash (s j) g.0)) m.seed
    ∙ ap (λ (j : ℕ). t.setting j (slot_of hash (b.seed j) g.0)) (m.chosen o.0 o.1 g o.2)
    ∙ m.value o.0 o.1 g o.2

-- a front of a list that has one more at its end: a front of what is before, or the whole
pub nil_front : {A : Type 0} (xs ys : List A) → xs ++ ys ≡ [] → xs ≡ []
nil_front [] ys e = refl
nil_front (x ∷ xs) ys e = absurd (no_cons e)

pub fronts : {A : Type 0} (xs ys ss : List A) (s : A) → xs ++ ys ≡ ss ++ (s ∷ []) → ((zs : List A) × (xs ++ zs ≡ ss)) ⊎ (xs ≡ ss ++ (s ∷ []))
fronts [] ys ss s e = inl (ss, refl)
fronts (x ∷ xs) ys [] s e = inr (ap₂ (λ (a : _) (l : List _). a ∷ l) (same_head e) (nil_front xs ys (same_tail e)))
fronts {A} (x ∷ xs) ys (t ∷ ss) s e = go (fronts xs ys ss s (same_tail e))
  where
    go : ((zs : List A) × (xs ++ zs ≡ ss)) ⊎ (xs ≡ ss ++ (s ∷ [])) → ((zs : List A) × ((x ∷ xs) ++ zs ≡ t ∷ ss)) ⊎ (x ∷ xs ≡ (t ∷ ss) ++ (s ∷ []))
    go (inl r) = inl (r.0, ap₂ (λ (a : A) (l : List A). a ∷ l) (same_head e) r.1)
    go (inr r) = inr (ap₂ (λ (a : A) (l : List A). a ∷ l) (same_head e) r)

proper_front : {A : Type 0} (xs : List A) (y : A) (ys ss : List A) (s : A) → xs ++ (y ∷ ys) ≡ ss ++ (s ∷ []) → (zs : List A) × (xs ++ zs ≡ ss)
proper_front [] y ys ss s e = (ss, refl)
proper_front (x ∷ []) y ys [] s e = absurd (no_cons (same_tail e))
proper_front (x ∷ (w ∷ xs)) y ys [] s e = absurd (no_cons (same_tail e))
proper_front (x ∷ xs) y ys (t ∷ ss) s e = let r = proper_front xs y ys ss s (same_tail e) in (r.0, ap₂ (λ (a : _) (l : List _). a ∷ l) (same_head e) r.1)

-- a part's bucket and setting are those that they were
abbrev Stays : Sizes → Hash → Table → Table → Part → Type 0
Stays z hash t u q = (choose z hash u.row q ≡ choose z hash t.row q) × (find z hash u q ≡ find z hash t q)

stays_on : (z : Sizes) (hash : Hash) (t u v : Table) (q : Part) → Stays z hash t u q → Stays z hash u v q → Stays z hash t v q
stays_on z hash t u v q a b = (b.0 ∙ a.0, b.1 ∙ a.1)

-- one step, seen from a part that it does not bring and whose bucket it does not write
module _ (z : Sizes) (hash : Hash) (blank : Setting) (before : List Part) (c : Book) (u : Table) (same_row : u.row ≡ c.row) (j i : ℕ) (h : Held) (s : ℕ)
    (q : Part) (stood : Among q before) (not_own : q ≡ h.0 → ⊥) (away : choose z hash u.row q ≡ j → ⊥) where
  abbrev next : Table
  next = applied z blank u (step_for z hash blank before c j i h s)

  same_bit : bit_of next.row (edge z hash q) ≡ bit_of u.row (edge z hash q)
  same_bit =
      ap (λ (r : ℕ → Bool). bit_of r (edge z hash q)) rows
      ∙ turn_other z hash before c.row j h.0 q (among_map (edge z hash) (without same_list h.0 before) q (in_without same_list same_sound same_own h.0 before q stood not_own))
      ∙ ap (λ (r : ℕ → Bool). bit_of r (edge z hash q)) (sym same_row)
    where
      ps : List ℕ
      ps = turned z hash blank before c.row j h.0

      rows : next.row ≡ flipped (λ p. memb p ps) c.row
      rows = fun_ext (λ p. ap₂ (λ (x w : Bool). x ⊕ w) (two_rows z.a p ps) (ap (λ (r : ℕ → Bool). r p) same_row))

  step-aside : Stays z hash u next q
  step-aside = (same-bucket, ap (λ (p : ℕ). next.setting p (slot_of hash (next.seed p) q)) same-bucket ∙ rest)
    where
      b : ℕ
      b = choose z hash u.row q

      same-bucket : choose z hash next.row q ≡ b
      same-bucket = ap (λ (d : Bool). cond d (h1 z hash q) (h0 z hash q)) same_bit

      rest : next.setting b (slot_of hash (next.seed b) q) ≡ u.setting b (slot_of hash (u.seed b) q)
      rest = cond-false (eqb b j) _ _ (ne_eqb b j away) ∙ ap (λ (x : ℕ). u.setting b (slot_of hash x q)) (at_other u.seed j s b away)

module _ (z : Sizes) (hash : Hash) (blank : Setting) (low : Family hash) (before : List Part) (forest : Forest same_list (edge z hash) before) where
  abbrev after : Table → List Step → Table
  after t xs = applied_all z blank t xs

  -- After any first steps xs: each part that the book held is found, a part that is on its way elsewhere stays where it was,
  -- and so does h until the last step, which brings it.
  pub record Between (b : Book) (t : Table) (j : ℕ) (h : Held) (seen : List ℕ) (ss : List Step) : Type 0 where
    pub held : (xs ys : List Step) → xs ++ ys ≡ ss → (g : Held) → Holds b.slot g → find z hash (after t xs) g.0 ≡ g.1
    pub aside : (q : Part) → Among q before → (q ≡ h.0 → ⊥) → ((g : Held) → Holds b.slot g → g.0 ≡ q → ⊥) → memb (choose z hash t.row q) seen ≡ true → (choose z hash t.row q ≡ j → ⊥)
        → (xs ys : List Step) → xs ++ ys ≡ ss → Stays z hash t (after t xs) q
    pub waits : Among h.0 before → memb (choose z hash t.row h.0) seen ≡ true → (choose z hash t.row h.0 ≡ j → ⊥)
        → (xs : List Step) (y : Step) (ys : List Step) → xs ++ (y ∷ ys) ≡ ss → find z hash (after t xs) h.0 ≡ find z hash t h.0

  -- one more step at the end, from (c, after t ss), which brings h to bucket j
  last_between : (b c : Book) (t : Table) (ss : List Step) (j i : ℕ) (h : Held) (seen : List ℕ) (w : Book × Step) → (after t ss).row ≡ c.row → written z hash blank before c j i h ≡ some w
      → Mid z hash (h.0 ∷ before) w.0 (after t (ss ++ (w.1 ∷ []))) → ((g : Held) → Holds b.slot g → Holds w.0.slot g)
      → ((xs ys : List Step) → xs ++ ys ≡ ss → (g : Held) → Holds b.slot g → find z hash (after t xs) g.0 ≡ g.1)
      → ((q : Part) → Among q before → ((g : Held) → Holds b.slot g → g.0 ≡ q → ⊥) → memb (choose z hash t.row q) seen ≡ true → (xs ys : List Step) → xs ++ ys ≡ ss → Stays z hash t (after t xs) q)
      → ((g : Held) → Holds b.slot g → g.0 ≡ h.0 → ⊥)
      → Between b t j h seen (ss ++ (w.1 ∷ []))
  last_between b c t ss j i h seen w same_row e mid up held aside fresh = record {
    held = λ xs ys q g o. at_held xs g o (fronts xs ys ss w.1 q);
    aside = λ p stood other-part out inside away xs ys q. at-aside p stood other-part out inside away xs (fronts xs ys ss w.1 q);
    waits = λ stood inside away xs y ys q. let r = proper_front xs y ys ss w.1 q in (aside h.0 stood fresh inside xs r.0 r.1).1;
  }
    where
      at_held : (xs : List Step) (g : Held) → Holds b.slot g → ((zs : List Step) × (xs ++ zs ≡ ss)) ⊎ (xs ≡ ss ++ (w.1 ∷ [])) → find z hash (after t xs) g.0 ≡ g.1
      at_held xs g o (inl r) = held xs r.0 r.1 g o
      at_held xs g o (inr r) = ap (λ (l : List Step). find z hash (after t l) g.0) r ∙ find-held z hash (h.0 ∷ before) w.0 (after t (ss ++ (w.1 ∷ []))) mid g (up g o)

      at-aside : (q : Part) → Among q before → (q ≡ h.0 → ⊥) → ((g : Held) → Holds b.slot g → g.0 ≡ q → ⊥) → memb (choose z hash t.row q) seen ≡ true → (choose z hash t.row q ≡ j → ⊥)
          → (xs : List Step) → ((zs : List Step) × (xs ++ zs ≡ ss)) ⊎ (xs ≡ ss ++ (w.1 ∷ [])) → Stays z hash t (after t xs) q
      at-aside q stood other-part out inside away xs (inl r) = aside q stood out inside xs r.0 r.1
      at-aside q stood other-part out inside away xs (inr r) =
          let first = aside q stood out inside ss [] (append-nil ss) in
          let v = written_as z hash blank before c j h i w e in
          let one = step-aside z hash blank before c (after t ss) same_row j i h v.0 q stood other-part (λ x. away (sym first.0 ∙ x)) in
          let step : step_for z hash blank before c j i h v.0 ≡ w.1 = ap (λ (y : Book × Step). y.1) v.2 in
          subst (λ (l : List Step). Stays z hash t (after t l) q) (sym r)
          (subst (λ (u : Table). Stays z hash t u q) (sym (all_append z hash blank low t ss (w.1 ∷ [])))
          (stays_on z hash t (after t ss) (applied z blank (after t ss) w.1) q first (subst (λ (y : Step). Stays z hash (after t ss) (applied z blank (after t ss) y) q) step one)))

  -- the part in slot i moves on first: `ih` is the law at the shorter chain
  module _ (i : ℕ) (is : List ℕ)
      (ih : (b : Book) (t : Table) → Mid z hash before b t → (j : ℕ) (h : Held) (seen : List ℕ)
      → ((p q : ℕ) (g : Held) → b.slot p q ≡ some g → g.0 ≡ h.0 → ⊥) → (j ≡ h0 z hash h.0) ⊎ (j ≡ h1 z hash h.0) → Free z hash blank low before forest h.0
      → memb j seen ≡ true → Chain z hash b.slot is j seen
      → (r : Book × List Step) → placed z hash blank before b j h is ≡ some r → Between b t j h seen r.1)
      (b : Book) (t : Table) (m : Mid z hash before b t) (j : ℕ) (h : Held) (seen : List ℕ)
      (fresh : (p q : ℕ) (g : Held) → b.slot p q ≡ some g → g.0 ≡ h.0 → ⊥) (side : (j ≡ h0 z hash h.0) ⊎ (j ≡ h1 z hash h.0)) (free : Free z hash blank low before forest h.0)
      (y : memb j seen ≡ true) (ch : Chain z hash b.slot (i ∷ is) j seen) where
    abbrev gap : Book
    gap = slots b (at2 b.slot j i none)

    moved-between : (g : Held) → b.slot j i ≡ some g → (moved : Book × List Step) → placed z hash blank before gap (other z hash g.0 j) g is ≡ some moved
        → (w : Book × Step) → written z hash blank before moved.0 j i h ≡ some w → Brought z hash blank before b t j h seen (w.0, moved.1 ++ (w.1 ∷ []))
        → Between b t j h seen (moved.1 ++ (w.1 ∷ []))
    moved-between g e moved f w q br =
        last_between b moved.0 t moved.1 j i h seen w dn.mid.row q br.mid br.holds at_held at-aside (λ x u. fresh u.0 u.1 x u.2)
      where
        o : ℕ
        o = other z hash g.0 j

        next : (memb o seen ≡ false) × (o ≡ j → ⊥) × Chain z hash gap.slot is o (o ∷ seen)
        next = chain_next z hash b.slot i is j seen g e y ch

        own : memb o (o ∷ seen) ≡ true
        own = or_left (eqb o o) (memb o seen) (eq-eqb o o refl)

        dn : Brought z hash blank before gap t o g (o ∷ seen) moved
        dn =
            brought z hash blank low before forest is gap t (free_keeps z hash before b t j i m) o g (o ∷ seen) (gap-fresh z hash before b t m j i g e) (other-side z hash g.0 j)
            (forest g.0 (m.stood j i g e)) own next.2 moved f

        deep : Between gap t o g (o ∷ seen) moved.1
        deep =
            ih gap t (free_keeps z hash before b t j i m) o g (o ∷ seen) (gap-fresh z hash before b t m j i g e) (other-side z hash g.0 j)
            (forest g.0 (m.stood j i g e)) own next.2 moved f

        -- g is in bucket j until its own step
        here : choose z hash t.row g.0 ≡ j
        here = ap (λ (r : ℕ → Bool). choose z hash r g.0) m.row ∙ m.chosen j i g e

        at_g : (xs zs : List Step) → xs ++ zs ≡ moved.1 → find z hash (after t xs) g.0 ≡ g.1
        at_g xs [] r =
            ap (λ (l : List Step). find z hash (after t l) g.0) (sym (append-nil xs) ∙ r)
            ∙ find-held z hash (g.0 ∷ before) moved.0 (after t moved.1) dn.mid g dn.own
        at_g xs (s ∷ zs) r =
            deep.waits (m.stood j i g e) (subst (λ (p : ℕ). memb p (o ∷ seen) ≡ true) (sym here) (or_right (eqb j o) (memb j seen) y)) (λ x. next.1 (sym (sym here ∙ x))) xs s zs r
            ∙ find-held z hash before b t m g (j, i, e)

        at_held : (xs zs : List Step) → xs ++ zs ≡ moved.1 → (x : Held) → Holds b.slot x → find z hash (after t xs) x.0 ≡ x.1
        at_held xs zs r x u = go (at2-cases j i u.0 u.1)
          where
            go : ((u.0 ≡ j) × (u.1 ≡ i)) ⊎ (u.0 ≡ j → u.1 ≡ i → ⊥) → find z hash (after t xs) x.0 ≡ x.1
            go (inl c) =
                subst (λ (v : Held). find z hash (after t xs) v.0 ≡ v.1)
                (some_same (sym e ∙ subst (λ (p : ℕ). b.slot p i ≡ some x) c.0 (subst (λ (k : ℕ). b.slot u.0 k ≡ some x) c.1 u.2))) (at_g xs zs r)
            go (inr n) = deep.held xs zs r x (u.0, u.1, at2-other b.slot j i none u.0 u.1 n ∙ u.2)

        at-aside : (p : Part) → Among p before → ((x : Held) → Holds b.slot x → x.0 ≡ p → ⊥) → memb (choose z hash t.row p) seen ≡ true → (xs zs : List Step) → xs ++ zs ≡ moved.1 → Stays z hash t (after t xs) p
        at-aside p stood out inside =
            let k = choose z hash t.row p in
            deep.aside p stood (λ x. out g (j, i, e) (sym x)) (λ x u. out x (u.0, u.1, (freed b.slot j i u.0 u.1 x u.2).0))
            (or_right (eqb k o) (memb k seen) inside) (λ x. seen_apart z hash o k seen next.0 inside (sym x))

  pub between : (is : List ℕ) (b : Book) (t : Table) → Mid z hash before b t → (j : ℕ) (h : Held) (seen : List ℕ)
      → ((p q : ℕ) (g : Held) → b.slot p q ≡ some g → g.0 ≡ h.0 → ⊥) → (j ≡ h0 z hash h.0) ⊎ (j ≡ h1 z hash h.0) → Free z hash blank low before forest h.0
      → memb j seen ≡ true → Chain z hash b.slot is j seen
      → (r : Book × List Step) → placed z hash blank before b j h is ≡ some r → Between b t j h seen r.1
  between [] b t m j h seen fresh side free y ch r e =
      let a = placed-last z hash blank before b j h r e in
      let br = subst (λ (x : Book × List Step). Brought z hash blank before b t j h seen x) (sym a.4) (brought z hash blank low before forest [] b t m j h seen fresh side free y ch r e) in
      subst (λ (x : Book × List Step). Between b t j h seen x.1) a.4
      (last_between b b t [] j a.0 h seen a.1 m.row a.3 br.mid br.holds
      (λ xs ys q g o. ap (λ (l : List Step). find z hash (after t l) g.0) (nil_front xs ys q) ∙ find-held z hash before b t m g o)
      (λ p stood out inside xs ys q. subst (λ (l : List Step). Stays z hash t (after t l) p) (sym (nil_front xs ys q)) (refl, refl))
      (λ g u. fresh u.0 u.1 g u.2))
  between (i ∷ is) b t m j h seen fresh side free y ch r e =
      let a = placed-further z hash blank before b j h i is r e in
      let br = subst (λ (x : Book × List Step). Brought z hash blank before b t j h seen x) (sym a.6) (brought z hash blank low before forest (i ∷ is) b t m j h seen fresh side free y ch r e) in
      subst (λ (x : Book × List Step). Between b t j h seen x.1) a.6
      (moved-between i is (between is) b t m j h seen fresh side free y ch a.0 a.3 a.1 a.4 a.2 a.5 br)
