-- A plan over the slots before the call gives what the rules' steps give.
use Rattle.std.proofs.Common.{◌≡◌, ℕ, Bool, true, false, cond, ◌&&◌, ◌||◌, eqb, ◌⊎◌, List, [], ◌∷◌, ◌++◌, map, sym, refl, ap, ◌∙◌, subst, ap₂, inl, inr}
use mathlib.Core.Path.{fun_ext}
use mathlib.Core.Option.{Option, none, some}
use Rattle.std.proofs.lemmas.Bool.{eq-eqb, or_left, or_right}
use Rattle.shared.specs.declared.sizes.Sizes.{Sizes}
use Rattle.shared.specs.Book.{Held, Slot, Book, held_in, part_of, contents, is_empty, slots, empty_slot, seed_for, other, turned, book_after, step_for, written, placed}
use Rattle.shared.specs.Graph.{flipped}
use Rattle.shared.specs.Kinds.{Hash}
use Rattle.shared.specs.Lists.{memb, first_from, at, at2, ◌then◌}
use Rattle.shared.specs.Notice.{Setting, Step}
use Rattle.shared.specs.Table.{Part, too_many, overflows}
use Rattle.chain_laws.specs.Chains.{Chain}
use Rattle.chain_laws.specs.Plans.{Placement, placement, filled, seed_at, planned, step_with, step_over, steps_over, turns, played, outcome_of, spills, PlanStands, PlanSpills, PlanPlays}
use Rattle.chain_laws.proofs.Tools.{some_same, then_some, at2-same, at2-other, at2-cases}
use Rattle.chain_laws.proofs.Chains.{not-memb, seen_apart, chain-kept}

at2-here : {A : Type 0} (f : ℕ → ℕ → A) (j i : ℕ) (x : A) (p q : ℕ) → (p ≡ j) × (q ≡ i) → at2 f j i x p q ≡ x
at2-here f j i x p q c = ap₂ (at2 f j i x) c.0 c.1 ∙ at2-same f j i x

-- another bucket's slots stay
pub at2-row : {A : Type 0} (f : ℕ → ℕ → A) (j i : ℕ) (x : A) (p : ℕ) → (p ≡ j → ⊥) → at2 f j i x p ≡ f p
at2-row f j i x p n = fun_ext (λ q. at2-other f j i x p q (λ e g. n e))

-- the later of two changes of one slot counts
at2-twice : {A : Type 0} (f : ℕ → ℕ → A) (j i : ℕ) (x y : A) → at2 (at2 f j i x) j i y ≡ at2 f j i y
at2-twice f j i x y = fun_ext (λ p. fun_ext (λ q. go p q (at2-cases j i p q)))
  where
    go : (p q : ℕ) → ((p ≡ j) × (q ≡ i)) ⊎ (p ≡ j → q ≡ i → ⊥) → at2 (at2 f j i x) j i y p q ≡ at2 f j i y p q
    go p q (inl c) = at2-here (at2 f j i x) j i y p q c ∙ sym (at2-here f j i y p q c)
    go p q (inr n) = at2-other (at2 f j i x) j i y p q n ∙ at2-other f j i x p q n ∙ sym (at2-other f j i y p q n)

-- changes in two buckets
at2-swap : {A : Type 0} (f : ℕ → ℕ → A) (c k : ℕ) (x : A) (j i : ℕ) (y : A) → (j ≡ c → ⊥) → at2 (at2 f c k x) j i y ≡ at2 (at2 f j i y) c k x
at2-swap f c k x j i y n = fun_ext (λ p. fun_ext (λ q. go p q (at2-cases j i p q) (at2-cases c k p q)))
  where
    go : (p q : ℕ) → ((p ≡ j) × (q ≡ i)) ⊎ (p ≡ j → q ≡ i → ⊥) → ((p ≡ c) × (q ≡ k)) ⊎ (p ≡ c → q ≡ k → ⊥) → at2 (at2 f c k x) j i y p q ≡ at2 (at2 f j i y) c k x p q
    go p q (inl a) (inl b) = absurd (n (sym a.0 ∙ b.0))
    go p q (inl a) (inr b) = at2-here (at2 f c k x) j i y p q a ∙ sym (at2-here f j i y p q a) ∙ sym (at2-other (at2 f j i y) c k x p q b)
    go p q (inr a) (inl b) = at2-other (at2 f c k x) j i y p q a ∙ at2-here f c k x p q b ∙ sym (at2-here (at2 f j i y) c k x p q b)
    go p q (inr a) (inr b) = at2-other (at2 f c k x) j i y p q a ∙ at2-other f c k x p q b ∙ sym (at2-other f j i y p q a) ∙ sym (at2-other (at2 f j i y) c k x p q b)

-- a bucket's contents with one slot changed come from its own slots
pub filled_row : (f g : ℕ → ℕ → Slot) (j i : ℕ) (h : Held) → f j ≡ g j → filled f j i h ≡ filled g j i h
filled_row f g j i h e =
    ap
    (λ (r : ℕ → Slot). held_in (cond (eqb j j && eqb 0 i) (some h) (r 0) ∷ cond (eqb j j && eqb 1 i) (some h) (r 1) ∷ cond (eqb j j && eqb 2 i) (some h) (r 2) ∷ cond (eqb j j && eqb 3 i) (some h) (r 3) ∷ []))
    e

-- placements outside a bucket, and placements in different buckets
abbrev pub Off : ℕ → List Placement → Type 0
Off c [] = Unit {0}
Off c (p ∷ ps) = (p.into ≡ c → ⊥) × Off c ps

abbrev pub Distinct : List Placement → Type 0
Distinct [] = Unit {0}
Distinct (p ∷ ps) = Off p.into ps × Distinct ps

off_append : (c : ℕ) (ps : List Placement) (p : Placement) → Off c ps → (p.into ≡ c → ⊥) → Off c (ps ++ (p ∷ []))
off_append c [] p o n = (n, tt)
off_append c (q ∷ ps) p o n = (o.0, off_append c ps p o.1 n)

distinct_append : (ps : List Placement) (p : Placement) → Distinct ps → Off p.into ps → Distinct (ps ++ (p ∷ []))
distinct_append [] p d o = (tt, tt)
distinct_append (q ∷ ps) p d o = (off_append q.into ps p d.0 (λ e. o.0 (sym e)), distinct_append ps p d.1 o.1)

module _ (z : Sizes) (hash : Hash) where
  seed_row : (f g : ℕ → ℕ → Slot) (j i : ℕ) (h : Held) → f j ≡ g j → seed_at z hash f j i h ≡ seed_at z hash g j i h
  seed_row f g j i h e = ap (λ (hs : List Held). seed_for hash (map part_of hs)) (filled_row f g j i h e)

  abbrev more : Option (List Placement) → Option ℕ → ℕ → ℕ → Held → Option (List Placement)
  more a b j i h = a then (λ ps. b then (λ s. some (ps ++ (placement j i h s ∷ []))))

  pub planned-more : (slot : ℕ → ℕ → Slot) (j : ℕ) (h : Held) (i : ℕ) (is : List ℕ) (g : Held) → slot j i ≡ some g
      → planned z hash slot j h (i ∷ is) ≡ more (planned z hash slot (other z hash g.0 j) g is) (seed_at z hash slot j i h) j i h
  planned-more slot j h i is g e =
      ap (λ (x : Slot). x then (λ g. planned z hash slot (other z hash g.0 j) g is then (λ ps. seed_at z hash slot j i h then (λ s. some (ps ++ (placement j i h s ∷ [])))))) e

  planned-end : (f g : ℕ → ℕ → Slot) (j : ℕ) (h : Held) → f j ≡ g j → planned z hash f j h [] ≡ planned z hash g j h []
  planned-end f g j h e =
      ap
      (λ (r : ℕ → Slot). first_from (λ i. is_empty (r i)) 0 4 then (λ i.
      seed_for hash (map part_of (held_in (cond (eqb j j && eqb 0 i) (some h) (r 0) ∷ cond (eqb j j && eqb 1 i) (some h) (r 1) ∷ cond (eqb j j && eqb 2 i) (some h) (r 2) ∷ cond (eqb j j && eqb 3 i) (some h) (r 3) ∷ [])))
      then (λ s. some (placement j i h s ∷ []))))
      e

  -- a change in a bucket behind us leaves the rest of a plan
  planned-kept : (f g : ℕ → ℕ → Slot) (c : ℕ) → ((p : ℕ) → (p ≡ c → ⊥) → f p ≡ g p) → (is : List ℕ) (j : ℕ) (h : Held) (seen : List ℕ) → memb c seen ≡ true → (j ≡ c → ⊥) → Chain z hash g is j seen
      → planned z hash f j h is ≡ planned z hash g j h is
  planned-kept f g c same [] j h seen y n ch = planned-end f g j h (same j n)
  planned-kept f g c same (i ∷ is) j h seen y n ch =
      let o = other z hash ch.0.0 j in
      planned-more f j h i is ch.0 (ap (λ (r : ℕ → Slot). r i) (same j n) ∙ ch.2)
      ∙ ap₂ (λ (a : Option (List Placement)) (b : Option ℕ). more a b j i h)
      (planned-kept f g c same is o ch.0 (o ∷ seen) (or_right (eqb c o) (memb c seen) y) (seen_apart z hash o c seen (not-memb z hash o seen ch.3) y) ch.4)
      (seed_row f g j i h (same j n))
      ∙ sym (planned-more g j h i is ch.0 ch.2)

  -- what a plan with a move, and one without, is made of
  pub planned-last : (slot : ℕ → ℕ → Slot) (j : ℕ) (h : Held) (ps : List Placement) → planned z hash slot j h [] ≡ some ps
      → (i s : ℕ) × (empty_slot slot j ≡ some i) × (seed_at z hash slot j i h ≡ some s) × (placement j i h s ∷ [] ≡ ps)
  planned-last slot j h ps e =
      let a = then_some (empty_slot slot j) (λ i. seed_at z hash slot j i h then (λ s. some (placement j i h s ∷ []))) ps e in
      let b = then_some (seed_at z hash slot j a.0 h) (λ s. some (placement j a.0 h s ∷ [])) ps a.2 in
      (a.0, b.0, a.1, b.1, some_same b.2)

  pub planned-further : (slot : ℕ → ℕ → Slot) (j : ℕ) (h : Held) (i : ℕ) (is : List ℕ) (g : Held) → slot j i ≡ some g → (ps : List Placement) → planned z hash slot j h (i ∷ is) ≡ some ps
      → (qs : List Placement) × (s : ℕ) × (planned z hash slot (other z hash g.0 j) g is ≡ some qs) × (seed_at z hash slot j i h ≡ some s) × (qs ++ (placement j i h s ∷ []) ≡ ps)
  planned-further slot j h i is g f ps e =
      let a = then_some (planned z hash slot (other z hash g.0 j) g is) (λ qs. seed_at z hash slot j i h then (λ s. some (qs ++ (placement j i h s ∷ [])))) ps (sym (planned-more slot j h i is g f) ∙ e) in
      let b = then_some (seed_at z hash slot j i h) (λ s. some (a.0 ++ (placement j i h s ∷ []))) ps a.2 in
      (a.0, b.0, a.1, b.1, some_same b.2)

  -- its placements are outside the buckets seen before, and in different buckets
  planned-off : (slot : ℕ → ℕ → Slot) (c : ℕ) (is : List ℕ) (j : ℕ) (h : Held) (seen : List ℕ) → memb c seen ≡ true → (j ≡ c → ⊥) → Chain z hash slot is j seen
      → (ps : List Placement) → planned z hash slot j h is ≡ some ps → Off c ps
  planned-off slot c [] j h seen y n ch ps e =
      let a = planned-last slot j h ps e in
      subst (λ (l : List Placement). Off c l) a.4 (n, tt)
  planned-off slot c (i ∷ is) j h seen y n ch ps e =
      let o = other z hash ch.0.0 j in
      let a = planned-further slot j h i is ch.0 ch.2 ps e in
      let deep = planned-off slot c is o ch.0 (o ∷ seen) (or_right (eqb c o) (memb c seen) y) (seen_apart z hash o c seen (not-memb z hash o seen ch.3) y) ch.4 a.0 a.2 in
      subst (λ (l : List Placement). Off c l) a.4 (off_append c a.0 (placement j i h a.1) deep n)

  pub planned-distinct : (slot : ℕ → ℕ → Slot) (is : List ℕ) (j : ℕ) (h : Held) (seen : List ℕ) → memb j seen ≡ true → Chain z hash slot is j seen → (ps : List Placement) → planned z hash slot j h is ≡ some ps → Distinct ps
  planned-distinct slot [] j h seen y ch ps e = subst Distinct (planned-last slot j h ps e).4 (tt, tt)
  planned-distinct slot (i ∷ is) j h seen y ch ps e =
      let o = other z hash ch.0.0 j in
      let a = planned-further slot j h i is ch.0 ch.2 ps e in
      let away : (o ≡ j → ⊥) = seen_apart z hash o j seen (not-memb z hash o seen ch.3) y in
      let deep = planned-distinct slot is o ch.0 (o ∷ seen) (or_left (eqb o o) (memb o seen) (eq-eqb o o refl)) ch.4 a.0 a.2 in
      let off = planned-off slot j is o ch.0 (o ∷ seen) (or_right (eqb j o) (memb j seen) y) away ch.4 a.0 a.2 in
      subst Distinct a.4 (distinct_append a.0 (placement j i h a.1) deep off)

module _ (z : Sizes) (hash : Hash) (blank : Setting) (before : List Part) where
  -- the placements one after the other, each over the book that the one before left
  abbrev after : Book → Placement → Book
  after b p = book_after z hash blank before b p.into p.spot p.held p.seed

  abbrev performed : Book → List Placement → Book × List Step
  performed b [] = (b, [])
  performed b (p ∷ ps) =
      let r = performed (after b p) ps in
      (r.0, step_for z hash blank before b p.into p.spot p.held p.seed ∷ r.1)

  abbrev gap : ℕ → ℕ → Book → Book
  gap c k b = slots b (at2 b.slot c k none)

  after-gap : (c k : ℕ) (b : Book) (p : Placement) → (p.into ≡ c → ⊥) → after (gap c k b) p ≡ gap c k (after b p)
  after-gap c k b p n =
      ap
      (λ (f : ℕ → ℕ → Slot). record { slot = f; row = flipped (λ q. memb q (turned z hash blank before b.row p.into p.held.0)) b.row; seed = at b.seed p.into p.seed; number = b.number })
      (at2-swap b.slot c k none p.into p.spot (some p.held) n)

  -- steps come from their buckets' own slots
  step_row : (f g : ℕ → ℕ → Slot) (p : Placement) (ts : List ℕ) → f p.into ≡ g p.into → step_over z hash blank f p ts ≡ step_over z hash blank g p ts
  step_row f g p ts e = ap (λ (hs : List Held). step_with z hash blank p hs ts) (filled_row f g p.into p.spot p.held e)

  steps-row : (c : ℕ) (f g : ℕ → ℕ → Slot) → ((p : ℕ) → (p ≡ c → ⊥) → f p ≡ g p) → (ps : List Placement) (tss : List (List ℕ)) → Off c ps → steps_over z hash blank f ps tss ≡ steps_over z hash blank g ps tss
  steps-row c f g same [] tss o = refl
  steps-row c f g same (p ∷ ps) [] o = refl
  steps-row c f g same (p ∷ ps) (ts ∷ tss) o = ap₂ (λ (s : Step) (ss : List Step). s ∷ ss) (step_row f g p ts (same p.into o.0)) (steps-row c f g same ps tss o.1)

  -- placements in different buckets, one after the other, give the outcome over the slots as they were
  performed-played : (ps : List Placement) (b : Book) → (performed b ps).0 ≡ played z hash blank before b ps
  performed-played [] b = refl
  performed-played (p ∷ ps) b = performed-played ps (after b p)

  performed-steps : (ps : List Placement) (b : Book) → Distinct ps → (performed b ps).1 ≡ steps_over z hash blank b.slot ps (turns z hash blank before b.row ps)
  performed-steps [] b d = refl
  performed-steps (p ∷ ps) b d =
      ap (λ (ss : List Step). step_for z hash blank before b p.into p.spot p.held p.seed ∷ ss)
      (performed-steps ps (after b p) d.1
      ∙ steps-row p.into (at2 b.slot p.into p.spot (some p.held)) b.slot (λ q n. at2-row b.slot p.into p.spot (some p.held) q n) ps (turns z hash blank before (after b p).row ps) d.0)

  performed-outcome : (ps : List Placement) (b : Book) → Distinct ps → performed b ps ≡ outcome_of z hash blank before b ps
  performed-outcome ps b d = ap₂ (λ (x : Book) (y : List Step). (x, y)) (performed-played ps b) (performed-steps ps b d)

  performed-gap : (c k : ℕ) (ps : List Placement) (b : Book) → Off c ps → performed (gap c k b) ps ≡ (gap c k (performed b ps).0, (performed b ps).1)
  performed-gap c k [] b o = refl
  performed-gap c k (p ∷ ps) b o =
      ap₂ (λ (x : Book) (s : Step). let r = performed x ps in (r.0, s ∷ r.1)) (after-gap c k b p o.0)
      (step_row (at2 b.slot c k none) b.slot p (turned z hash blank before b.row p.into p.held.0) (at2-row b.slot c k none p.into o.0))
      ∙ ap (λ (r : Book × List Step). (r.0, step_for z hash blank before b p.into p.spot p.held p.seed ∷ r.1)) (performed-gap c k ps (after b p) o.1)

  performed-row : (c : ℕ) (ps : List Placement) (b : Book) → Off c ps → (performed b ps).0.slot c ≡ b.slot c
  performed-row c [] b o = refl
  performed-row c (p ∷ ps) b o = performed-row c ps (after b p) o.1 ∙ at2-row b.slot p.into p.spot (some p.held) c (λ e. o.0 (sym e))

  performed-append : (ps : List Placement) (b : Book) (p : Placement)
      → performed b (ps ++ (p ∷ [])) ≡ (after (performed b ps).0 p, (performed b ps).1 ++ (step_for z hash blank before (performed b ps).0 p.into p.spot p.held p.seed ∷ []))
  performed-append [] b p = refl
  performed-append (q ∷ ps) b p = ap (λ (r : Book × List Step). (r.0, step_for z hash blank before b q.into q.spot q.held q.seed ∷ r.1)) (performed-append ps (after b q) p)

  -- what is written with a seed, if there is one
  abbrev wrote : Book → ℕ → ℕ → Held → Option ℕ → Option (Book × Step)
  wrote b j i h x = x then (λ s. some (book_after z hash blank before b j i h s, step_for z hash blank before b j i h s))

  written-gap : (b : Book) (j i : ℕ) (h : Held) → written z hash blank before (gap j i b) j i h ≡ written z hash blank before b j i h
  written-gap b j i h =
      ap
      (λ (f : ℕ → ℕ → Slot). seed_for hash (map part_of (contents f j)) then (λ s.
      some (
        record { slot = f; row = flipped (λ p. memb p (turned z hash blank before b.row j h.0)) b.row; seed = at b.seed j s; number = b.number },
        step_with z hash blank (placement j i h s) (contents f j) (turned z hash blank before b.row j h.0),
      )))
      (at2-twice b.slot j i none (some h))

  -- the last placement of a plan, after the others
  last : (b : Book) (j i : ℕ) (h : Held) (ps : List Placement) → Off j ps
      → (written z hash blank before (performed (gap j i b) ps).0 j i h then (λ w. some (w.0, (performed (gap j i b) ps).1 ++ (w.1 ∷ []))))
      ≡ ((seed_at z hash b.slot j i h then (λ s. some (ps ++ (placement j i h s ∷ [])))) then (λ qs. some (performed b qs)))
  last b j i h ps o =
      ap (λ (r : Book × List Step). written z hash blank before r.0 j i h then (λ w. some (w.0, r.1 ++ (w.1 ∷ [])))) (performed-gap j i ps b o)
      ∙ ap (λ (x : Option (Book × Step)). x then (λ w. some (w.0, B.1 ++ (w.1 ∷ [])))) (written-gap B.0 j i h)
      ∙ ap (λ (x : Option ℕ). wrote B.0 j i h x then (λ w. some (w.0, B.1 ++ (w.1 ∷ [])))) (seed_row z hash B.0.slot b.slot j i h (performed-row j ps b o))
      ∙ go (seed_at z hash b.slot j i h)
    where
      B : Book × List Step
      B = performed b ps

      go : (x : Option ℕ) → (wrote B.0 j i h x then (λ w. some (w.0, B.1 ++ (w.1 ∷ [])))) ≡ ((x then (λ s. some (ps ++ (placement j i h s ∷ [])))) then (λ qs. some (performed b qs)))
      go none = refl
      go (some s) = ap some (sym (performed-append ps b (placement j i h s)))

  -- the rules' steps are the plan performed
  placed-performed : (is : List ℕ) (b : Book) (j : ℕ) (h : Held) (seen : List ℕ) → memb j seen ≡ true → Chain z hash b.slot is j seen
      → placed z hash blank before b j h is ≡ (planned z hash b.slot j h is then (λ ps. some (performed b ps)))
  placed-performed [] b j h seen y ch = go (empty_slot b.slot j)
    where
      inner : (i : ℕ) (x : Option ℕ) → (wrote b j i h x then (λ w. some (w.0, w.1 ∷ []))) ≡ ((x then (λ s. some (placement j i h s ∷ []))) then (λ ps. some (performed b ps)))
      inner i none = refl
      inner i (some s) = refl

      go : (x : Option ℕ) → (x then (λ i. written z hash blank before b j i h then (λ w. some (w.0, w.1 ∷ []))))
          ≡ ((x then (λ i. seed_at z hash b.slot j i h then (λ s. some (placement j i h s ∷ [])))) then (λ ps. some (performed b ps)))
      go none = refl
      go (some i) = inner i (seed_at z hash b.slot j i h)
  placed-performed (i ∷ is) b j h seen y ch =
      ap (λ (x : Slot). x then (λ g. placed z hash blank before (gap j i b) (other z hash g.0 j) g is then finish)) ch.2
      ∙ ap (λ (x : Option (Book × List Step)). x then finish)
      (placed-performed is (gap j i b) o g (o ∷ seen) (or_left (eqb o o) (memb o seen) (eq-eqb o o refl))
      (chain-kept z hash b.slot (at2 b.slot j i none) j (λ p q m. ap (λ (r : ℕ → Slot). r q) (keeps p m)) is o (o ∷ seen) inside away ch.4))
      ∙ ap (λ (x : Option (List Placement)). (x then (λ ps. some (performed (gap j i b) ps))) then finish) (planned-kept z hash (at2 b.slot j i none) b.slot j keeps is o g (o ∷ seen) inside away ch.4)
      ∙ go (planned z hash b.slot o g is) (λ ps e. planned-off z hash b.slot j is o g (o ∷ seen) inside away ch.4 ps e)
      ∙ sym (ap (λ (x : Option (List Placement)). x then (λ ps. some (performed b ps))) (planned-more z hash b.slot j h i is g ch.2))
    where
      g : Held
      g = ch.0

      o : ℕ
      o = other z hash g.0 j

      away : o ≡ j → ⊥
      away = seen_apart z hash o j seen (not-memb z hash o seen ch.3) y

      keeps : (p : ℕ) → (p ≡ j → ⊥) → at2 b.slot j i none p ≡ b.slot p
      keeps p m = at2-row b.slot j i none p m

      inside : memb j (o ∷ seen) ≡ true
      inside = or_right (eqb j o) (memb j seen) y

      finish : Book × List Step → Option (Book × List Step)
      finish moved = written z hash blank before moved.0 j i h then (λ w. some (w.0, moved.1 ++ (w.1 ∷ [])))

      go : (a : Option (List Placement)) → ((ps : List Placement) → a ≡ some ps → Off j ps) → ((a then (λ ps. some (performed (gap j i b) ps))) then finish)
          ≡ ((a then (λ ps. seed_at z hash b.slot j i h then (λ s. some (ps ++ (placement j i h s ∷ []))))) then (λ ps. some (performed b ps)))
      go none off = refl
      go (some ps) off = last b j i h ps (off ps refl)

pub stands : PlanStands
stands z hash blank before b j h is ch =
    placed-performed z hash blank before is b j h (j ∷ []) own ch ∙ go (planned z hash b.slot j h is) (λ ps e. planned-distinct z hash b.slot is j h (j ∷ []) own ch ps e)
  where
    own : memb j (j ∷ []) ≡ true
    own = or_left (eqb j j) false (eq-eqb j j refl)

    go : (a : Option (List Placement)) → ((ps : List Placement) → a ≡ some ps → Distinct ps) → (a then (λ ps. some (performed z hash blank before b ps))) ≡ (a then (λ ps. some (outcome_of z hash blank before b ps)))
    go none d = refl
    go (some ps) d = ap some (performed-outcome z hash blank before ps b (d ps refl))

pub spilled : PlanSpills
spilled z hash blank before b ps = go ps b.row b.seed
  where
    go : (ps : List Placement) (row : ℕ → Bool) (seed : ℕ → ℕ) → overflows z seed (steps_over z hash blank b.slot ps (turns z hash blank before row ps)) ≡ spills z seed ps
    go [] row seed = refl
    go (p ∷ ps) row seed =
        let ts = turned z hash blank before row p.into p.held.0 in
        ap (λ (x : Bool). too_many z (at seed p.into p.seed) || x) (go ps (flipped (λ q. memb q ts) row) (at seed p.into p.seed))

pub plays : PlanPlays
plays z hash blank before b [] = refl
plays z hash blank before b (p ∷ ps) = plays z hash blank before (book_after z hash blank before b p.into p.spot p.held p.seed) ps
