-- Marks that spread along edges: what a round keeps, and what holds once a round marks nothing.
use Rattle.std.proofs.Common.{◌≡◌, ℕ, zero, suc, ◌+◌, ◌<◌, ◌≤◌, Bool, true, false, cond, ◌≢◌, ◌⊎◌, List, [], ◌∷◌, length, get_or, set, sym, refl, ap, ◌∙◌, subst, inl, inr, le_of_suc-le-suc, not-suc-le-zero, arith, length-set, get_or-set_other, get_or-set_same, below_more}
use Rattle.std.proofs.lemmas.Bool.{cases_eq, eq-eqb, eqb-true}
use Rattle.shared.specs.Graph.{Edge, Joined, joins}
use Rattle.shared.specs.Lists.{Among}
use Rattle.shared.specs.Graph.Joined.{same, along, back}
use Rattle.graph_laws.proofs.Walks.{follow, joined_label, label-joined}
use Rattle.book_joined.specs.Marks.{edges_of, first_end, second_end, total, Good, Binary, Even, Ready}

-- an edge between the ends, by its index
among_at : (es : List (List ℕ)) (k : ℕ) → k < length es → Among (first_end es k, second_end es k) (edges_of es)
among_at [] k h = absurd (not-suc-le-zero h)
among_at (e ∷ es) zero h = inl refl
among_at (e ∷ es) (suc k) h = inr (among_at es k (le_of_suc-le-suc h))

at-among : (es : List (List ℕ)) (x y : ℕ) → Among (x, y) (edges_of es) → (k : ℕ) × (k < length es) × (x ≡ first_end es k) × (y ≡ second_end es k)
at-among [] x y m = absurd m
at-among (e ∷ es) x y (inl q) = (0, omega arith, ap (λ (d : Edge). d.0) q, ap (λ (d : Edge). d.1) q)
at-among (e ∷ es) x y (inr m) = let r = at-among es x y m in (suc r.0, omega (arith, r.1), r.2, r.3)

-- where no edge has one end marked, what is joined to a marked place is marked
closed : (es : List (List ℕ)) (m : List ℕ) → Even es (length es) m → {x y : ℕ} → Joined (edges_of es) x y → get_or m x 0 ≡ 1 → get_or m y 0 ≡ 1
closed es m ev same h = h
closed es m ev {x} {y} (along {y = z} a p) h =
    let r = at-among es x z a in
    closed es m ev p (ap (λ (q : ℕ). get_or m q 0) r.3 ∙ sym (ev r.0 r.1) ∙ ap (λ (q : ℕ). get_or m q 0) (sym r.2) ∙ h)
closed es m ev {x} {y} (back {y = z} a p) h =
    let r = at-among es z x a in
    closed es m ev p (ap (λ (q : ℕ). get_or m q 0) r.2 ∙ ev r.0 r.1 ∙ ap (λ (q : ℕ). get_or m q 0) (sym r.3) ∙ h)

-- the number of marks
total-set : (m : List ℕ) (i : ℕ) → i < length m → total (set m i 1) + get_or m i 0 ≡ total m + 1
unfolding total
total-set [] i h = absurd (not-suc-le-zero h)
total-set (x ∷ xs) zero h = omega arith
total-set (x ∷ xs) (suc i) h = let e = total-set xs i (le_of_suc-le-suc h) in omega arith

pub total-most : (m : List ℕ) → Binary m → total m ≤ length m
unfolding total
total-most [] b = omega arith
total-most (x ∷ xs) b = let e = total-most xs (λ p. b (suc p)) in omega (arith, b 0)

-- what stands at p after a mark
after : (m : List ℕ) (i p : ℕ) → i < length m → ((get_or (set m i 1) p 0 ≡ 1) × (p ≡ i)) ⊎ (get_or (set m i 1) p 0 ≡ get_or m p 0)
after m i p h = elim (cases_eq p i) [ inl e ↦ inl (ap (λ (q : ℕ). get_or (set m i 1) q 0) e ∙ get_or-set_same m i 1 0 h, e) | inr n ↦ inr (get_or-set_other m i p 1 0 n) ]

-- the list with both ends of an edge marked
abbrev both : List ℕ → ℕ → ℕ → List ℕ
both m x y = set (set m x 1) y 1

module _ (m : List ℕ) (x y : ℕ) (bin : Binary m) (lx : x < length m) (ly : y < length m) (ne : get_or m x 0 ≢ get_or m y 0) where
  ly' : y < length (set m x 1)
  ly' = simp length-set ly

  apart : x ≢ y
  apart e = ne (ap (λ (q : ℕ). get_or m q 0) e)

  both-binary : Binary (both m x y)
  both-binary p =
      elim (after (set m x 1) y p ly') [
        | inl e ↦ omega (arith, e.0)
        | inr e ↦ elim (after m x p lx) [ inl f ↦ omega (arith, f.0) | inr f ↦ omega (arith, bin p) ]
      ]

  both-total : total (both m x y) ≡ total m + 1
  both-total =
      let a = total-set m x lx in
      let b = total-set (set m x 1) y ly' in
      let c : get_or (set m x 1) y 0 ≡ get_or m y 0 = get_or-set_other m x y 1 0 (λ e. apart (sym e)) in
      omega (arith, bin x, bin y)

  both-good : (es : List Edge) → Among (x, y) es → (s : ℕ) → Good es s m → Good es s (both m x y)
  both-good es a s g = record { begun = begins; sound = sounds }
    where
      ends : Joined es s x × Joined es s y
      ends = elim (cases_eq (get_or m x 0) 1) [
        | inl e ↦ (g.sound x e, follow (g.sound x e) (along a same))
        | inr n ↦ let e : get_or m y 0 ≡ 1 = omega (arith, bin x, bin y) in (follow (g.sound y e) (back a same), g.sound y e)
      ]

      begins : get_or (both m x y) s 0 ≡ 1
      begins = elim (after (set m x 1) y s ly') [
        | inl e ↦ e.0
        | inr e ↦ elim (after m x s lx) [ inl f ↦ e ∙ f.0 | inr f ↦ e ∙ f ∙ g.begun ]
      ]

      sounds : (p : ℕ) → get_or (both m x y) p 0 ≡ 1 → Joined es s p
      sounds p h = elim (after (set m x 1) y p ly') [
        | inl e ↦ subst (λ (q : ℕ). Joined es s q) (sym e.1) ends.1
        | inr e ↦ elim (after m x p lx) [ inl f ↦ subst (λ (q : ℕ). Joined es s q) (sym f.1) ends.0 | inr f ↦ g.sound p (sym f ∙ sym e ∙ h) ]
      ]

-- all is 0 but s
pub first_good : (es : List Edge) (m : List ℕ) (s : ℕ) → ((k : ℕ) → get_or m k 0 ≡ 0) → s < length m → Good es s (set m s 1)
first_good es m s z l = record { begun = get_or-set_same m s 1 0 l; sound = λ p h. elim (after m s p l) [ inl e ↦ subst (λ (q : ℕ). Joined es s q) (sym e.1) same | inr e ↦ absurd (omega (arith, z p)) ] }

pub first_binary : (m : List ℕ) (s : ℕ) → ((k : ℕ) → get_or m k 0 ≡ 0) → s < length m → Binary (set m s 1)
first_binary m s z l p = elim (after m s p l) [ inl e ↦ omega (arith, e.0) | inr e ↦ omega (arith, z p) ]

-- at the end the marks are the test
pub ended : (es : List (List ℕ)) (m : List ℕ) (s : ℕ) → Binary m → Good (edges_of es) s m → Even es (length es) m → (p : ℕ) → get_or m p 0 ≡ cond (joins (edges_of es) s p) 1 0
ended es m s bin g ev p = go (joins (edges_of es) s p) refl
  where
    go : (b : Bool) → joins (edges_of es) s p ≡ b → get_or m p 0 ≡ cond b 1 0
    go true e = closed es m ev (label-joined (edges_of es) s p (eqb-true _ _ e)) g.begun
    go false e = elim (cases_eq (get_or m p 0) 1) [
      | inl h ↦ absurd (no e (eq-eqb _ _ (joined_label (g.sound p h))))
      | inr n ↦ omega (arith, bin p)
    ]
      where
        no : joins (edges_of es) s p ≡ false → joins (edges_of es) s p ≡ true → ⊥
        no f t = cc

-- what a round keeps after i edges, n of which marked an end
pub record Kept (es : List (List ℕ)) (m0 m : List ℕ) (n i : ℕ) : Type 0 where
  pub binary : Binary m
  pub good : (s : ℕ) → Good (edges_of es) s m0 → Good (edges_of es) s m
  pub count : total m ≡ total m0 + n
  pub even : n ≡ 0 → Even es i m
  pub few : n ≤ i

pub kept_same : (es : List (List ℕ)) (m0 m : List ℕ) (n i : ℕ) → get_or m (first_end es i) 0 ≡ get_or m (second_end es i) 0 → Kept es m0 m n i → Kept es m0 m n (i + 1)
kept_same es m0 m n i e k = record {
  binary = k.binary;
  good = k.good;
  count = k.count;
  even = λ z. below_more (λ q. get_or m (first_end es q) 0 ≡ get_or m (second_end es q) 0) i (k.even z) e;
  few = omega (arith, k.few);
}

pub kept-both : (es : List (List ℕ)) (m0 m : List ℕ) (n i : ℕ) → Ready es (length m0) → length m ≡ length m0 → i < length es → get_or m (first_end es i) 0 ≢ get_or m (second_end es i) 0 → Kept es m0 m n i → Kept es m0 (both m (first_end es i) (second_end es i)) (n + 1) (i + 1)
kept-both es m0 m n i r l h ne k =
    let x = first_end es i in
    let y = second_end es i in
    let la : x < length m = omega (arith, r.low_a i h) in
    let lb : y < length m = omega (arith, r.low_b i h) in
    let t = both-total m x y k.binary la lb ne in
    record {
      binary = both-binary m x y k.binary la lb ne;
      good = λ s g. both-good m x y k.binary la lb ne (edges_of es) (among_at es i h) s (k.good s g);
      count = omega (arith, k.count);
      even = λ z. absurd (omega arith);
      few = omega (arith, k.few);
    }
