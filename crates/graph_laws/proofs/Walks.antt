-- The test `joins` decides `Joined`; one more edge joins no more than it must.
use Rattle.std.proofs.Common.{◌≡◌, ℕ, Bool, true, false, cond, eqb, ◌⊎◌, List, [], ◌∷◌, sym, refl, ap, ◌∙◌, subst, inl, inr}
use Rattle.std.proofs.lemmas.Bool.{eqb-true, eq-eqb}
use Rattle.shared.specs.Graph.{Edge, Joined, label, joins}
use Rattle.shared.specs.Lists.{Among}
use Rattle.shared.specs.Graph.Joined.{same, along, back}

pub follow : {es : List Edge} {x y z : ℕ} → Joined es x y → Joined es y z → Joined es x z
follow same q = q
follow (along m p) q = along m (follow p q)
follow (back m p) q = back m (follow p q)

pub turn : {es : List Edge} {x y : ℕ} → Joined es x y → Joined es y x
turn same = same
turn (along m p) = follow (turn p) (back m same)
turn (back m p) = follow (turn p) (along m same)

abbrev pub Within : {A : Type 0} → List A → List A → Type 0
Within {A} xs ys = (x : A) → Among x xs → Among x ys

pub wider : {es fs : List Edge} {x y : ℕ} → Within es fs → Joined es x y → Joined fs x y
wider w same = same
wider w (along m p) = along (w _ m) (wider w p)
wider w (back m p) = back (w _ m) (wider w p)

pub more : {e : Edge} {es : List Edge} {x y : ℕ} → Joined es x y → Joined (e ∷ es) x y
more p = wider (λ a m. inr m) p

pub by_eq : {es : List Edge} {x y : ℕ} → x ≡ y → Joined es x y
by_eq {es} {x} e = subst (λ (w : ℕ). Joined es x w) e same

-- joined with one more edge: without it, or through it one way or the other
abbrev pub Via : Edge → List Edge → ℕ → ℕ → Type 0
Via e es x y = Joined es x y ⊎ ((Joined es x e.0 × Joined es e.1 y) ⊎ (Joined es x e.1 × Joined es e.0 y))

pub via_joined : (e : Edge) (es : List Edge) (x y : ℕ) → Via e es x y → Joined (e ∷ es) x y
via_joined e es x y (inl p) = more p
via_joined e es x y (inr (inl p)) = follow (more p.0) (along (inl refl) (more p.1))
via_joined e es x y (inr (inr p)) = follow (more p.0) (back (inl refl) (more p.1))

-- The four ways that two places can have one class after one more edge e: by the tests of their old classes against that of e's first end
module _ (es : List Edge) (e : Edge) (joined : (x y : ℕ) → label es x ≡ label es y → Joined es x y) where
  split : (x y : ℕ) → label (e ∷ es) x ≡ label (e ∷ es) y → Via e es x y
  split x y q = go (eqb (f x) from) (eqb (f y) from) refl refl q
    where
      f : ℕ → ℕ
      f = label es

      from : ℕ
      from = f e.0

      go : (a b : Bool) → eqb (f x) from ≡ a → eqb (f y) from ≡ b → cond a (f e.1) (f x) ≡ cond b (f e.1) (f y) → Via e es x y
      go true true p r t = inl (joined x y (eqb-true _ _ p ∙ sym (eqb-true _ _ r)))
      go true false p r t = inr (inl (joined x e.0 (eqb-true _ _ p), joined e.1 y t))
      go false true p r t = inr (inr (joined x e.1 t, joined e.0 y (sym (eqb-true _ _ r))))
      go false false p r t = inl (joined x y t)

pub label-joined : (es : List Edge) (x y : ℕ) → label es x ≡ label es y → Joined es x y
label-joined [] x y q = by_eq q
label-joined (e ∷ es) x y q = via_joined e es x y (split es e (label-joined es) x y q)

-- the ends of an edge have one class
true_of : (n : ℕ) → eqb n n ≡ true
true_of n = eq-eqb n n refl

edge-label : (es : List Edge) (x y : ℕ) → Among (x, y) es → label es x ≡ label es y
edge-label [] x y m = absurd m
edge-label (e ∷ es) x y (inl q) = subst (λ (d : Edge). label (e ∷ es) d.0 ≡ label (e ∷ es) d.1) (sym q) (ends (eqb (label es e.1) (label es e.0)))
  where
    ends : (b : Bool) → cond (eqb (label es e.0) (label es e.0)) (label es e.1) (label es e.0) ≡ cond b (label es e.1) (label es e.1)
    ends true = rw true_of
    ends false = rw true_of
edge-label (e ∷ es) x y (inr m) = ap (λ (c : ℕ). cond (eqb c (label es e.0)) (label es e.1) c) (edge-label es x y m)

pub joined_label : {es : List Edge} {x y : ℕ} → Joined es x y → label es x ≡ label es y
joined_label same = refl
joined_label {es} (along m p) = edge-label es _ _ m ∙ joined_label p
joined_label {es} (back m p) = sym (edge-label es _ _ m) ∙ joined_label p

-- the test decides the relation
pub decides : (es : List Edge) (x y : ℕ) → joins es x y ≡ true → Joined es x y
decides es x y t = label-joined es x y (eqb-true _ _ t)

pub decided : (es : List Edge) (x y : ℕ) → Joined es x y → joins es x y ≡ true
decided es x y p = eq-eqb (label es x) (label es y) (joined_label p)

-- one more edge joins no more than it must
pub via : (e : Edge) (es : List Edge) (x y : ℕ) → Joined (e ∷ es) x y → Via e es x y
via e es x y p = split es e (label-joined es) x y (joined_label p)
