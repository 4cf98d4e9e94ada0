-- Facts about the lists and searches of the rules.
use Rattle.std.proofs.Common.{◌≡◌, ℕ, zero, suc, ◌+◌, ◌-◌, ◌<◌, ◌≤◌, Bool, true, false, cond, not, ◌&&◌, ◌||◌, eqb, ltb, leb, ◌⊎◌, List, [], ◌∷◌, ◌++◌, map, get_or, sym, refl, ap, ◌∙◌, subst, ap₂, inl, inr, not-suc-le-zero, arith}
use mathlib.Core.Option.{Option, none, some}
use Rattle.std.proofs.lemmas.Bool.{eqb-true, eqb-false, eq-eqb, ne_eqb, both_ways, and_parts, and_from, and_left, and_right, ltb-false, leb-true, leb-false, not-true, cases_eq, or_left, or_right, cond-true, cond-false}
use Rattle.shared.specs.Lists.{Among, memb, apart, up_from, kept, first_from, first_answer, ◌then◌, ◌or_else◌, at, at2}
use Rattle.shared.specs.Kinds.{Hash}
use Rattle.shared.specs.Notice.{Setting}
use Rattle.shared.specs.Table.{Part, slot_of}
use Rattle.shared.specs.Book.{Held, Slot, held_in, contents, contents_from, part_of, value_at}

pub never : {A : Type 0} {v : A} → none ≡ some v → ⊥
never e = let z : ◌≡◌ {A = ℕ} 0 1 = cc in omega arith

pub some_same : {A : Type 0} {v w : A} → some v ≡ some w → v ≡ w
some_same e = cc

pub then_some : {A B : Type 0} (o : Option A) (f : A → Option B) (y : B) → (o then f) ≡ some y → (x : A) × (o ≡ some x) × (f x ≡ some y)
then_some none f y e = absurd (never e)
then_some (some x) f y e = (x, refl, e)

pub or_some : {A : Type 0} (o p : Option A) (y : A) → (o or_else p) ≡ some y → (o ≡ some y) ⊎ (p ≡ some y)
or_some none p y e = inr e
or_some (some x) p y e = inl e

pub first_from_lem : (t : ℕ → Bool) (i n s : ℕ) → first_from t i n ≡ some s → (t s ≡ true) × (s < i + n)
unfolding first_from
first_from_lem t i zero s e = absurd (never e)
first_from_lem t i (suc n) s e = go (first_from_lem t (suc i) n s) (t i) refl e
  where
    go : (first_from t (suc i) n ≡ some s → (t s ≡ true) × (s < suc i + n)) → (b : Bool) → t i ≡ b
        → elim b as (λ (c : Bool). Option ℕ) [ true ↦ some i | false ↦ first_from t (suc i) n ] ≡ some s → (t s ≡ true) × (s < i + suc n)
    go ih true q r = (subst (λ (m : ℕ). t m ≡ true) (some_same r) q, let e : i ≡ s = some_same r in omega arith)
    go ih false q r = ((ih r).0, let h : s < suc i + n = (ih r).1 in omega arith)

pub first_answer_lem : {A : Type 0} (f : ℕ → Option A) (i n : ℕ) (x : A) → first_answer f i n ≡ some x → (m : ℕ) × (f m ≡ some x)
unfolding first_answer
first_answer_lem f i zero x e = absurd (never e)
first_answer_lem {A} f i (suc n) x e = go (first_answer_lem f (suc i) n x) (f i) refl e
  where
    go : (first_answer f (suc i) n ≡ some x → (m : ℕ) × (f m ≡ some x)) → (o : Option A) → f i ≡ o
        → elim o as (λ (c : Option A). Option A) [ some y ↦ some y | none ↦ first_answer f (suc i) n ] ≡ some x → (m : ℕ) × (f m ≡ some x)
    go ih (some y) q r = (i, q ∙ r)
    go ih none q r = ih r

-- the same with where it was found
pub first_answer-low : {A : Type 0} (f : ℕ → Option A) (i n : ℕ) (x : A) → first_answer f i n ≡ some x → (m : ℕ) × (f m ≡ some x) × (m < i + n)
unfolding first_answer
first_answer-low f i zero x e = absurd (never e)
first_answer-low {A} f i (suc n) x e = go (first_answer-low f (suc i) n x) (f i) refl e
  where
    go : (first_answer f (suc i) n ≡ some x → (m : ℕ) × (f m ≡ some x) × (m < suc i + n)) → (o : Option A) → f i ≡ o
        → elim o as (λ (c : Option A). Option A) [ some y ↦ some y | none ↦ first_answer f (suc i) n ] ≡ some x → (m : ℕ) × (f m ≡ some x) × (m < i + suc n)
    go ih (some y) q r = (i, q ∙ r, omega arith)
    go ih none q r = let a = ih r in (a.0, a.1, let h : a.0 < suc i + n = a.2 in omega arith)

pub no_answer : {A : Type 0} (f : ℕ → Option A) (i n : ℕ) → first_answer f i n ≡ none → (m : ℕ) → i ≤ m → m < i + n → f m ≡ none
unfolding first_answer
no_answer f i zero e m lo hi = let h : 1 ≤ 0 = omega arith in absurd (not-suc-le-zero h)
no_answer {A} f i (suc n) e m lo hi = go (no_answer f (suc i) n) (f i) refl e
  where
    go : (first_answer f (suc i) n ≡ none → (k : ℕ) → suc i ≤ k → k < suc i + n → f k ≡ none) → (o : Option A) → f i ≡ o
        → elim o as (λ (c : Option A). Option A) [ some y ↦ some y | none ↦ first_answer f (suc i) n ] ≡ none → f m ≡ none
    go ih (some y) q r = absurd (never (sym r))
    go ih none q r = at-or (cases_eq m i)
      where
        at-or : (m ≡ i) ⊎ (m ≡ i → ⊥) → f m ≡ none
        at-or (inl t) = ap f t ∙ q
        at-or (inr t) = ih r m (omega arith) (omega arith)

-- the first one: none before it has an answer
pub first_answer-min : {A : Type 0} (f : ℕ → Option A) (i n : ℕ) (x : A) → first_answer f i n ≡ some x → (m : ℕ) × (f m ≡ some x) × (m < i + n) × ((p : ℕ) → i ≤ p → p < m → f p ≡ none)
unfolding first_answer
first_answer-min f i zero x e = absurd (never e)
first_answer-min {A} f i (suc n) x e = go (first_answer-min f (suc i) n x) (f i) refl e
  where
    go : (first_answer f (suc i) n ≡ some x → (m : ℕ) × (f m ≡ some x) × (m < suc i + n) × ((p : ℕ) → suc i ≤ p → p < m → f p ≡ none)) → (o : Option A) → f i ≡ o
        → elim o as (λ (c : Option A). Option A) [ some y ↦ some y | none ↦ first_answer f (suc i) n ] ≡ some x → (m : ℕ) × (f m ≡ some x) × (m < i + suc n) × ((p : ℕ) → i ≤ p → p < m → f p ≡ none)
    go ih (some y) q r = (i, q ∙ r, omega arith, λ p lo hi. let h : 1 ≤ 0 = omega arith in absurd (not-suc-le-zero h))
    go ih none q r = let a = ih r in (a.0, a.1, (let h : a.0 < suc i + n = a.2 in omega arith), λ p lo hi. at-or p lo (cases_eq p i) a.0 hi a.3)
      where
        at-or : (p : ℕ) → i ≤ p → (p ≡ i) ⊎ (p ≡ i → ⊥) → (m : ℕ) → p < m → ((s : ℕ) → suc i ≤ s → s < m → f s ≡ none) → f p ≡ none
        at-or p lo (inl t) m h b = ap f t ∙ q
        at-or p lo (inr t) m h b = b p (omega arith) h

pub first_none : (t : ℕ → Bool) (i n : ℕ) → first_from t i n ≡ none → (m : ℕ) → i ≤ m → m < i + n → t m ≡ false
unfolding first_from
first_none t i zero e m lo hi = let h : 1 ≤ 0 = omega arith in absurd (not-suc-le-zero h)
first_none t i (suc n) e m lo hi = go (first_none t (suc i) n) (t i) refl e
  where
    go : (first_from t (suc i) n ≡ none → (k : ℕ) → suc i ≤ k → k < suc i + n → t k ≡ false) → (b : Bool) → t i ≡ b
        → elim b as (λ (c : Bool). Option ℕ) [ true ↦ some i | false ↦ first_from t (suc i) n ] ≡ none → t m ≡ false
    go ih true q r = absurd (never (sym r))
    go ih false q r = at-or (cases_eq m i)
      where
        at-or : (m ≡ i) ⊎ (m ≡ i → ⊥) → t m ≡ false
        at-or (inl u) = ap t u ∙ q
        at-or (inr u) = ih r m (omega arith) (omega arith)

pub first_exists : (t : ℕ → Bool) (n s : ℕ) → s < n → t s ≡ true → (m : ℕ) × (first_from t 0 n ≡ some m)
first_exists t n s l e = go (first_from t 0 n) refl
  where
    go : (o : Option ℕ) → first_from t 0 n ≡ o → (m : ℕ) × (o ≡ some m)
    go none q = absurd (both_ways (t s) (first_none t 0 n q s (omega arith) (omega arith)) e)
    go (some m) q = (m, refl)

pub then_none : {A B : Type 0} (o : Option A) (f : A → B) → (o then (λ x. some (f x))) ≡ none → o ≡ none
then_none none f e = refl
then_none (some x) f e = absurd (never (sym e))

-- lists with the same head and tail
pub same_tail : {A : Type 0} {x y : A} {xs ys : List A} → x ∷ xs ≡ y ∷ ys → xs ≡ ys
same_tail e = cc

pub same_head : {A : Type 0} {x y : A} {xs ys : List A} → x ∷ xs ≡ y ∷ ys → x ≡ y
same_head e = cc

pub no_cons : {A : Type 0} {x : A} {xs : List A} → x ∷ xs ≡ [] → ⊥
no_cons e = let z : ◌≡◌ {A = ℕ} 0 1 = cc in omega arith

-- updates
pub at_same : {A : Type 0} (f : ℕ → A) (j : ℕ) (x : A) → at f j x j ≡ x
at_same f j x = cond-true (eqb j j) x (f j) (eq-eqb j j refl)

pub at_other : {A : Type 0} (f : ℕ → A) (j : ℕ) (x : A) (i : ℕ) → (i ≡ j → ⊥) → at f j x i ≡ f i
at_other f j x i h = cond-false (eqb i j) x (f i) (ne_eqb i j h)

pub at2-same : {A : Type 0} (f : ℕ → ℕ → A) (j i : ℕ) (x : A) → at2 f j i x j i ≡ x
at2-same f j i x = cond-true (eqb j j && eqb i i) x (f j i) (and_from (eqb j j) (eqb i i) (eq-eqb j j refl) (eq-eqb i i refl))

pub at2-other : {A : Type 0} (f : ℕ → ℕ → A) (j i : ℕ) (x : A) (p q : ℕ) → (p ≡ j → q ≡ i → ⊥) → at2 f j i x p q ≡ f p q
at2-other f j i x p q h = cond-false (eqb p j && eqb q i) x (f p q) (go (cases_eq p j))
  where
    go : (p ≡ j) ⊎ (p ≡ j → ⊥) → (eqb p j && eqb q i) ≡ false
    go (inl e) = and_right (eqb p j) (eqb q i) (ne_eqb q i (h e))
    go (inr n) = and_left (eqb p j) (eqb q i) (ne_eqb p j n)

-- where an update is read: at its place, or elsewhere
pub at2-cases : (j i p q : ℕ) → ((p ≡ j) × (q ≡ i)) ⊎ (p ≡ j → q ≡ i → ⊥)
at2-cases j i p q = go (cases_eq p j) (cases_eq q i)
  where
    go : (p ≡ j) ⊎ (p ≡ j → ⊥) → (q ≡ i) ⊎ (q ≡ i → ⊥) → ((p ≡ j) × (q ≡ i)) ⊎ (p ≡ j → q ≡ i → ⊥)
    go (inl e) (inl f) = inl (e, f)
    go (inl e) (inr f) = inr (λ a b. f b)
    go (inr e) f = inr (λ a b. e a)

-- lists
pub among_append_left : {A : Type 0} (xs ys : List A) (x : A) → Among x xs → Among x (xs ++ ys)
among_append_left [] ys x m = absurd m
among_append_left (y ∷ xs) ys x (inl e) = inl e
among_append_left (y ∷ xs) ys x (inr m) = inr (among_append_left xs ys x m)

pub among_append_right : {A : Type 0} (xs ys : List A) (x : A) → Among x ys → Among x (xs ++ ys)
among_append_right [] ys x m = m
among_append_right (y ∷ xs) ys x m = inr (among_append_right xs ys x m)

pub from-append : {A : Type 0} (xs ys : List A) (x : A) → Among x (xs ++ ys) → Among x xs ⊎ Among x ys
from-append [] ys x m = inr m
from-append (y ∷ xs) ys x (inl e) = inl (inl e)
from-append {A} (y ∷ xs) ys x (inr m) = go (from-append xs ys x m)
  where
    go : Among x xs ⊎ Among x ys → Among x (y ∷ xs) ⊎ Among x ys
    go (inl a) = inl (inr a)
    go (inr b) = inr b

pub among_memb : (x : ℕ) (xs : List ℕ) → Among x xs → memb x xs ≡ true
among_memb x [] m = absurd m
among_memb x (y ∷ ys) (inl e) = or_left (eqb x y) (memb x ys) (eq-eqb x y e)
among_memb x (y ∷ ys) (inr m) = or_right (eqb x y) (memb x ys) (among_memb x ys m)

pub among_up : (p i n : ℕ) → i ≤ p → p < i + n → Among p (up_from i n)
among_up p i zero lo hi = let h : 1 ≤ 0 = omega arith in absurd (not-suc-le-zero h)
among_up p i (suc n) lo hi = go (λ t. among_up p (suc i) n (omega arith) (omega arith)) (cases_eq p i)
  where
    go : ((p ≡ i → ⊥) → Among p (up_from (suc i) n)) → (p ≡ i) ⊎ (p ≡ i → ⊥) → Among p (up_from i (suc n))
    go rest (inl e) = inl e
    go rest (inr t) = inr (rest t)

-- what is kept, and of what
pub memb-kept : (t : ℕ → Bool) (p : ℕ) (xs : List ℕ) → memb p (kept t xs) ≡ (t p && memb p xs)
memb-kept t p [] = go (t p)
  where
    go : (b : Bool) → false ≡ (b && false)
    go true = refl
    go false = refl
memb-kept t p (x ∷ xs) = go (memb-kept t p xs) (t x) (t p) refl refl (eqb p x) refl
  where
    rest : List ℕ
    rest = kept t xs

    go : memb p rest ≡ (t p && memb p xs) → (b c : Bool) → t x ≡ b → t p ≡ c → (d : Bool) → eqb p x ≡ d → memb p (cond b (x ∷ rest) rest) ≡ (c && (d || memb p xs))
    go ih true true q r true u = ap (λ (w : Bool). w || memb p rest) u
    go ih true true q r false u = ap (λ (w : Bool). w || memb p rest) u ∙ ih ∙ ap (λ (w : Bool). w && memb p xs) r
    go ih true false q r true u = absurd (both_ways (t p) r (ap t (eqb-true p x u) ∙ q))
    go ih true false q r false u = ap (λ (w : Bool). w || memb p rest) u ∙ ih ∙ ap (λ (w : Bool). w && memb p xs) r
    go ih false true q r true u = absurd (both_ways (t x) q (ap t (sym (eqb-true p x u)) ∙ r))
    go ih false true q r false u = ih ∙ ap (λ (w : Bool). w && memb p xs) r
    go ih false false q r d u = ih ∙ ap (λ (w : Bool). w && memb p xs) r

pub kept-up : (t : ℕ → Bool) (p n : ℕ) → p < n → memb p (kept t (up_from 0 n)) ≡ t p
kept-up t p n h = memb-kept t p (up_from 0 n) ∙ ap (λ (w : Bool). t p && w) (among_memb p (up_from 0 n) (among_up p 0 n (omega arith) (omega arith))) ∙ plain (t p)
  where
    plain : (b : Bool) → (b && true) ≡ b
    plain true = refl
    plain false = refl

-- the places of row b, counted from its start
shifted : (a p : ℕ) → a ≤ p → (xs : List ℕ) → memb (p - a) (map (λ q. q - a) (kept (λ q. leb a q) xs)) ≡ memb p xs
shifted a p h [] = refl
shifted a p h (x ∷ xs) = go (shifted a p h xs) (leb a x) refl
  where
    rest : List ℕ
    rest = kept (λ q. leb a q) xs

    same_test : a ≤ x → (d : Bool) → eqb p x ≡ d → eqb (p - a) (x - a) ≡ d
    same_test g true e = let f : p ≡ x = eqb-true p x e in eq-eqb (p - a) (x - a) (ap (λ (w : ℕ). w - a) f)
    same_test g false e = ne_eqb (p - a) (x - a) (λ f. eqb-false p x e (omega arith))

    go : memb (p - a) (map (λ q. q - a) rest) ≡ memb p xs → (b : Bool) → leb a x ≡ b → memb (p - a) (map (λ q. q - a) (cond b (x ∷ rest) rest)) ≡ (eqb p x || memb p xs)
    go ih true e = ap₂ (λ (u w : Bool). u || w) (same_test (leb-true a x e) (eqb p x) refl) ih
    go ih false e = ih ∙ ap (λ (u : Bool). u || memb p xs) (sym (ne_eqb p x (λ f. let g : x < a = leb-false a x e in let i : 1 ≤ 0 = omega arith in not-suc-le-zero i)))

pub two_rows : (a p : ℕ) (xs : List ℕ) → cond (ltb p a) (memb p (kept (λ q. ltb q a) xs)) (memb (p - a) (map (λ q. q - a) (kept (λ q. leb a q) xs))) ≡ memb p xs
two_rows a p xs = go (ltb p a) refl
  where
    go : (b : Bool) → ltb p a ≡ b → cond b (memb p (kept (λ q. ltb q a) xs)) (memb (p - a) (map (λ q. q - a) (kept (λ q. leb a q) xs))) ≡ memb p xs
    go true e = memb-kept (λ q. ltb q a) p xs ∙ ap (λ (w : Bool). w && memb p xs) e
    go false e = shifted a p (ltb-false p a e) xs

-- buckets
pub four : {A : Type 0} (f : ℕ → A) (d : A) (i : ℕ) → i < 4 → get_or (f 0 ∷ f 1 ∷ f 2 ∷ f 3 ∷ []) i d ≡ f i
four f d zero h = refl
four f d (suc zero) h = refl
four f d (suc (suc zero)) h = refl
four f d (suc (suc (suc zero))) h = refl
four f d (suc (suc (suc (suc i)))) h = let g : 1 ≤ 0 = omega arith in absurd (not-suc-le-zero g)

held_in_lem : (xs : List Slot) (i : ℕ) (g : Held) → get_or xs i none ≡ some g → Among g (held_in xs)
held_in_lem [] i g e = absurd (never e)
held_in_lem (none ∷ xs) zero g e = absurd (never e)
held_in_lem (none ∷ xs) (suc i) g e = held_in_lem xs i g e
held_in_lem (some x ∷ xs) zero g e = inl (sym (some_same e))
held_in_lem (some x ∷ xs) (suc i) g e = inr (held_in_lem xs i g e)

pub contents-in : (slot : ℕ → ℕ → Slot) (j i : ℕ) (g : Held) → i < 4 → slot j i ≡ some g → Among g (contents slot j)
contents-in slot j i g h e = held_in_lem (slot j 0 ∷ slot j 1 ∷ slot j 2 ∷ slot j 3 ∷ []) i g (four (slot j) none i h ∙ e)

in_held : (f : ℕ → Slot) (g : Held) (xs : List ℕ) → Among g (held_in (map f xs)) → (i : ℕ) × (f i ≡ some g)
in_held f g [] m = absurd m
in_held f g (x ∷ xs) m = go (in_held f g xs) (f x) refl m
  where
    go : (Among g (held_in (map f xs)) → (i : ℕ) × (f i ≡ some g)) → (o : Slot) → f x ≡ o → Among g (held_in (o ∷ map f xs)) → (i : ℕ) × (f i ≡ some g)
    go ih none e n = ih n
    go ih (some h) e (inl t) = (x, e ∙ ap (λ (w : Held). some w) (sym t))
    go ih (some h) e (inr n) = ih n

pub in_contents : (slot : ℕ → ℕ → Slot) (j : ℕ) (g : Held) → Among g (contents slot j) → (i : ℕ) × (slot j i ≡ some g)
in_contents slot j g m = in_held (slot j) g (0 ∷ 1 ∷ 2 ∷ 3 ∷ []) m

pub contents-from : (slot : ℕ → ℕ → Slot) (j : ℕ) (g : Held) (js : List ℕ) → Among j js → Among g (contents slot j) → Among g (contents_from slot js)
contents-from slot j g [] m n = absurd m
contents-from slot j g (p ∷ ps) (inl e) n = among_append_left (contents slot p) (contents_from slot ps) g (subst (λ (w : ℕ). Among g (contents slot w)) e n)
contents-from slot j g (p ∷ ps) (inr m) n = among_append_right (contents slot p) (contents_from slot ps) g (contents-from slot j g ps m n)

pub from-contents : (slot : ℕ → ℕ → Slot) (g : Held) (js : List ℕ) → Among g (contents_from slot js) → (j : ℕ) × (i : ℕ) × (slot j i ≡ some g)
from-contents slot g [] m = absurd m
from-contents slot g (p ∷ ps) m = go (from-contents slot g ps) (from-append (contents slot p) (contents_from slot ps) g m)
  where
    go : (Among g (contents_from slot ps) → (j : ℕ) × (i : ℕ) × (slot j i ≡ some g)) → Among g (contents slot p) ⊎ Among g (contents_from slot ps) → (j : ℕ) × (i : ℕ) × (slot j i ≡ some g)
    go ih (inl n) = let r = in_contents slot p g n in (p, r.0, r.1)
    go ih (inr n) = ih n

-- parts with no two slots alike
module _ (f : Part → ℕ) where
  slot_among : (g : Held) (hs : List Held) → Among g hs → Among (f g.0) (map f (map part_of hs))
  slot_among g [] m = absurd m
  slot_among g (h ∷ hs) (inl e) = inl (ap (λ (w : Held). f w.0) e)
  slot_among g (h ∷ hs) (inr m) = inr (slot_among g hs m)

  head_apart : (x : Held) (hs : List Held) → apart (map f (map part_of (x ∷ hs))) ≡ true → (g : Held) → Among g hs → f x.0 ≡ f g.0 → ⊥
  head_apart x hs a g m e =
      both_ways (memb (f x.0) (map f (map part_of hs))) (not-true _ (and_parts (not (memb (f x.0) (map f (map part_of hs)))) (apart (map f (map part_of hs))) a).0)
      (among_memb (f x.0) (map f (map part_of hs)) (subst (λ (w : ℕ). Among w (map f (map part_of hs))) (sym e) (slot_among g hs m)))

  tail_apart : (x : Held) (hs : List Held) → apart (map f (map part_of (x ∷ hs))) ≡ true → apart (map f (map part_of hs)) ≡ true
  tail_apart x hs a = (and_parts (not (memb (f x.0) (map f (map part_of hs)))) (apart (map f (map part_of hs))) a).1

  apart-slots : (xs : List Slot) → apart (map f (map part_of (held_in xs))) ≡ true → (i k : ℕ) (g h : Held) → get_or xs i none ≡ some g → get_or xs k none ≡ some h → f g.0 ≡ f h.0 → i ≡ k
  apart-slots [] a i k g h e q s = absurd (never e)
  apart-slots (none ∷ xs) a zero k g h e q s = absurd (never e)
  apart-slots (none ∷ xs) a (suc i) zero g h e q s = absurd (never q)
  apart-slots (none ∷ xs) a (suc i) (suc k) g h e q s = ap suc (apart-slots xs a i k g h e q s)
  apart-slots (some x ∷ xs) a zero zero g h e q s = refl
  apart-slots (some x ∷ xs) a zero (suc k) g h e q s = absurd (head_apart x (held_in xs) a h (held_in_lem xs k h q) (ap (λ (w : Held). f w.0) (some_same e) ∙ s))
  apart-slots (some x ∷ xs) a (suc i) zero g h e q s = absurd (head_apart x (held_in xs) a g (held_in_lem xs i g e) (ap (λ (w : Held). f w.0) (some_same q) ∙ sym s))
  apart-slots (some x ∷ xs) a (suc i) (suc k) g h e q s = ap suc (apart-slots xs (tail_apart x (held_in xs) a) i k g h e q s)

  pub apart-contents : (slot : ℕ → ℕ → Slot) (j : ℕ) → apart (map f (map part_of (contents slot j))) ≡ true → (i k : ℕ) (g h : Held) → i < 4 → k < 4 → slot j i ≡ some g → slot j k ≡ some h → f g.0 ≡ f h.0 → i ≡ k
  apart-contents slot j a i k g h li lk e q s = apart-slots (slot j 0 ∷ slot j 1 ∷ slot j 2 ∷ slot j 3 ∷ []) a i k g h (four (slot j) none i li ∙ e) (four (slot j) none k lk ∙ q) s

-- the setting that a bucket's step writes for a part of it
pub value_of : (hash : Hash) (blank : Setting) (s : ℕ) (hs : List Held) → apart (map (slot_of hash s) (map part_of hs)) ≡ true → (g : Held) → Among g hs → value_at hash blank s hs (slot_of hash s g.0) ≡ g.1
value_of hash blank s [] a g m = absurd m
value_of hash blank s (h ∷ hs) a g (inl e) =
    cond-true (eqb (slot_of hash s h.0) (slot_of hash s g.0)) h.1 _ (eq-eqb _ _ (ap (λ (w : Held). slot_of hash s w.0) (sym e))) ∙ ap (λ (w : Held). w.1) (sym e)
value_of hash blank s (h ∷ hs) a g (inr m) =
    cond-false (eqb (slot_of hash s h.0) (slot_of hash s g.0)) h.1 _ (ne_eqb _ _ (head_apart (slot_of hash s) h hs a g m))
    ∙ value_of hash blank s hs (tail_apart (slot_of hash s) h hs a) g m
