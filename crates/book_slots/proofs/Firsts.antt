-- Turns of a loop that looks for a first number or a first answer.
use Rattle.std.proofs.Common.{◌≡◌, ℕ, suc, ◌+◌, ◌-◌, ◌<◌, ◌≤◌, Bool, true, false, cond, List, [], ◌∷◌, length, get_or, refl, sym, ap, ◌∙◌, arith}
use mathlib.Core.Option.{Option, none, some}
use Rattle.std.specs.Prelude.{Some}
use Rattle.std.specs.List.{position_from}
use Rattle.shared.specs.Answers.{optional}
use Rattle.shared.specs.Lists.{first_from, first_answer}

-- of the numbers below n: one more that fails, the first that passes, none left
pub first_more : (t : ℕ → Bool) (i n : ℕ) → i < n → t i ≡ false → first_from t i (n - i) ≡ first_from t (i + 1) (n - (i + 1))
unfolding first_from
first_more t i n h e =
    let s : n - i ≡ suc (n - (i + 1)) = omega arith in
    let p : suc i ≡ i + 1 = omega arith in
    ap (λ (m : ℕ). first_from t i m) s
    ∙ ap (λ (b : Bool). elim b [ true ↦ some i | false ↦ first_from t (suc i) (n - (i + 1)) ]) e
    ∙ ap (λ (q : ℕ). first_from t q (n - (i + 1))) p

pub first_here : (t : ℕ → Bool) (i n : ℕ) → i < n → t i ≡ true → first_from t i (n - i) ≡ some i
unfolding first_from
first_here t i n h e =
    let s : n - i ≡ suc (n - (i + 1)) = omega arith in
    ap (λ (m : ℕ). first_from t i m) s
    ∙ ap (λ (b : Bool). elim b [ true ↦ some i | false ↦ first_from t (suc i) (n - (i + 1)) ]) e

pub first_none : (t : ℕ → Bool) (i n : ℕ) → n ≤ i → first_from t i (n - i) ≡ none
unfolding first_from
first_none t i n h = let s : n - i ≡ 0 = omega arith in ap (λ (m : ℕ). first_from t i m) s

-- of the answers below n: one more that is none, the first, none left
pub answer-more : {A : Type 0} (f : ℕ → Option A) (i n : ℕ) → i < n → f i ≡ none → first_answer f i (n - i) ≡ first_answer f (i + 1) (n - (i + 1))
unfolding first_answer
answer-more {A} f i n h e =
    let s : n - i ≡ suc (n - (i + 1)) = omega arith in
    let p : suc i ≡ i + 1 = omega arith in
    ap (λ (m : ℕ). first_answer f i m) s
    ∙ ap (λ (b : Option A). elim b [ some x ↦ some x | none ↦ first_answer f (suc i) (n - (i + 1)) ]) e
    ∙ ap (λ (q : ℕ). first_answer f q (n - (i + 1))) p

pub answer-here : {A : Type 0} (f : ℕ → Option A) (i n : ℕ) (a : A) → i < n → f i ≡ some a → first_answer f i (n - i) ≡ some a
unfolding first_answer
answer-here {A} f i n a h e =
    let s : n - i ≡ suc (n - (i + 1)) = omega arith in
    ap (λ (m : ℕ). first_answer f i m) s
    ∙ ap (λ (b : Option A). elim b [ some x ↦ some x | none ↦ first_answer f (suc i) (n - (i + 1)) ]) e

pub answer-none : {A : Type 0} (f : ℕ → Option A) (i n : ℕ) → n ≤ i → first_answer f i (n - i) ≡ none
unfolding first_answer
answer-none f i n h = let s : n - i ≡ 0 = omega arith in ap (λ (m : ℕ). first_answer f i m) s

-- a number that passes is where the first element stands that passes the same test
at_head : {X : Type 0} (p : X → Bool) (t : ℕ → Bool) (x : X) (xs : List X) (i n : ℕ) (b : Bool) → p x ≡ b → t i ≡ p x
    → first_from t (suc i) n ≡ optional (position_from p (i + 1) xs) → first_from t i (suc n) ≡ optional (position_from p i (x ∷ xs))
unfolding first_from
at_head p t x xs i n true e here rest =
    ap (λ (b : Bool). elim b [ true ↦ some i | false ↦ first_from t (suc i) n ]) (here ∙ e)
    ∙ sym (ap (λ (b : Bool). optional (cond b (Some i) (position_from p (i + 1) xs))) e)
at_head p t x xs i n false e here rest =
    ap (λ (b : Bool). elim b [ true ↦ some i | false ↦ first_from t (suc i) n ]) (here ∙ e)
    ∙ rest
    ∙ sym (ap (λ (b : Bool). optional (cond b (Some i) (position_from p (i + 1) xs))) e)

pub first_from-position : {X : Type 0} (p : X → Bool) (t : ℕ → Bool) (d : X) (xs : List X) (i : ℕ)
    → ((k : ℕ) → k < length xs → t (i + k) ≡ p (get_or xs k d)) → first_from t i (length xs) ≡ optional (position_from p i xs)
unfolding first_from
first_from-position p t d [] i h = refl
first_from-position p t d (x ∷ xs) i h =
    let start : i ≡ i + 0 = omega arith in
    let next : suc i ≡ i + 1 = omega arith in
    at_head p t x xs i (length xs) (p x) refl (ap t start ∙ h 0 (omega arith))
    (ap (λ (q : ℕ). first_from t q (length xs)) next
    ∙ first_from-position p t d xs (i + 1) (λ k less. let over : i + 1 + k ≡ i + suc k = omega arith in ap t over ∙ h (suc k) (omega arith)))

-- an answer that a test decides, before the others
pub answer-cond : {A : Type 0} (f : ℕ → Option A) (i n : ℕ) (b : Bool) (v : A) (w : Option A) → f i ≡ cond b (some v) none → first_answer f (suc i) n ≡ w → first_answer f i (suc n) ≡ cond b (some v) w
unfolding first_answer
answer-cond {A} f i n true v w e rest = ap (λ (o : Option A). elim o [ some x ↦ some x | none ↦ first_answer f (suc i) n ]) e
answer-cond {A} f i n false v w e rest = ap (λ (o : Option A). elim o [ some x ↦ some x | none ↦ first_answer f (suc i) n ]) e ∙ rest

-- the same of four answers that tests decide, taken as one
pub answer-four : {A : Type 0} (f : ℕ → Option A) (i n : ℕ) (a b c d : Bool) (w x y z : A) (r : Option A)
    → f i ≡ cond a (some w) (cond b (some x) (cond c (some y) (cond d (some z) none))) → first_answer f (suc i) n ≡ r
    → first_answer f i (suc n) ≡ cond a (some w) (cond b (some x) (cond c (some y) (cond d (some z) r)))
answer-four f i n true b c d w x y z r e rest = answer-cond f i n true w r e rest
answer-four f i n false true c d w x y z r e rest = answer-cond f i n true x r e rest
answer-four f i n false false true d w x y z r e rest = answer-cond f i n true y r e rest
answer-four f i n false false false d w x y z r e rest = answer-cond f i n d z r e rest
