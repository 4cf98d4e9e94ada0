-- Lists and searches that the rules are written with.
use Rattle.std.specs.Prelude.{◌≡◌, ℕ, zero, suc, Bool, true, false, cond, not, ◌&&◌, ◌||◌, ◌⊎◌, List, [], ◌∷◌, ◌==◌, nat_lt}
use Rattle.std.proofs.Math.Option.{Option, none, some}

-- x stands in the list
abbrev pub Among : {A : Type 0} → A → List A → Type 0
Among x [] = ⊥
Among x (y ∷ ys) = (x ≡ y) ⊎ Among x ys

abbrev pub same_list : List ℕ → List ℕ → Bool
same_list [] [] = true
same_list [] (y ∷ ys) = false
same_list (x ∷ xs) [] = false
same_list (x ∷ xs) (y ∷ ys) = x == y && same_list xs ys

abbrev pub memb : ℕ → List ℕ → Bool
memb x [] = false
memb x (y ∷ ys) = x == y || memb x ys

-- no number stands twice
abbrev pub apart : List ℕ → Bool
apart [] = true
apart (x ∷ xs) = not (memb x xs) && apart xs

abbrev pub all_below : ℕ → List ℕ → Bool
all_below n [] = true
all_below n (x ∷ xs) = nat_lt x n && all_below n xs

-- n numbers, from i on
abbrev pub up_from : ℕ → ℕ → List ℕ
up_from i zero = []
up_from i (suc n) = i ∷ up_from (suc i) n

-- those that pass the test
abbrev pub kept : {A : Type 0} → (A → Bool) → List A → List A
kept t [] = []
kept t (x ∷ xs) = let rest = kept t xs in cond (t x) (x ∷ rest) rest

-- the least number that passes, among the n from i on
unfoldable pub first_from : (ℕ → Bool) → ℕ → ℕ → Option ℕ
first_from t i zero = none
first_from t i (suc n) = elim (t i) [ true ↦ some i | false ↦ first_from t (suc i) n ]

-- the first answer of f, among the n numbers from i on
unfoldable pub first_answer : {A : Type 0} → (ℕ → Option A) → ℕ → ℕ → Option A
first_answer f i zero = none
first_answer f i (suc n) = elim (f i) [ some x ↦ some x | none ↦ first_answer f (suc i) n ]

abbrev pub ◌then◌ : {A B : Type 0} → Option A → (A → Option B) → Option B
none then f = none
some x then f = f x

infixl 20 ◌then◌
abbrev pub ◌or_else◌ : {A : Type 0} → Option A → Option A → Option A
none or_else y = y
some x or_else y = some x

infixl 20 ◌or_else◌
abbrev pub is_found : {A : Type 0} → Option A → Bool
is_found none = false
is_found (some x) = true

-- f, but x at j; and f of two numbers, but x at j and i
abbrev pub at : {A : Type 0} → (ℕ → A) → ℕ → A → ℕ → A
at f j x i = cond (i == j) x (f i)

abbrev pub at2 : {A : Type 0} → (ℕ → ℕ → A) → ℕ → ℕ → A → ℕ → ℕ → A
at2 f j i x p q = cond (p == j && q == i) x (f p q)
