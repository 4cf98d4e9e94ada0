-- Ranges of numbers: one more, in two, and what is made of each number.
use Rattle.std.proofs.Common.{◌≡◌, ℕ, zero, suc, ◌+◌, ◌-◌, ◌<◌, ◌≤◌, List, [], ◌∷◌, ◌++◌, map, length, refl, ap, ◌∙◌, ap₂, arith}
use mathlib.Core.List.{map-append}
use lib.ListN.{length-map}
use Rattle.shared.specs.Lists.{up_from}

-- from i on to n: one number more, and none
pub up_more : (i n : ℕ) → i < n → up_from i (n - i) ≡ i ∷ up_from (i + 1) (n - (i + 1))
up_more i n h =
    let s : n - i ≡ suc (n - (i + 1)) = omega arith in
    let p : suc i ≡ i + 1 = omega arith in
    ap (up_from i) s ∙ ap (λ (k : ℕ). i ∷ up_from k (n - (i + 1))) p

pub up_none : (i n : ℕ) → n ≤ i → up_from i (n - i) ≡ []
up_none i n h = let s : n - i ≡ 0 = omega arith in ap (up_from i) s

pub length_up : (i n : ℕ) → length (up_from i n) ≡ n
length_up i zero = refl
length_up i (suc n) = ap suc (length_up (suc i) n)

-- in two
pub up_append : (i m n : ℕ) → up_from i (m + n) ≡ up_from i m ++ up_from (i + m) n
up_append i zero n = let e : 0 + n ≡ n = omega arith in let f : i ≡ i + 0 = omega arith in ap₂ up_from f e
up_append i (suc m) n =
    let e : suc m + n ≡ suc (m + n) = omega arith in
    let f : suc i + m ≡ i + suc m = omega arith in
    ap (up_from i) e ∙ ap (λ (l : List ℕ). i ∷ l) (up_append (suc i) m n ∙ ap (λ (k : ℕ). up_from (suc i) m ++ up_from k n) f)

pub map-up : {A : Type 0} (f g : ℕ → A) (i n : ℕ) → ((k : ℕ) → i ≤ k → k < i + n → f k ≡ g k) → map f (up_from i n) ≡ map g (up_from i n)
map-up f g i zero h = refl
map-up f g i (suc n) h = ap₂ (λ x (l : List _). x ∷ l) (h i (omega arith) (omega arith)) (map-up f g (suc i) n (λ k p q. h k (omega arith) (omega arith)))

-- the first n, and one behind them
pub map_last : {A : Type 0} (f : ℕ → A) (n : ℕ) → map f (up_from 0 (n + 1)) ≡ map f (up_from 0 n) ++ (f n ∷ [])
map_last f n =
    let z : 0 + n ≡ n = omega arith in
    ap (map f) (up_append 0 n 1) ∙ map-append f (up_from 0 n) (up_from (0 + n) 1) ∙ ap (λ (k : ℕ). map f (up_from 0 n) ++ (f k ∷ [])) z

pub length-map_up : {A : Type 0} (f : ℕ → A) (i n : ℕ) → length (map f (up_from i n)) ≡ n
length-map_up f i n = length-map (up_from i n) f ∙ length_up i n
