-- Runs of word bytes, and equal words.
use Rattle.std.proofs.Common.{◌≡◌, ℕ, Bool, ◌&&◌, eqb, List, [], ◌∷◌, take, refl, ap}
use Rattle.std.specs.List.{prefix_len}
use Rattle.std.specs.Cmp.Lexicographic.{pointwise}
use Rattle.std.proofs.lemmas.List.Sums.{take_while-cons}
use Rattle.shared.specs.Lists.{same_list}
use Rattle.shared.specs.Tokens.{word_byte, run}

-- a run is the front of the list that it is a run of
pub run_front : (xs : List ℕ) → take (prefix_len word_byte xs) xs ≡ run xs
run_front [] = refl
run_front (b ∷ bs) = rw (take_while-cons word_byte b bs, run_front bs)

-- what `==` says of two slices of bytes
pub same_list_is : (xs ys : List ℕ) → same_list xs ys ≡ pointwise eqb xs ys
same_list_is [] [] = refl
same_list_is [] (y ∷ ys) = refl
same_list_is (x ∷ xs) [] = refl
same_list_is (x ∷ xs) (y ∷ ys) = ap (λ (t : Bool). eqb x y && t) (same_list_is xs ys)
