-- The test of equal lists.
use Rattle.std.proofs.Common.{◌≡◌, ℕ, true, false, eqb, List, [], ◌∷◌, refl, ap₂}
use Rattle.std.proofs.lemmas.Bool.{eqb-true, eq-eqb, both_ways, and_parts, and_from}
use Rattle.shared.specs.Lists.{same_list}

pub same_sound : (x y : List ℕ) → same_list x y ≡ true → x ≡ y
same_sound [] [] e = refl
same_sound [] (y ∷ ys) e = absurd (both_ways false refl e)
same_sound (x ∷ xs) [] e = absurd (both_ways false refl e)
same_sound (x ∷ xs) (y ∷ ys) e =
    let h = and_parts (eqb x y) (same_list xs ys) e in
    ap₂ (λ (a : ℕ) (b : List ℕ). a ∷ b) (eqb-true x y h.0) (same_sound xs ys h.1)

pub same_own : (x : List ℕ) → same_list x x ≡ true
same_own [] = refl
same_own (x ∷ xs) = and_from (eqb x x) (same_list xs xs) (eq-eqb x x refl) (same_own xs)
