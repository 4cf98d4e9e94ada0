-- The test for number words, as facts.
use Rattle.std.proofs.Common.{◌≡◌, ℕ, ◌<◌, ◌≤◌, true, false, leb, List, [], ◌∷◌, length, get_or, refl, ⊎_elim, arith}
use Rattle.std.proofs.lemmas.Bool.{cases_eq, and_parts, and_from, leb-true, le-leb, both_ways}
use Rattle.shared.specs.Limits.{between}
use Rattle.shared.specs.Tokens.{digit, all_digits, plain_digits}

pub between-from : (low high n : ℕ) → low ≤ n → n ≤ high → between low high n ≡ true
between-from low high n l h = and_from (leb low n) (leb n high) (le-leb low n l) (le-leb n high h)

pub between-parts : (low high n : ℕ) → between low high n ≡ true → (low ≤ n) × (n ≤ high)
between-parts low high n t = let p = and_parts (leb low n) (leb n high) t in (leb-true low n p.0, leb-true n high p.1)

-- digits with no zero in front of others
pub record Plain (w : List ℕ) : Type 0 where
  pub digits : all_digits w ≡ true
  pub some : 0 < length w
  pub first : get_or w 0 0 ≡ 48 → length w ≡ 1

pub plain_parts : (w : List ℕ) → plain_digits w ≡ true → Plain w
plain_parts [] e = absurd (both_ways false refl e)
plain_parts (c ∷ []) e = record { digits = and_from (digit c) true e refl; some = omega arith; first = λ _. refl }
plain_parts (c ∷ d ∷ ds) e =
    let p = and_parts (between 49 57 c) (all_digits (d ∷ ds)) e in
    let b = between-parts 49 57 c p.0 in
    record {
      digits = and_from (digit c) (all_digits (d ∷ ds)) (between-from 48 57 c (omega arith) b.1) p.1;
      some = omega arith;
      first = λ z. absurd (omega arith);
    }

pub plain_from : (w : List ℕ) → Plain w → plain_digits w ≡ true
plain_from [] p = absurd (omega (arith, p.some))
plain_from (c ∷ []) p = (and_parts (digit c) true p.digits).0
plain_from (c ∷ d ∷ ds) p =
    let q = and_parts (digit c) (all_digits (d ∷ ds)) p.digits in
    let b = between-parts 48 57 c q.0 in
    let above : 49 ≤ c = ⊎_elim (λ e. absurd (omega (arith, p.first e))) (λ n. grind arith) (cases_eq c 48) in
    and_from (between 49 57 c) (all_digits (d ∷ ds)) (between-from 49 57 c above b.1) q.1
