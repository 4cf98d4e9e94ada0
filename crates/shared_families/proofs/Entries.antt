-- Pearson's table: one test that is computed over all its entries, and what the test says of each.
use Rattle.std.proofs.Common.{◌≡◌, ℕ, zero, suc, ◌+◌, ◌<◌, Bool, true, false, cond, ◌&&◌, T, eqb, ltb, List, [], ◌∷◌, map, length, get_or, sym, ap, ◌∙◌, subst, le_of_suc-le-suc, not-suc-le-zero, add-zero, add-suc, suc-add, zero-add, eqb→eq, ltb→lt}
use Rattle.shared.specs.Lists.{up_from}
use Rattle.shared_families.specs.Hashes.{triangular, Permutes}

both : (a b : Bool) → T (a && b) → T a × T b
both true b t = (tt, t)
both false b t = absurd t

-- the test passes at each entry of the list and its index, counted from i
abbrev pub every : (ℕ → ℕ → Bool) → ℕ → List ℕ → Bool
every test i [] = true
every test i (x ∷ xs) = test i x && every test (suc i) xs

from : (test : ℕ → ℕ → Bool) (xs : List ℕ) (i : ℕ) → T (every test i xs) → (k : ℕ) → k < length xs → T (test (i + k) (get_or xs k 0))
from test [] i t k h = absurd (not-suc-le-zero h)
from test (x ∷ xs) i t zero h = subst (λ (m : ℕ). T (test m x)) (sym (add-zero i)) (both (test i x) (every test (suc i) xs) t).0
from test (x ∷ xs) i t (suc k) h =
    subst (λ (m : ℕ). T (test m (get_or xs k 0))) (suc-add i k ∙ sym (add-suc i k))
    (from test xs (suc i) (both (test i x) (every test (suc i) xs) t).1 k (le_of_suc-le-suc h))

-- where a value stands among the n entries from i on
place_from : ℕ → ℕ → ℕ → ℕ
place_from v i zero = i
place_from v i (suc n) = cond (eqb (triangular i) v) i (place_from v (suc i) n)

place_of : ℕ → ℕ
place_of v = place_from v 0 256

-- the entry x at k keeps the rule and stands at no other place; k as a value stands somewhere
sound : ℕ → ℕ → Bool
unfolding place_of
sound k x = eqb x (triangular k) && (eqb (place_of x) k && (ltb (place_of k) 256 && eqb (triangular (place_of k)) k))

-- what the test says of the entry at k
Facts : ℕ → ℕ → Type 0
Facts k x = (x ≡ triangular k) × (place_of x ≡ k) × (place_of k < 256) × (triangular (place_of k) ≡ k)

facts : (k x : ℕ) → T (sound k x) → Facts k x
unfolding sound Facts
facts k x t =
    let a = both (eqb x (triangular k)) (eqb (place_of x) k && (ltb (place_of k) 256 && eqb (triangular (place_of k)) k)) t in
    let b = both (eqb (place_of x) k) (ltb (place_of k) 256 && eqb (triangular (place_of k)) k) a.1 in
    let c = both (ltb (place_of k) 256) (eqb (triangular (place_of k)) k) b.1 in
    (eqb→eq x (triangular k) a.0, eqb→eq (place_of x) k b.0, ltb→lt (place_of k) 256 c.0, eqb→eq (triangular (place_of k)) k c.1)

-- the table, and the test
abbrev pub table : List ℕ
table = map triangular (up_from 0 256)

tested : T (every sound 0 table)
unfolding sound place_from place_of
tested = tt

facts_at : (k : ℕ) → k < 256 → Facts k (get_or table k 0)
facts_at k h = facts k (get_or table k 0) (subst (λ (m : ℕ). T (sound m (get_or table k 0))) (zero-add k) (from sound table 0 tested k h))

pub rule : (k : ℕ) → k < 256 → get_or table k 0 ≡ triangular k
unfolding Facts
rule k h = (facts_at k h).0

-- each value below 256 stands in the table just once
pub permutes : Permutes triangular
unfolding Facts
permutes v h =
    (place_of v, (facts_at v h).2, (facts_at v h).3, λ j hj e. sym (ap place_of (sym (facts_at j hj).0) ∙ (facts_at j hj).1) ∙ ap place_of e)
