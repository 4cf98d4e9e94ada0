-- What the laws of setting kinds rest on: a lawful list of numbers is its own first numbers, each within its limits.
use Rattle.std.specs.Prelude.{◌≡◌, ℕ, ◌≤◌, ◌<◌, true, List, [], ◌∷◌, length, slice_index}
use Rattle.std.proofs.Common.{sym, refl, arith, get_or}
use Rattle.std.proofs.lemmas.Bool.Decides.{nat_tests}
use Rattle.shared_kinds.specs.Settings.{is_set_number, is_trim}

pub one-listed : (vs : List ℕ) → length vs ≡ 1 → vs ≡ get_or vs 0 0 ∷ []
one-listed [] e = absurd (omega arith)
one-listed (x ∷ []) e = refl
one-listed (x ∷ y ∷ ys) e = absurd (omega arith)

pub three_listed : (vs : List ℕ) → length vs ≡ 3 → vs ≡ get_or vs 0 0 ∷ get_or vs 1 0 ∷ get_or vs 2 0 ∷ []
three_listed [] e = absurd (omega arith)
three_listed (x ∷ []) e = absurd (omega arith)
three_listed (x ∷ y ∷ []) e = absurd (omega arith)
three_listed (x ∷ y ∷ z ∷ []) e = refl
three_listed (x ∷ y ∷ z ∷ w ∷ ws) e = absurd (omega arith)

-- what a lawful list says of its numbers
pub record SetNumberList (vs : List ℕ) : Type 0 where
  pub low : slice_index vs 0 < 65536
  pub listed : slice_index vs 0 ∷ [] ≡ vs

pub set_number-list : (vs : List ℕ) → is_set_number vs ≡ true → SetNumberList vs
set_number-list vs t =
    let low : slice_index vs 0 < 65536 = grind (arith, nat_tests) in
    let long : length vs ≡ 1 = grind (arith, nat_tests) in
    record { low = low; listed = sym (one-listed vs long) }

pub record TrimList (vs : List ℕ) : Type 0 where
  pub few_advance : slice_index vs 0 ≤ 600
  pub some_fuel : 500 ≤ slice_index vs 1
  pub few_fuel : slice_index vs 1 ≤ 1500
  pub few_dwell : slice_index vs 2 ≤ 9999
  pub listed : slice_index vs 0 ∷ slice_index vs 1 ∷ slice_index vs 2 ∷ [] ≡ vs

pub trim-list : (vs : List ℕ) → is_trim vs ≡ true → TrimList vs
trim-list vs t =
    let long : length vs ≡ 3 = grind (arith, nat_tests) in
    record {
      few_advance = grind (arith, nat_tests);
      some_fuel = grind (arith, nat_tests);
      few_fuel = grind (arith, nat_tests);
      few_dwell = grind (arith, nat_tests);
      listed = sym (three_listed vs long);
    }
