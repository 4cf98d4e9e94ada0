-- Digits as they are read, one after another.
use Rattle.std.proofs.Common.{◌≡◌, ℕ, ◌+◌, ◌-◌, ◌*◌, ◌^◌, ◌<◌, ◌≤◌, List, [], ◌∷◌, length, get_or, drop, arith}
use mathlib.Core.Option.{none}
use Rattle.std.proofs.lemmas.List.{at_drop_more}
use Rattle.std.proofs.lemmas.Grind.{common_steps}
use Rattle.shared.specs.Tokens.{read_on}
use Rattle.shared_text.specs.Numbers.{fitting_value}

read_on-ge : (n : ℕ) (ds : List ℕ) → n ≤ read_on n ds
read_on-ge n [] = omega arith
read_on-ge n (c ∷ cs) = omega (arith, read_on-ge (n * 10 + (c - 48)) cs)

-- what one digit more makes of `v` does not fit, so nor does the value of all digits
pub fitting_value_none : (ds : List ℕ) (i v : ℕ) → i < length ds → read_on v (drop i ds) ≡ read_on 0 ds → 2 ^ 32 ≤ v * 10 + (get_or ds i 0 - 48) → fitting_value ds ≡ none
fitting_value_none ds i v h e large =
    let more = at_drop_more (read_on v) ds i 0 h in
    let least = read_on-ge (v * 10 + (get_or ds i 0 - 48)) (drop (i + 1) ds) in
    grind (arith, common_steps)
