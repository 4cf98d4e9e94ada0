-- Digits whose value a `u32` holds.
use Rattle.std.specs.Prelude.{ℕ, ◌^◌, ◌&&◌, cond, List, nat_lt}
use Rattle.std.proofs.Math.Option.{Option, none, some}
use Rattle.shared.specs.Tokens.{all_digits, read_on}

-- the value of the list if it is of digits alone, and below 2 ^ 32
abbrev pub fitting_value : List ℕ → Option ℕ
fitting_value ds = cond (all_digits ds && nat_lt (read_on 0 ds) (2 ^ 32)) (some (read_on 0 ds)) none
