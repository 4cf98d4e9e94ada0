-- What stands behind a front, before a closing bracket, and before a byte.
use Rattle.std.specs.Prelude.{ℕ, cond, List, [], ◌∷◌, ◌==◌}
use Rattle.std.specs.List.{position_or_len}
use Rattle.std.proofs.Math.Option.{Option, none, some}
use Rattle.shared.specs.Lists.{◌then◌}

-- what is behind a front, where the text begins with it
abbrev pub behind : List ℕ → List ℕ → Option (List ℕ)
behind [] text = some text
behind (f ∷ fs) [] = none
behind (f ∷ fs) (b ∷ bs) = cond (f == b) (behind fs bs) none

-- what is before a closing bracket, where the text ends with it
abbrev pub closed : List ℕ → Option (List ℕ)
closed [] = none
closed (b ∷ []) = cond (b == 41) (some []) none
closed (b ∷ c ∷ bs) = closed (c ∷ bs) then (λ rest. some (b ∷ rest))

abbrev pub inside_of : List ℕ → List ℕ → Option (List ℕ)
inside_of front line = behind front line then closed

-- where the byte c first stands, or the length
abbrev pub first_index : ℕ → List ℕ → ℕ
first_index c text = position_or_len (λ b. b == c) text
