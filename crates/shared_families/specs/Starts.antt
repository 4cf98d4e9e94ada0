-- The start of a held-back family.
use Rattle.std.specs.Prelude.{ℕ, cond, List, [], ◌∷◌, Some, None, Option, nat_le}

-- an answered family by its start; no family has none
abbrev pub start_of : {F : Type 0} → (F → ℕ) → Option F → List ℕ
start_of start (Some f) = start f ∷ []
start_of start None = []

-- a start over 256 has no family
abbrev pub start_asked : ℕ → List ℕ
start_asked start = cond (nat_le start 256) (start ∷ []) []
