-- Which lists of numbers are settings.
use Rattle.std.specs.Prelude.{ℕ, Bool, cond, ◌&&◌, List, [], ◌∷◌, length, ◌==◌, slice_index}
use Rattle.shared.specs.Answers.{Answer, accepted, refused_with}
use Rattle.shared.specs.Limits.{between}

-- a set number is one number
abbrev pub is_set_number : List ℕ → Bool
is_set_number vs = length vs == 1 && between 0 65535 (slice_index vs 0)

-- a trim is advance 0 to 600, fuel 500 to 1,500, dwell 0 to 9,999
abbrev pub is_trim : List ℕ → Bool
is_trim vs = length vs == 3 && (between 0 600 (slice_index vs 0) && (between 500 1500 (slice_index vs 1) && between 0 9999 (slice_index vs 2)))

-- asking for a trim: 4 where one of its numbers is outside its limits
abbrev pub trim_asked : ℕ → ℕ → ℕ → Answer
trim_asked advance fuel dwell =
    let vs = advance ∷ fuel ∷ dwell ∷ [] in
    cond (is_trim vs) (accepted vs) (refused_with 4)
