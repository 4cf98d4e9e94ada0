-- The limits of the sizes.
use Rattle.std.specs.Prelude.{ℕ, Bool, cond, ◌&&◌, [], ◌∷◌, nat_le}
use Rattle.shared.specs.Answers.{Answer, accepted, refused_with}

-- n is low to high
abbrev pub between : ℕ → ℕ → ℕ → Bool
between low high n = nat_le low n && nat_le n high

abbrev pub lawful_sizes : ℕ → ℕ → ℕ → ℕ → ℕ → Bool
lawful_sizes buckets a b overflow turn =
    between 1 4096 buckets && between 1 32768 a && between 1 32768 b && between 0 256 overflow && between 0 15 turn

-- asking for sizes: 1 where one is outside its limits
abbrev pub sizes_asked : ℕ → ℕ → ℕ → ℕ → ℕ → Answer
sizes_asked buckets a b overflow turn =
    cond (lawful_sizes buckets a b overflow turn) (accepted (buckets ∷ a ∷ b ∷ overflow ∷ turn ∷ [])) (refused_with 1)
