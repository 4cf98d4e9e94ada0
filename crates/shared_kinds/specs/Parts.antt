-- Which numbers are tags, and which texts are part numbers.
use Rattle.std.specs.Prelude.{ℕ, ◌/◌, ◌%◌, ◌^◌, Bool, cond, ◌&&◌, ◌||◌, List, [], ◌∷◌, length, ◌==◌, nat_lt}
use Rattle.std.specs.List.{list_all}
use Rattle.shared.specs.Answers.{Answer, accepted, refused_with}
use Rattle.shared.specs.Limits.{between}

-- a number below 2^48 as six bytes, the most significant first
abbrev pub tag_bytes : ℕ → List ℕ
tag_bytes n = n / 2 ^ 40 ∷ n / 2 ^ 32 % 256 ∷ n / 2 ^ 24 % 256 ∷ n / 2 ^ 16 % 256 ∷ n / 2 ^ 8 % 256 ∷ n % 256 ∷ []

-- asking for a tag: 3 where the number is too large
abbrev pub tag_asked : ℕ → Answer
tag_asked n = cond (nat_lt n (2 ^ 48)) (accepted (tag_bytes n)) (refused_with 3)

-- A to Z, 0 to 9 or hyphen
abbrev pub part_byte : ℕ → Bool
part_byte b = between 65 90 b || between 48 57 b || b == 45

abbrev pub is_part_number : List ℕ → Bool
is_part_number text = between 1 16 (length text) && list_all part_byte text

-- asking for a part number: 3 for any other text
abbrev pub part_number_asked : List ℕ → Answer
part_number_asked text = cond (is_part_number text) (accepted text) (refused_with 3)
