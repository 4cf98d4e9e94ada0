-- What a find called with plain numbers and bytes answers.
use Rattle.std.specs.Prelude.{◌≡◌, ℕ, ◌+◌, false, cond, List, [], ◌∷◌, ◌==◌, slice_index}
use Rattle.shared.specs.declared.sizes.Sizes.{Sizes}
use Rattle.shared.specs.Answers.{Answer, accepted, refused_with}
use Rattle.shared.specs.Limits.{lawful_sizes, sizes_asked}
use Rattle.shared.specs.Table.{find}
use Rattle.shared_families.specs.Hashes.{fnv}
use Rattle.shared_kinds.specs.declared.set_number.SetNumber.{SetNumber}
use Rattle.shared_kinds.specs.Parts.{is_part_number}
use Rattle.shared_table.specs.Memory.{Memory, fits, view}

-- an answer as one number: the first value where it is accepted, else the refusal's number above 65,536
abbrev pub coded : Answer → ℕ
coded x = cond (x.0 == 0) (slice_index x.1 0) (65536 + x.0)

-- the numbers of a set number
abbrev pub numbers_of : SetNumber → List ℕ
numbers_of s = s.value ∷ []

-- A find of a text at these sizes: 2 where the memory has other lengths, 3 where the text is no part number, else the setting
-- that the rules find in the table which the memory shows.
abbrev pub found_at : Sizes → Memory SetNumber → List ℕ → Answer
found_at z m text =
    cond (fits z m)
    (cond (is_part_number text) (accepted (find z fnv (view numbers_of (0 ∷ []) z m) text)) (refused_with 3))
    (refused_with 2)

-- A find is answered r where its sizes are given as five numbers: 1 where no sizes have these numbers, else by the sizes that do.
pub record Answered (buckets a b overflow turn : ℕ) (m : Memory SetNumber) (text : List ℕ) (r : ℕ) : Type 0 where
  pub outside : lawful_sizes buckets a b overflow turn ≡ false → r ≡ coded (refused_with 1)
  pub inside : (z : Sizes) → accepted (z.buckets ∷ z.a ∷ z.b ∷ z.overflow ∷ z.turn ∷ []) ≡ sizes_asked buckets a b overflow turn
      → r ≡ coded (found_at z m text)
