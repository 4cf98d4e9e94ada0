-- The slots in code, as the rules see them.
use Rattle.std.specs.Prelude.{ℕ, ◌+◌, ◌*◌, cond, Bool, false, List, [], ◌∷◌, nat_lt, slice_index_or, Option, Some, None}
use Rattle.shared.specs.Lists.{same_list}
use Rattle.shared.specs.Table.{Part}
use Rattle.std.proofs.Math.Option.{none, some}
use Rattle.shared.specs.Book as rules
use Rattle.book_slots.specs.declared.Held.{Held}

module _ {P S : Type 0} (bytes : P → List ℕ) (numbers : S → List ℕ) where
  -- a part that stands, with its setting
  abbrev pub held_as : Held P S → rules.Held
  held_as h = (bytes h.part, numbers h.setting)

  -- one slot
  abbrev pub viewed : Option (Held P S) → rules.Slot
  viewed None = none
  viewed (Some h) = some (held_as h)

  -- slot i of bucket j; a slot past the fourth, or past the last bucket, is empty
  abbrev pub slot_in : List (Option (Held P S)) → ℕ → ℕ → rules.Slot
  slot_in xs j i = cond (nat_lt i 4) (viewed (slice_index_or xs (4 * j + i) None)) none

-- the parts that stand, from the first slot on
unfoldable pub parts : {P S : Type 0} → (P → List ℕ) → List (Option (Held P S)) → List (List ℕ)
parts bytes [] = []
parts bytes (None ∷ xs) = parts bytes xs
parts bytes (Some h ∷ xs) = bytes h.part ∷ parts bytes xs

-- the four slots of bucket j
abbrev pub four_of : {P S : Type 0} → List (Option (Held P S)) → ℕ → List (Option (Held P S))
four_of xs j = slice_index_or xs (4 * j + 0) None ∷ slice_index_or xs (4 * j + 1) None ∷ slice_index_or xs (4 * j + 2) None ∷ slice_index_or xs (4 * j + 3) None ∷ []

-- the slot holds the part
abbrev pub holds : {P S : Type 0} → (P → List ℕ) → Part → Option (Held P S) → Bool
holds bytes k None = false
holds bytes k (Some h) = same_list k (bytes h.part)
