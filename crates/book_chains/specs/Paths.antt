-- The moves of a chain as the code holds them.
use Rattle.std.specs.Prelude.{◌≡◌, ℕ, ◌<◌, true, false, List, reverse, length, Some, None, Option as CodeOption, slice_index}
use Rattle.std.proofs.Math.Option.{Option, none, some}
use Rattle.short_list.specs.Lists.{ShortList}
use Rattle.shared.specs.declared.sizes.Sizes.{Sizes}
use Rattle.shared.specs.Book.{Slot, other}
use Rattle.shared.specs.Kinds.{Hash}
use Rattle.shared.specs.Lists.{memb, ◌then◌}

-- where the part in a slot of bucket j can go: to its other bucket, unless that is seen already
abbrev pub next_of : Sizes → Hash → Slot → ℕ → List ℕ → Option ℕ
next_of z hash slot j seen = slot then (λ h. let o = other z hash h.0 j in elim (memb o seen) [ true ↦ none | false ↦ some o ])

-- the slots of the moves, the first move first
abbrev pub path_of : CodeOption (ShortList ℕ) → Option (List ℕ)
path_of (Some v) = some (reverse v.items)
path_of None = none

-- m slots of buckets
pub record Picks (is : List ℕ) (m : ℕ) : Type 0 where
  pub many : length is ≡ m
  pub low : (k : ℕ) → k < length is → slice_index is k < 4

-- what is found are the slots of m moves
abbrev pub Picked : CodeOption (ShortList ℕ) → ℕ → Type 0
Picked (Some v) m = Picks v.items m
Picked None m = Unit {0}
