-- A chain as the rules have it.
use Rattle.std.specs.Prelude.{ℕ, ◌<◌, ◌≤◌, List, [], ◌∷◌, reverse, length, Some, None, Option as CodeOption, slice_index}
use Rattle.std.proofs.Math.Option.{Option, none, some}
use Rattle.shared.specs.declared.sizes.Sizes.{Sizes}
use Rattle.shared.specs.Book.{Slot, most_moves, walk}
use Rattle.shared.specs.Kinds.{Hash}
use Rattle.shared.specs.Lists.{◌then◌, ◌or_else◌}
use Rattle.book_chains.specs.declared.Chain.{Chain}

-- the least chain of m moves from bucket x on
abbrev pub chain_from : Sizes → Hash → (ℕ → ℕ → Slot) → ℕ → ℕ → Option (ℕ × List ℕ)
chain_from z hash slot x m = walk z hash slot m x (x ∷ []) then (λ is. some (x, is))

-- the least chain of m moves from bucket x on, or else from bucket y on
abbrev pub chain_either : Sizes → Hash → (ℕ → ℕ → Slot) → ℕ → ℕ → ℕ → Option (ℕ × List ℕ)
chain_either z hash slot x y m = chain_from z hash slot x m or_else chain_from z hash slot y m

-- its first bucket and its slots, the first move first
abbrev pub chain_of : CodeOption Chain → Option (ℕ × List ℕ)
chain_of (Some c) = some (c.first, reverse c.slots.items)
chain_of None = none

-- the chain begins at one of n buckets, and has no more moves and no other slots than there are
pub record Inside (c : Chain) (n : ℕ) : Type 0 where
  pub first : c.first < n
  pub moves : length c.slots.items ≤ most_moves
  pub slots : (k : ℕ) → k < length c.slots.items → slice_index c.slots.items k < 4

-- what is found is such a chain
abbrev pub Shaped : CodeOption Chain → ℕ → Type 0
Shaped (Some c) n = Inside c n
Shaped None n = Unit {0}
