-- Where a part stands, bucket by bucket.
use Rattle.std.specs.Prelude.{ℕ, ◌<◌, cond, Some, None, Option as CodeOption}
use Rattle.std.proofs.Math.Option.{Option, none, some}
use Rattle.shared.specs.Book.{Slot}
use Rattle.shared.specs.Lists.{same_list, first_answer, ◌then◌}
use Rattle.shared.specs.Table.{Part}
use Rattle.book_slots.specs.declared.Spot.{Spot}

-- what is found is below n
abbrev pub Below : CodeOption ℕ → ℕ → Type 0
Below (Some x) n = x < n
Below None n = Unit {0}

-- slot i of bucket j, if it holds the part
abbrev pub spot_at : (ℕ → ℕ → Slot) → Part → ℕ → ℕ → Option (ℕ × ℕ)
spot_at slot k j i = slot j i then (λ h. cond (same_list k h.0) (some (j, i)) none)

-- where the part stands in bucket j
abbrev pub spot_in : (ℕ → ℕ → Slot) → Part → ℕ → Option (ℕ × ℕ)
spot_in slot k j = first_answer (spot_at slot k j) 0 4

-- a spot as the rules have it: bucket and slot
abbrev pub spot_of : CodeOption Spot → Option (ℕ × ℕ)
spot_of (Some p) = some (p.bucket, p.slot)
spot_of None = none

-- what is found is a slot of one of n buckets
abbrev pub Within : CodeOption Spot → ℕ → Type 0
Within (Some p) n = (p.bucket < n) × (p.slot < 4)
Within None n = Unit {0}
