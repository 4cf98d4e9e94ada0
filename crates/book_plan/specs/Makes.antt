-- How a plan is made, from the chain's far end.
use Rattle.std.specs.Prelude.{◌≡◌, ℕ, ◌+◌, ◌<◌, List, [], ◌∷◌, ◌++◌, length, Some, None, Option as CodeOption}
use Rattle.std.proofs.Math.Option.{Option, none, some}
use Rattle.short_list.specs.Lists.{ShortList}
use Rattle.shared.specs.declared.sizes.Sizes.{Sizes}
use Rattle.shared.specs.Book.{Held, Slot}
use Rattle.shared.specs.Lists.{◌then◌}
use Rattle.chain_laws.specs.Plans.{Placement}
use Rattle.book_steps.specs.declared.plan.Placing.{Placing}
use Rattle.book_steps.specs.Plans.{Fit, placing_at, placements_of}

-- a step of a plan
abbrev pub placing : ℕ → ℕ → ℕ → Placing
placing j i s = record { bucket = j; spot = i; seed = s }

-- the steps with one more, the last, under the seed that was found
abbrev pub with_last : List Placing → ℕ → ℕ → Option ℕ → Option (List Placing)
with_last ps j i seed = seed then (λ s. some (ps ++ (placing j i s ∷ [])))

-- a plan's steps
abbrev pub steps_of : CodeOption (ShortList Placing) → Option (List Placing)
steps_of (Some p) = some p.items
steps_of None = none

-- a plan as the rules' placements
abbrev pub plan_of : (ℕ → ℕ → Slot) → Held → CodeOption (ShortList Placing) → Option (List Placement)
plan_of slot h (Some p) = some (placements_of slot p.items h)
plan_of slot h None = none

-- each step but the first comes into a slot that holds a part, which is the one that the step before it moved
abbrev pub Whole : (ℕ → ℕ → Slot) → List Placing → Type 0
Whole slot ps = (k : ℕ) → k + 1 < length ps → (g : Held) × (slot (placing_at ps (k + 1)).bucket (placing_at ps (k + 1)).spot ≡ some g)

-- what is known of the steps of a plan of m moves
pub record Made (z : Sizes) (slot : ℕ → ℕ → Slot) (m : ℕ) (ps : List Placing) : Type 0 where
  pub fit : Fit z ps
  pub whole : Whole slot ps
  pub moves : length ps ≡ m + 1

abbrev pub MadeIf : Sizes → (ℕ → ℕ → Slot) → ℕ → CodeOption (ShortList Placing) → Type 0
MadeIf z slot m (Some p) = Made z slot m p.items
MadeIf z slot m None = Unit {0}
