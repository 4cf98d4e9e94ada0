-- The plan of an enter in code, as the placements of the rules; and its steps with the places that words of flags name.
use Rattle.std.specs.Prelude.{ℕ, ◌+◌, ◌-◌, ◌/◌, ◌%◌, ◌^◌, ◌<◌, ◌≤◌, Bool, cond, List, [], ◌∷◌, map, length, ◌==◌, slice_index, slice_index_or}
use Rattle.std.proofs.Math.Option.{none, some}
use Rattle.shared.specs.declared.sizes.Sizes.{Sizes}
use Rattle.shared.specs.Book.{Held, Slot, value_at}
use Rattle.shared.specs.Kinds.{Hash}
use Rattle.shared.specs.Lists.{up_from, kept}
use Rattle.shared.specs.Notice.{Setting, Step, bucket}
use Rattle.chain_laws.specs.Plans.{Placement, placement, filled}
use Rattle.book_steps.specs.declared.plan.Placing.{Placing}

-- the step at k; past the last, one that means nothing
abbrev pub placing_at : List Placing → ℕ → Placing
placing_at ps k = slice_index_or ps k (record { bucket = 0; spot = 0; seed = 0 })

-- there is a step, and at most five; every step is for a bucket and a slot that exist
pub record Fit (z : Sizes) (ps : List Placing) : Type 0 where
  pub some : 0 < length ps
  pub few : length ps ≤ 5
  pub into : (k : ℕ) → k < length ps → (placing_at ps k).bucket < z.buckets
  pub spot : (k : ℕ) → k < length ps → (placing_at ps k).spot < 4

-- what a slot holds, or else h
abbrev pub held_or : Held → Slot → Held
held_or h none = h
held_or h (some g) = g

-- What comes into the bucket of step k: in the last step the new part, and before it the part that the next step's slot holds.
abbrev pub held_at : (ℕ → ℕ → Slot) → List Placing → Held → ℕ → Held
held_at slot ps h k = cond (k + 1 == length ps) h (held_or h (slot (placing_at ps (k + 1)).bucket (placing_at ps (k + 1)).spot))

abbrev pub placement_at : (ℕ → ℕ → Slot) → List Placing → Held → ℕ → Placement
placement_at slot ps h k = placement (placing_at ps k).bucket (placing_at ps k).spot (held_at slot ps h k) (placing_at ps k).seed

abbrev pub placements_of : (ℕ → ℕ → Slot) → List Placing → Held → List Placement
placements_of slot ps h = map (placement_at slot ps h) (up_from 0 (length ps))

-- whether the place's word has the flag of step k
abbrev pub flagged : List ℕ → ℕ → ℕ → Bool
flagged words k p = slice_index words p / 2 / 2 ^ k % 2 == 1

-- the flagged ones of n places from the first on, counted from that
abbrev pub flagged_from : List ℕ → ℕ → ℕ → ℕ → List ℕ
flagged_from words k first n = map (λ p. p - first) (kept (flagged words k) (up_from first n))

module _ (z : Sizes) (hash : Hash) (blank : Setting) (slot : ℕ → ℕ → Slot) (ps : List Placing) (h : Held) (words : List ℕ) where
  -- the settings of step k, slot by slot
  abbrev pub values_at : ℕ → ℕ → Setting
  values_at k i = let p = placement_at slot ps h k in value_at hash blank p.seed (filled slot p.into p.spot p.held) i

  unfoldable pub shown_step : ℕ → Step
  shown_step k =
      bucket (placing_at ps k).bucket (placing_at ps k).seed (map (values_at k) (0 ∷ 1 ∷ 2 ∷ 3 ∷ []))
      (flagged_from words k 0 z.a)
      (flagged_from words k z.a z.b)

  abbrev pub shown_steps : List Step
  shown_steps = map shown_step (up_from 0 (length ps))
