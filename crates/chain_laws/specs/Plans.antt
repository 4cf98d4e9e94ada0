-- The plan of an enter: its steps worked out over the slots and rows as they are before the call, with nothing written.
use Rattle.std.specs.Prelude.{◌≡◌, ℕ, ◌-◌, Bool, false, ◌||◌, List, [], ◌∷◌, ◌++◌, map, nat_le, nat_lt}
use Rattle.std.proofs.Math.Option.{Option, some}
use Rattle.shared.specs.declared.sizes.Sizes.{Sizes}
use Rattle.shared.specs.Book.{Held, Slot, Book, part_of, contents, empty_slot, seed_for, value_at, other, turned, book_after, placed}
use Rattle.shared.specs.Graph.{flipped}
use Rattle.shared.specs.Kinds.{Hash}
use Rattle.shared.specs.Lists.{memb, kept, at, at2, ◌then◌}
use Rattle.shared.specs.Notice.{Setting, Step, bucket}
use Rattle.shared.specs.Table.{Part, too_many, overflows}
use Rattle.chain_laws.specs.Chains.{Chain}

-- One step: the bucket and the slot that a part goes into, the part with its setting, and the bucket's seed then.
pub record Placement : Type 0 where
  pub into : ℕ
  pub spot : ℕ
  pub held : Held
  pub seed : ℕ

abbrev pub placement : ℕ → ℕ → Held → ℕ → Placement
placement j i h s = record { into = j; spot = i; held = h; seed = s }

-- what bucket j holds once h is in its slot i
abbrev pub filled : (ℕ → ℕ → Slot) → ℕ → ℕ → Held → List Held
filled slot j i h = contents (at2 slot j i (some h)) j

module _ (z : Sizes) (hash : Hash) where
  abbrev pub seed_at : (ℕ → ℕ → Slot) → ℕ → ℕ → Held → Option ℕ
  seed_at slot j i h = seed_for hash (map part_of (filled slot j i h))

  -- The placements that bring h into bucket j along a chain's slots, from its far end; none where a bucket has no seed.
  abbrev pub planned : (ℕ → ℕ → Slot) → ℕ → Held → List ℕ → Option (List Placement)
  planned slot j h [] = empty_slot slot j then (λ i. seed_at slot j i h then (λ s. some (placement j i h s ∷ [])))
  planned slot j h (i ∷ is) =
      slot j i then (λ g. planned slot (other z hash g.0 j) g is then (λ ps. seed_at slot j i h then (λ s. some (ps ++ (placement j i h s ∷ [])))))

module _ (z : Sizes) (hash : Hash) (blank : Setting) where
  -- the step of a placement into a bucket that then holds hs, with the places ts turned over
  abbrev pub step_with : Placement → List Held → List ℕ → Step
  step_with p hs ts =
      bucket p.into p.seed (map (value_at hash blank p.seed hs) (0 ∷ 1 ∷ 2 ∷ 3 ∷ []))
      (kept (λ q. nat_lt q z.a) ts)
      (map (λ q. q - z.a) (kept (λ q. nat_le z.a q) ts))

  -- the same with the slots as they were before the call
  abbrev pub step_over : (ℕ → ℕ → Slot) → Placement → List ℕ → Step
  step_over slot p ts = step_with p (filled slot p.into p.spot p.held) ts

  abbrev pub steps_over : (ℕ → ℕ → Slot) → List Placement → List (List ℕ) → List Step
  steps_over slot [] tss = []
  steps_over slot (p ∷ ps) [] = []
  steps_over slot (p ∷ ps) (ts ∷ tss) = step_over slot p ts ∷ steps_over slot ps tss

  module _ (before : List Part) where
    -- the places that each placement turns over, in the rows that those before it left
    abbrev pub turns : (ℕ → Bool) → List Placement → List (List ℕ)
    turns row [] = []
    turns row (p ∷ ps) = let ts = turned z hash blank before row p.into p.held.0 in ts ∷ turns (flipped (λ q. memb q ts) row) ps

    -- the book after the placements
    abbrev pub played : Book → List Placement → Book
    played b [] = b
    played b (p ∷ ps) = played (book_after z hash blank before b p.into p.spot p.held p.seed) ps

    -- the book and the notice's steps
    abbrev pub outcome_of : Book → List Placement → Book × List Step
    outcome_of b ps = (played b ps, steps_over b.slot ps (turns b.row ps))

-- what slots, rows and seeds are after some placements, and after the places that each of them turns over
abbrev pub slots_after : (ℕ → ℕ → Slot) → List Placement → ℕ → ℕ → Slot
slots_after slot [] = slot
slots_after slot (p ∷ ps) = slots_after (at2 slot p.into p.spot (some p.held)) ps

abbrev pub seeds_after : (ℕ → ℕ) → List Placement → ℕ → ℕ
seeds_after seed [] = seed
seeds_after seed (p ∷ ps) = seeds_after (at seed p.into p.seed) ps

abbrev pub row_after : (ℕ → Bool) → List (List ℕ) → ℕ → Bool
row_after row [] = row
row_after row (ts ∷ tss) = row_after (flipped (λ q. memb q ts) row) tss

-- after some placement more entries are used than there are
abbrev pub spills : Sizes → (ℕ → ℕ) → List Placement → Bool
spills z seed [] = false
spills z seed (p ∷ ps) = let after = at seed p.into p.seed in too_many z after || spills z after ps

-- The rules' steps along a chain are those of the plan, and nothing comes of them exactly where there is no plan.
abbrev pub PlanStands : Type 0
PlanStands =
    (z : Sizes) (hash : Hash) (blank : Setting) (before : List Part) (b : Book) (j : ℕ) (h : Held) (is : List ℕ) → Chain z hash b.slot is j (j ∷ [])
    → placed z hash blank before b j h is ≡ (planned z hash b.slot j h is then (λ ps. some (outcome_of z hash blank before b ps)))

-- They use too many overflow entries exactly where the plan does.
abbrev pub PlanSpills : Type 0
PlanSpills =
    (z : Sizes) (hash : Hash) (blank : Setting) (before : List Part) (b : Book) (ps : List Placement)
    → overflows z b.seed (outcome_of z hash blank before b ps).1 ≡ spills z b.seed ps

-- The book afterwards, part by part.
abbrev pub PlanPlays : Type 0
PlanPlays =
    (z : Sizes) (hash : Hash) (blank : Setting) (before : List Part) (b : Book) (ps : List Placement)
    → played z hash blank before b ps ≡ record { slot = slots_after b.slot ps; row = row_after b.row (turns z hash blank before b.row ps); seed = seeds_after b.seed ps; number = b.number }
