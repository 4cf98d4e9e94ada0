-- What the plan of an enter comes to.
use Rattle.std.specs.Prelude.{◌≡◌, ℕ, ◌+◌, ◌<◌, ◌≤◌, false, List, [], map, length, Ok, Err, Result, ◌≢◌}
use Rattle.std.proofs.Math.Option.{Option, none, some}
use Rattle.short_list.specs.Lists.{ShortList}
use Rattle.shared.specs.declared.refusal.Refusal.{Refusal}
use Rattle.shared.specs.declared.sizes.Sizes.{Sizes}
use Rattle.shared.specs.Answers.{number_of, values_of}
use Rattle.shared.specs.Book.{Held, Slot, Book, Outcome, refused, done, raised, called, enter, part_of, standing, chain}
use Rattle.shared.specs.Kinds.{Hash}
use Rattle.shared.specs.Notice.{Setting, Kind}
use Rattle.shared.specs.Table.{Part}
use Rattle.chain_laws.specs.Plans.{Placement, planned, turns, outcome_of, spills}
use Rattle.book_flips.specs.Words.{Words}
use Rattle.book_notice.specs.Lengths.{notice_length}
use Rattle.book_steps.specs.declared.plan.Placing.{Placing}
use Rattle.book_steps.specs.Plans.{placing_at, Fit, placements_of, shown_steps}

-- the placements along the chain that the rules choose, 7 where there is no chain, and 9 where a step has no seed
abbrev pub seeds_found : Option (List Placement) → Result (List Placement) ℕ
seeds_found none = Err 9
seeds_found (some ps) = Ok ps

abbrev pub along_chain : Sizes → Hash → (ℕ → ℕ → Slot) → Held → Option (ℕ × List ℕ) → Result (List Placement) ℕ
along_chain z hash slot h none = Err 7
along_chain z hash slot h (some c) = seeds_found (planned z hash slot c.0 h c.1)

abbrev pub placements_for : Sizes → Hash → (ℕ → ℕ → Slot) → Held → Result (List Placement) ℕ
placements_for z hash slot h = along_chain z hash slot h (chain z hash slot h.0)

-- a plan as the rules' placements, and a refusal as its number
abbrev pub placements_in : (ℕ → ℕ → Slot) → Held → Result (ShortList Placing) Refusal → Result (List Placement) ℕ
placements_in slot h (Ok p) = Ok (placements_of slot p.items h)
placements_in slot h (Err e) = Err (number_of e)

-- no two steps are for one bucket
abbrev pub Apart : List Placing → Type 0
Apart ps = (i k : ℕ) → i < k → k < length ps → (placing_at ps i).bucket ≢ (placing_at ps k).bucket

-- what is known of a plan that was found
pub record Sure (z : Sizes) (ps : List Placing) : Type 0 where
  pub fit : Fit z ps
  pub apart : Apart ps

abbrev pub SureIf : Sizes → Result (ShortList Placing) Refusal → Type 0
SureIf z (Ok p) = Sure z p.items
SureIf z (Err e) = values_of e ≡ []

-- the parts that stand in a book
abbrev pub parts_of : Sizes → Book → List Part
parts_of z b = map part_of (standing z b.slot)

-- the outcome of an enter that goes by the plan, or is refused
abbrev pub outcome_by : Sizes → Hash → Setting → Book → Held → Result (ShortList Placing) Refusal → Outcome
outcome_by z hash blank b h (Ok p) = let r = outcome_of z hash blank (parts_of z b) b (placements_of b.slot p.items h) in done (raised r.0) r.1
outcome_by z hash blank b h (Err e) = refused (number_of e)

-- It is the rules' outcome of the call.
abbrev pub Planned : Sizes → Hash → Kind → Book → ℕ → Held → Result (ShortList Placing) Refusal → Type 0
Planned z hash kind b room h r = outcome_by z hash kind.blank b h r ≡ called z hash kind b room (enter h.0 h.1)

-- its steps never use more overflow entries than there are
abbrev pub Roomy : Sizes → (ℕ → ℕ) → List Placing → Type 0
Roomy z seed ps = (slot : ℕ → ℕ → Slot) (h : Held) → spills z seed (placements_of slot ps h) ≡ false

-- What is known of a plan that passed every check: it is sound, the words tell of every place which of its steps turn it over
-- and its bit after them all, and its notice fits.
pub record Passed (z : Sizes) (hash : Hash) (blank : Setting) (b : Book) (room : ℕ) (h : Held) (words : List ℕ) (ps : List Placing) : Type 0 where
  pub sure : Sure z ps
  pub roomy : Roomy z b.seed ps
  pub own : Words (z.a + z.b) b.row (turns z hash blank (parts_of z b) b.row (placements_of b.slot ps h)) words
  pub short : (kind : Kind) → notice_length kind (b.number + 1) (shown_steps z hash blank b.slot ps h words) ≤ room

-- a refusal carries nothing but its number
abbrev pub Turned : Sizes → Hash → Setting → Book → ℕ → Held → List ℕ → Result (ShortList Placing) Refusal → Type 0
Turned z hash blank b room h words (Ok p) = Passed z hash blank b room h words p.items
Turned z hash blank b room h words (Err e) = values_of e ≡ []
