-- A notice's steps applied piece by piece, as a pass over its text meets them, with no step stored.
use Rattle.std.specs.Prelude.{◌≡◌, ℕ, ◌+◌, ◌≤◌, Bool, true, false, cond, ◌&&◌, List, [], ◌∷◌, length, ◌==◌, nat_eq}
use Rattle.shared.specs.declared.sizes.Sizes.{Sizes}
use Rattle.shared.specs.Graph.{flipped}
use Rattle.shared.specs.Lists.{apart, at, at2}
use Rattle.shared.specs.Notice.{Setting, Step, bucket, single}
use Rattle.shared.specs.Table.{Table, within, applied_all}
use Rattle.shared_text.specs.Events.{Event, begin_bucket, setting_at, row_a, row_b, flip, end_bucket, slot_step, events_of}

-- One write to a table: a bucket's seed, a slot's setting, a place turned over.
abbrev pub seed_put : Table → ℕ → ℕ → Table
seed_put t j s = record { setting = t.setting; row = t.row; seed = at t.seed j s; number = t.number }

abbrev pub setting_put : Table → ℕ → ℕ → Setting → Table
setting_put t j i v = record { setting = at2 t.setting j i v; row = t.row; seed = t.seed; number = t.number }

abbrev pub place_turned : Table → ℕ → Table
place_turned t p = record { setting = t.setting; row = flipped (λ q. nat_eq q p) t.row; seed = t.seed; number = t.number }

-- A table midway through a notice, with the bucket that is being rewritten, and whether its flips are now those of row b.
pub record Midst : Type 0 where
  pub table : Table
  pub current : ℕ
  pub second : Bool

-- the place p of the row that is meant
abbrev pub place_in : Sizes → Bool → ℕ → ℕ
place_in z second p = cond second (z.a + p) p

module _ (z : Sizes) where
  -- what one piece does
  abbrev pub event_done : Midst → Event → Midst
  event_done m (begin_bucket j s) = record { table = seed_put m.table j s; current = j; second = m.second }
  event_done m (setting_at i v) = record { table = setting_put m.table m.current i v; current = m.current; second = m.second }
  event_done m row_a = record { table = m.table; current = m.current; second = false }
  event_done m row_b = record { table = m.table; current = m.current; second = true }
  event_done m (flip p) = record { table = place_turned m.table (place_in z m.second p); current = m.current; second = m.second }
  event_done m end_bucket = m
  event_done m (slot_step j i v) = record { table = setting_put m.table j i v; current = m.current; second = m.second }

  -- what the pieces do, one after the other
  abbrev pub events_done : Midst → List Event → Midst
  events_done m [] = m
  events_done m (e ∷ es) = events_done (event_done m e) es

-- each bucket step has four settings, and no place twice in a list, as every notice that is read has
abbrev pub shaped : List Step → Bool
shaped [] = true
shaped (bucket j s vs pa pb ∷ ss) = length vs == 4 && apart pa && apart pb && shaped ss
shaped (single j i v ∷ ss) = shaped ss

-- a table with nothing past the fourth slot, as memory shows it
abbrev pub FourSlots : Setting → Table → Type 0
FourSlots blank t = (j i : ℕ) → 4 ≤ i → t.setting j i ≡ blank

-- Steps inside the sizes, applied piece by piece, come to the rules' table after them.
abbrev pub EventsApply : Type 0
EventsApply =
    (z : Sizes) (blank : Setting) (m : Midst) → FourSlots blank m.table →
    (steps : List Step) → within z steps ≡ true → shaped steps ≡ true →
    (events_done z m (events_of steps)).table ≡ applied_all z blank m.table steps
