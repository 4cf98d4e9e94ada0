-- A notice's steps, piece by piece, in the order of its text: what a pass over the text sees, with no step stored.
use Rattle.std.specs.Prelude.{ℕ, suc, List, [], ◌∷◌, ◌++◌, map}
use Rattle.shared.specs.Notice.{Setting, Step, bucket, single}

pub data Event : Type 0 where
  begin_bucket : (j s : ℕ) → Event
  setting_at : (i : ℕ) (v : Setting) → Event
  row_a row_b : Event
  flip : (p : ℕ) → Event
  end_bucket : Event
  slot_step : (j i : ℕ) (v : Setting) → Event

-- settings with their slots, from slot i on
abbrev pub settings_from : ℕ → List Setting → List Event
settings_from i [] = []
settings_from i (v ∷ vs) = setting_at i v ∷ settings_from (suc i) vs

abbrev pub step_events : Step → List Event
step_events (bucket j s vs pa pb) = begin_bucket j s ∷ (settings_from 0 vs ++ (row_a ∷ (map flip pa ++ (row_b ∷ (map flip pb ++ (end_bucket ∷ []))))))
step_events (single j i v) = slot_step j i v ∷ []

abbrev pub events_of : List Step → List Event
events_of [] = []
events_of (s ∷ ss) = step_events s ++ events_of ss
