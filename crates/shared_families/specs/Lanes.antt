-- Pearson's four lanes side by side.
use Rattle.std.specs.Prelude.{ℕ}
use Rattle.shared_families.specs.declared.pearson.Lanes.{Lanes}
use Rattle.shared_families.specs.Hashes.{lane_step, packed}

-- each lane absorbs the byte
abbrev pub lanes_step : Lanes → ℕ → Lanes
lanes_step l b = record { first = lane_step l.first b; second = lane_step l.second b; third = lane_step l.third b; fourth = lane_step l.fourth b }

abbrev pub lanes_number : Lanes → ℕ
lanes_number l = packed l.first l.second l.third l.fourth
