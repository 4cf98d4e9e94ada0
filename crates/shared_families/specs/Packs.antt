-- The lanes side by side are the four lanes, and their number is below 2^32.
use Rattle.std.specs.Prelude.{◌≡◌, ℕ, ◌+◌, ◌*◌, ◌/◌, ◌^◌, ◌<◌, List, fold, bit_xor, refl}
use Rattle.std.proofs.Common.{mod-lt, arith, lit<}
use Rattle.shared_families.specs.declared.pearson.Lanes.{Lanes}
use Rattle.shared_families.specs.Hashes.{lane, lane_step, pearson, seeded}
use Rattle.shared_families.specs.Lanes.{lanes_step, lanes_number}
use Rattle.shared_families.specs.Folds.{folded_below, folded_seen}

-- lanes that have absorbed the seed's bytes and the part's pack to the family's number
pub lanes_packed : (s : ℕ) (k : List ℕ) → lanes_number (fold lanes_step (record { first = 0; second = 1; third = 2; fourth = 3 }) (seeded s k)) ≡ pearson s k
lanes_packed s k =
    let start : Lanes = record { first = 0; second = 1; third = 2; fourth = 3 } in
    let a = folded_seen (λ (l : Lanes). l.first) lanes_step lane_step (λ l b. refl) (seeded s k) start in
    let b = folded_seen (λ (l : Lanes). l.second) lanes_step lane_step (λ l b. refl) (seeded s k) start in
    let c = folded_seen (λ (l : Lanes). l.third) lanes_step lane_step (λ l b. refl) (seeded s k) start in
    let d = folded_seen (λ (l : Lanes). l.fourth) lanes_step lane_step (λ l b. refl) (seeded s k) start in
    cc

lane_low : (start : ℕ) (bytes : List ℕ) → start < 256 → lane start bytes < 256
lane_low start bytes h = folded_below lane_step 256 (λ l b. mod-lt (bit_xor l b * (bit_xor l b + 1) / 2) (lit< tt)) bytes start h

pub pearson-low : (s : ℕ) (bytes : List ℕ) → pearson s bytes < 2 ^ 32
pearson-low s bytes =
    let a = lane_low 0 (seeded s bytes) (lit< tt) in
    let b = lane_low 1 (seeded s bytes) (lit< tt) in
    let c = lane_low 2 (seeded s bytes) (lit< tt) in
    let d = lane_low 3 (seeded s bytes) (lit< tt) in
    omega arith
