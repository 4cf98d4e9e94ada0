-- The hash families.
use Rattle.std.specs.Prelude.{◌≡◌, ℕ, ◌+◌, ◌*◌, ◌/◌, ◌%◌, ◌^◌, ◌<◌, cond, List, [], ◌∷◌, fold, bit_xor, nat_lt}
use Rattle.shared.specs.Kinds.{Hash}

-- what a family hashes: the seed's high byte, its low byte, then the part's bytes
abbrev pub seeded : ℕ → List ℕ → List ℕ
seeded s k = s / 256 ∷ s % 256 ∷ k

-- the four seeds that place a part: 256 + 4·turn to 259 + 4·turn
abbrev pub place_seeds : ℕ → List ℕ
place_seeds turn = (256 + 4 * turn) ∷ (257 + 4 * turn) ∷ (258 + 4 * turn) ∷ (259 + 4 * turn) ∷ []

-- 32-bit FNV-1a: exclusive or with the byte, then multiply, keeping the low 32 bits
abbrev pub fnv_step : ℕ → ℕ → ℕ
fnv_step h b = bit_xor h b * 16777619 % 2 ^ 32

abbrev pub fnv_from : ℕ → List ℕ → ℕ
fnv_from h bytes = fold fnv_step h bytes

abbrev pub fnv_start : ℕ
fnv_start = 2166136261

-- plain FNV-1a of bytes, and the family
abbrev pub fnv1a : List ℕ → ℕ
fnv1a bytes = fnv_from fnv_start bytes

abbrev pub fnv : Hash
fnv s k = fnv1a (seeded s k)

-- Pearson's table: the triangular numbers mod 256, among which each byte value stands just once
abbrev pub triangular : ℕ → ℕ
triangular i = i * (i + 1) / 2 % 256

abbrev pub Permutes : (ℕ → ℕ) → Type 0
Permutes table = (v : ℕ) → v < 256 → (k : ℕ) × (k < 256) × (table k ≡ v) × ((j : ℕ) → j < 256 → table j ≡ v → j ≡ k)

-- one lane: absorbing a byte replaces it by the table's entry at its exclusive or with the byte
abbrev pub lane_step : ℕ → ℕ → ℕ
lane_step l b = triangular (bit_xor l b)

abbrev pub lane : ℕ → List ℕ → ℕ
lane start bytes = fold lane_step start bytes

-- four lanes as one number, lane 0 most significant
abbrev pub packed : ℕ → ℕ → ℕ → ℕ → ℕ
packed l0 l1 l2 l3 = l0 * 2 ^ 24 + l1 * 2 ^ 16 + l2 * 2 ^ 8 + l3

abbrev pub pearson : Hash
pearson s k = let bytes = seeded s k in packed (lane 0 bytes) (lane 1 bytes) (lane 2 bytes) (lane 3 bytes)

-- 0 for seeds below the start, else Pearson's number
abbrev pub held_back : ℕ → Hash
held_back start s k = cond (nat_lt s start) 0 (pearson s k)
