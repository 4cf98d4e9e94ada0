-- What the overflow entries say of a bucket, in whatever order they stand.
use Rattle.std.specs.Prelude.{◌≡◌, ℕ, ◌+◌, Bool, false, cond, ◌&&◌, ◌≢◌, List, length, count_by, ◌==◌}
use Rattle.std.specs.List.{find}
use Rattle.std.specs.Option.{option_map_or}
use Rattle.shared_overflow.specs.declared.Entry.{Entry}

-- the entry that says nothing
abbrev pub unused : Entry
unused = record { bucket = 0; seed = 0; used = false }

-- the entry is used, and for bucket j
abbrev pub mine : ℕ → Entry → Bool
mine j e = e.used && e.bucket == j

-- 1 where it holds, else 0
abbrev pub one : Bool → ℕ
one b = cond b 1 0

-- the seed of bucket j's first entry, or 0 where it has none
abbrev pub seed_in : List Entry → ℕ → ℕ
seed_in es j = option_map_or (λ e. e.seed) (find (mine j) es) 0

-- how many entries bucket j has
abbrev pub times : List Entry → ℕ → ℕ
times es j = count_by (mine j) es

-- how many entries are used
abbrev pub used_in : List Entry → ℕ
used_in es = count_by (λ e. e.used) es

-- Bucket j has one entry, with seed s, and what is said of every other bucket is as before.
pub record Put (es after : List Entry) (j s : ℕ) : Type 0 where
  pub seed : seed_in after j ≡ s
  pub once : times after j ≡ 1
  pub seeds : (k : ℕ) → k ≢ j → seed_in after k ≡ seed_in es k
  pub others : (k : ℕ) → k ≢ j → times after k ≡ times es k
  pub count : used_in after + times es j ≡ used_in es + 1
  pub long : length after ≡ length es

-- Bucket j has none, and what is said of every other bucket is as before.
pub record Freed (es after : List Entry) (j : ℕ) : Type 0 where
  pub none : times after j ≡ 0
  pub seeds : (k : ℕ) → k ≢ j → seed_in after k ≡ seed_in es k
  pub others : (k : ℕ) → k ≢ j → times after k ≡ times es k
  pub count : used_in after + times es j ≡ used_in es
  pub long : length after ≡ length es
