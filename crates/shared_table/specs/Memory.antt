-- The packed memory of a controller, and the rules' table that it shows.
use Rattle.std.specs.Prelude.{◌≡◌, ℕ, ◌+◌, ◌-◌, ◌*◌, ◌/◌, ◌<◌, Bool, cond, ◌&&◌, List, map, length, replicate, ◌==◌, nat_lt, slice_index_or}
use Rattle.shared.specs.declared.sizes.Sizes.{Sizes}
use Rattle.shared.specs.Lists.{at, up_from}
use Rattle.shared.specs.Notice.{Setting}
use Rattle.shared.specs.Table.{Table, entries}
use Rattle.shared_bits.specs.Bits.{lit, field_of, put_field}
use Rattle.shared_overflow.specs.declared.Entry.{Entry}
use Rattle.shared_overflow.specs.Overflow.{one, seed_in, times, used_in, unused}

-- Four settings to a bucket, the two rows' bits, a field of five bits to a bucket, the overflow entries, and the number of
-- the last notice taken.
pub record Memory (S : Type 0) : Type 0 where
  pub settings : List S
  pub rowa : List ℕ
  pub rowb : List ℕ
  pub seeds : List ℕ
  pub over : List Entry
  pub number : ℕ

-- the memory of these lists
abbrev pub memory : {S : Type 0} → List S → List ℕ → List ℕ → List ℕ → List Entry → ℕ → Memory S
memory settings rowa rowb seeds over number =
    record { settings = settings; rowa = rowa; rowb = rowb; seeds = seeds; over = over; number = number }

-- the lengths are those of the sizes
abbrev pub fits : {S : Type 0} → Sizes → Memory S → Bool
fits z m =
    (length m.settings == 4 * z.buckets)
    && (length m.rowa == (z.a + 7) / 8
    && (length m.rowb == (z.b + 7) / 8
    && (length m.seeds == (5 * z.buckets + 7) / 8
    && length m.over == z.overflow)))

-- the seed of bucket j: its field, or its overflow entry's where the field is 31
abbrev pub seed_of : List ℕ → List Entry → ℕ → ℕ
seed_of seeds over j = cond (field_of seeds j == 31) (seed_in over j) (field_of seeds j)

-- the setting in slot i of bucket j, which is blank past the fourth slot and past the memory's end
abbrev pub setting_of : {S : Type 0} → (S → List ℕ) → Setting → List S → ℕ → ℕ → Setting
setting_of numbers blank settings j i = cond (nat_lt i 4) (slice_index_or (map numbers settings) (4 * j + i) blank) blank

-- both rows as one, row b past the a places of row a
abbrev pub row_of : ℕ → List ℕ → List ℕ → ℕ → Bool
row_of a rowa rowb p = cond (nat_lt p a) (lit rowa p) (lit rowb (p - a))

-- the table that the memory shows
abbrev pub view : {S : Type 0} → (S → List ℕ) → Setting → Sizes → Memory S → Table
view numbers blank z m = record {
  setting = setting_of numbers blank m.settings;
  row = row_of z.a m.rowa m.rowb;
  seed = seed_of m.seeds m.over;
  number = m.number;
}

-- A bucket has an entry exactly where its field is 31, then just one, and the entry's seed is over 30.
pub record Matched (seeds : List ℕ) (over : List Entry) : Type 0 where
  pub entry : (k : ℕ) → times over k ≡ one (field_of seeds k == 31)
  pub high : (k : ℕ) → field_of seeds k ≡ 31 → 30 < seed_in over k

-- and as many entries are used as of n buckets have a seed over 30
pub record Sound (n : ℕ) (seeds : List ℕ) (over : List Entry) : Type 0 where
  pub matched : Matched seeds over
  pub count : used_in over ≡ entries (seed_of seeds over) (up_from 0 n)

-- Bucket j has the seed s, and all other seeds are as before: the field's bits are written and no others, and the entries
-- match again, one more or one fewer as the seed asks.
pub record SeedSet (seeds : List ℕ) (over : List Entry) (seeds_after : List ℕ) (over_after : List Entry) (j s : ℕ) : Type 0 where
  pub bytes : seeds_after ≡ put_field seeds j (cond (nat_lt s 31) s 31)
  pub seed : seed_of seeds_after over_after ≡ at (seed_of seeds over) j s
  pub matched : Matched seeds_after over_after
  pub count : used_in over_after + one (nat_lt 30 (seed_of seeds over j)) ≡ used_in over + one (nat_lt 30 s)
  pub long : length over_after ≡ length over

-- memory of the same lengths with every byte 0, every entry unused, and one setting everywhere
abbrev pub cleared : {S : Type 0} → S → Memory S → Memory S
cleared v m =
    memory (replicate (length m.settings) v) (replicate (length m.rowa) 0) (replicate (length m.rowb) 0)
    (replicate (length m.seeds) 0) (replicate (length m.over) unused) 0
