-- What each single write to memory does to the table that it shows.
use Rattle.std.specs.Prelude.{◌≡◌, ℕ, ◌+◌, ◌*◌, ◌<◌, ◌≤◌, List, length, slice_set}
use Rattle.shared.specs.declared.sizes.Sizes.{Sizes}
use Rattle.shared.specs.Notice.{Setting}
use Rattle.shared.specs.Table.{fresh_table}
use Rattle.shared_bits.specs.Bits.{flip_at}
use Rattle.shared_overflow.specs.declared.Entry.{Entry}
use Rattle.shared_table.specs.Memory.{Memory, memory, view, cleared, Sound, SeedSet}
use Rattle.shared_table.specs.Passes.{seed_put, setting_put, place_turned, FourSlots, EventsApply}

-- a seed set, and nothing else
abbrev pub SeedShown : {S : Type 0} → (S → List ℕ) → Setting → Type 0
SeedShown {S} numbers blank =
    (z : Sizes) (m : Memory S) (seeds : List ℕ) (over : List Entry) (j s : ℕ) → SeedSet m.seeds m.over seeds over j s →
    view numbers blank z (memory m.settings m.rowa m.rowb seeds over m.number) ≡ seed_put (view numbers blank z m) j s

-- a setting written, and nothing else
abbrev pub SettingShown : {S : Type 0} → (S → List ℕ) → Setting → Type 0
SettingShown {S} numbers blank =
    (z : Sizes) (m : Memory S) (j i : ℕ) (v : S) → i < 4 → 4 * j + 4 ≤ length m.settings →
    view numbers blank z (memory (slice_set m.settings (4 * j + i) v) m.rowa m.rowb m.seeds m.over m.number)
    ≡ setting_put (view numbers blank z m) j i (numbers v)

-- a bit of row a turned over, and nothing else
abbrev pub FlipAShown : {S : Type 0} → (S → List ℕ) → Setting → Type 0
FlipAShown {S} numbers blank =
    (z : Sizes) (m : Memory S) (p : ℕ) → p < z.a → p < 8 * length m.rowa →
    view numbers blank z (memory m.settings (flip_at m.rowa p) m.rowb m.seeds m.over m.number)
    ≡ place_turned (view numbers blank z m) p

-- a bit of row b turned over, and nothing else
abbrev pub FlipBShown : {S : Type 0} → (S → List ℕ) → Setting → Type 0
FlipBShown {S} numbers blank =
    (z : Sizes) (m : Memory S) (p : ℕ) → p < 8 * length m.rowb →
    view numbers blank z (memory m.settings m.rowa (flip_at m.rowb p) m.seeds m.over m.number)
    ≡ place_turned (view numbers blank z m) (z.a + p)

-- a seed set keeps the overflow entries sound; the other writes leave both seeds and entries alone
abbrev pub SoundKept : Type 0
SoundKept =
    (n : ℕ) (seeds : List ℕ) (over : List Entry) (seeds_after : List ℕ) (over_after : List Entry) (j s : ℕ) → j < n →
    Sound n seeds over → SeedSet seeds over seeds_after over_after j s → Sound n seeds_after over_after

-- cleared memory shows the fresh table, and is sound
abbrev pub ClearedFresh : {S : Type 0} → (S → List ℕ) → Setting → Type 0
ClearedFresh {S} numbers blank =
    (z : Sizes) (m : Memory S) (v : S) → numbers v ≡ blank →
    (view numbers blank z (cleared v m) ≡ fresh_table blank) × Sound z.buckets (cleared v m).seeds (cleared v m).over

-- the laws of memory seen as a table, over a setting kind's numbers and blank
pub record TableLaws {S : Type 0} (numbers : S → List ℕ) (blank : Setting) : Type 0 where
  pub seeds : SeedShown numbers blank
  pub settings : SettingShown numbers blank
  pub flips_a : FlipAShown numbers blank
  pub flips_b : FlipBShown numbers blank
  pub sound : SoundKept
  pub fresh : ClearedFresh numbers blank
  -- memory shows nothing past the fourth slot, as the last law asks
  pub four : (z : Sizes) (m : Memory S) → FourSlots blank (view numbers blank z m)
  pub events : EventsApply
