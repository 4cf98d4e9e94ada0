-- What the searches of an enter mean: the seed of a step, and the places that a step flips.
use Rattle.std.specs.Prelude.{◌≡◌, ℕ, ◌+◌, ◌<◌, Bool, not, ◌↔◌, List, [], ◌∷◌, ◌==◌, ◌≢◌}
use Rattle.std.proofs.Math.Option.{none, some}
use Rattle.shared.specs.declared.sizes.Sizes.{Sizes}
use Rattle.shared.specs.Book.{Held, Book, seed_for, turned, step_for}
use Rattle.shared.specs.Graph.{Joined, bit_of}
use Rattle.shared.specs.Kinds.{Hash}
use Rattle.shared.specs.Lists.{Among}
use Rattle.shared.specs.Notice.{Setting, Step, bucket, single}
use Rattle.shared.specs.Table.{Part, h0, edge, slot_of}
use Rattle.graph_laws.specs.Graphs.{others_edges}

-- no two of the parts share a slot under the seed
abbrev pub Apart : Hash → ℕ → List Part → Type 0
Apart hash s [] = Unit {0}
Apart hash s (k ∷ ks) = ((q : Part) → Among q ks → slot_of hash s k ≢ slot_of hash s q) × Apart hash s ks

-- the least seed from 0 to 255 that keeps the parts apart
pub record LeastSeed (hash : Hash) (ks : List Part) (s : ℕ) : Type 0 where
  pub low : s < 256
  pub works : Apart hash s ks
  pub least : (r : ℕ) → r < s → Apart hash r ks → ⊥

-- The search finds the least seed, and nothing exactly where no seed works.
abbrev pub SeedLaw : Type 0
SeedLaw =
    (hash : Hash) (ks : List Part) →
    ((s : ℕ) → (seed_for hash ks ≡ some s) ↔ LeastSeed hash ks s) × ((seed_for hash ks ≡ none) ↔ ((s : ℕ) → s < 256 → Apart hash s ks → ⊥))

-- A part that comes to bucket j needs the bit 0 where j is its first bucket, else 1. WrongBit says that it has the other.
abbrev pub WrongBit : Sizes → Hash → (ℕ → Bool) → ℕ → Part → Type 0
WrongBit z hash row j k = bit_of row (edge z hash k) ≡ not (h0 z hash k == j) → ⊥

-- the places that a step flips: of row a, and of row b
abbrev pub flipped_a : Step → List ℕ
flipped_a (bucket j s vs pa pb) = pa
flipped_a (single j i v) = []

abbrev pub flipped_b : Step → List ℕ
flipped_b (bucket j s vs pa pb) = pb
flipped_b (single j i v) = []

-- Where the bit of the part that comes is wrong, and only there, places turn: exactly those of the two rows that the edges of
-- the parts standing before, its own left out, join to its place in row b. The step lists them by row.
pub record Flips (z : Sizes) (hash : Hash) (blank : Setting) (before : List Part) (b : Book) (j i : ℕ) (h : Held) (s : ℕ) : Type 0 where
  pub places : (p : ℕ) → Among p (turned z hash blank before b.row j h.0) ↔ (WrongBit z hash b.row j h.0 × (p < z.a + z.b) × Joined (others_edges (edge z hash) h.0 before) (edge z hash h.0).1 p)
  pub listed_a : (x : ℕ) → Among x (flipped_a (step_for z hash blank before b j i h s)) ↔ ((x < z.a) × Among x (turned z hash blank before b.row j h.0))
  pub listed_b : (y : ℕ) → Among y (flipped_b (step_for z hash blank before b j i h s)) ↔ Among (z.a + y) (turned z hash blank before b.row j h.0)

abbrev pub FlipLaw : Type 0
FlipLaw = (z : Sizes) (hash : Hash) (blank : Setting) (before : List Part) (b : Book) (j i : ℕ) (h : Held) (s : ℕ) → Flips z hash blank before b j i h s
