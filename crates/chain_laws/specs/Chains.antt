-- Chains (cuckoo paths), as a relation.
use Rattle.std.specs.Prelude.{◌≡◌, ℕ, ◌<◌, ◌≤◌, ◌⊎◌, ◌↔◌, List, [], ◌∷◌, length, ◌≢◌}
use Rattle.std.proofs.Math.Option.{none, some}
use Rattle.shared.specs.declared.sizes.Sizes.{Sizes}
use Rattle.shared.specs.Book.{Held, Slot, other, most_moves, chain}
use Rattle.shared.specs.Kinds.{Hash}
use Rattle.shared.specs.Lists.{Among}
use Rattle.shared.specs.Table.{Part, h0, h1}

-- the slots xs come before ys, or are the same
abbrev pub Lower : List ℕ → List ℕ → Type 0
Lower [] ys = Unit {0}
Lower (x ∷ xs) [] = ⊥
Lower (x ∷ xs) (y ∷ ys) = (x < y) ⊎ ((x ≡ y) × Lower xs ys)

module _ (z : Sizes) (hash : Hash) where
  -- A chain from bucket j that empties the slots `is`. Each move takes the part in a slot to that part's other bucket, which
  -- is none of those seen so far; the last bucket has an empty slot.
  abbrev pub Chain : (ℕ → ℕ → Slot) → List ℕ → ℕ → List ℕ → Type 0
  Chain slot [] j seen = (i : ℕ) × (i < 4) × (slot j i ≡ none)
  Chain slot (i ∷ is) j seen =
      (g : Held) × (i < 4) × (slot j i ≡ some g) × (Among (other z hash g.0 j) seen → ⊥) × Chain slot is (other z hash g.0 j) (other z hash g.0 j ∷ seen)

  -- A chain for a part, given by its first bucket and its slots, begins at one of the part's two buckets.
  pub record ChainFor (slot : ℕ → ℕ → Slot) (k : Part) (c : ℕ × List ℕ) : Type 0 where
    pub side : (c.0 ≡ h0 z hash k) ⊎ (c.0 ≡ h1 z hash k)
    pub few : length c.1 ≤ most_moves
    pub moves : Chain slot c.1 c.0 (c.0 ∷ [])

  -- c comes before d, or is d: fewer moves count first, then the part's first bucket, then the least slots
  abbrev pub Precedes : Part → ℕ × List ℕ → ℕ × List ℕ → Type 0
  Precedes k c d =
      (length c.1 < length d.1) ⊎
      ((length c.1 ≡ length d.1) × (((c.0 ≡ h0 z hash k) × (d.0 ≢ h0 z hash k)) ⊎ ((c.0 ≡ d.0) × Lower c.1 d.1)))

  -- the chain that the book uses: the first of all
  pub record Used (slot : ℕ → ℕ → Slot) (k : Part) (c : ℕ × List ℕ) : Type 0 where
    pub own : ChainFor slot k c
    pub first : (d : ℕ × List ℕ) → ChainFor slot k d → Precedes k c d

-- The search finds the chain that the book uses, and nothing exactly where there is none.
abbrev pub ChainLaw : Type 0
ChainLaw =
    (z : Sizes) (hash : Hash) (slot : ℕ → ℕ → Slot) (k : Part) →
    ((c : ℕ × List ℕ) → (chain z hash slot k ≡ some c) ↔ Used z hash slot k c) ×
    ((chain z hash slot k ≡ none) ↔ ((c : ℕ × List ℕ) → ChainFor z hash slot k c → ⊥))
