-- The places of a part in code, as the rules have them.
use Rattle.std.specs.Prelude.{◌≡◌, ℕ, ◌+◌, ◌<◌, cond, ◌==◌}
use Rattle.shared.specs.declared.sizes.Sizes.{Sizes}
use Rattle.shared.specs.Kinds.{Hash}
use Rattle.shared.specs.Table.{Part, h0, h1, edge}
use Rattle.shared_places.specs.declared.Places.{Places}

-- the places are the part's, and so inside the sizes
pub record Placed (z : Sizes) (hash : Hash) (k : Part) (p : Places) : Type 0 where
  pub first : p.first ≡ h0 z hash k
  pub second : p.second ≡ h1 z hash k
  pub a : p.a ≡ (edge z hash k).0
  pub b : p.b ≡ (edge z hash k).1
  pub low_first : p.first < z.buckets
  pub low_second : p.second < z.buckets
  pub low_a : p.a < z.a
  pub low_b : p.b < z.a + z.b

-- the other of the two buckets
abbrev pub other_of : Places → ℕ → ℕ
other_of p j = cond (p.first == j) p.second p.first
