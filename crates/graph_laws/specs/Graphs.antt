-- What edges join, and what a forest of the parts' edges allows.
use Rattle.std.specs.Prelude.{◌≡◌, ℕ, Bool, true, not, ◌⊎◌, ◌↔◌, List, ◌∷◌, map, ◌≢◌}
use Rattle.shared.specs.Graph.{Edge, Joined, joins, bit_of, flipped, without, Forest}
use Rattle.shared.specs.Lists.{Among, same_list}
use Rattle.shared.specs.Table.{Part}

-- the test passes exactly the places that a walk along the edges joins
abbrev pub JoinsDecides : Type 0
JoinsDecides = (es : List Edge) (x y : ℕ) → (joins es x y ≡ true) ↔ Joined es x y

-- the edges of all parts but one
abbrev pub others_edges : (Part → Edge) → Part → List Part → List Edge
others_edges edge k ps = map edge (without same_list k ps)

-- In a forest, turning over every place that the others' edges join to an end of k's edge changes k's bit, and no other
-- part's.
abbrev pub FlipTurnsOne : Type 0
FlipTurnsOne =
    (edge : Part → Edge) (ps : List Part) → Forest same_list edge ps →
    (k : Part) → Among k ps → (end : ℕ) → (end ≡ (edge k).0) ⊎ (end ≡ (edge k).1) →
    (hit : ℕ → Bool) → ((p : ℕ) → (hit p ≡ true) ↔ Joined (others_edges edge k ps) end p) →
    (row : ℕ → Bool) →
    (bit_of (flipped hit row) (edge k) ≡ not (bit_of row (edge k))) ×
    ((q : Part) → Among q ps → (q ≢ k) → bit_of (flipped hit row) (edge q) ≡ bit_of row (edge q))

-- One more part, whose places the others do not join, leaves a forest.
abbrev pub ForestGrows : Type 0
ForestGrows =
    (edge : Part → Edge) (ps : List Part) (n : Part) → Forest same_list edge ps →
    (Joined (map edge ps) (edge n).0 (edge n).1 → ⊥) → Forest same_list edge (n ∷ ps)

-- One part fewer leaves a forest.
abbrev pub ForestShrinks : Type 0
ForestShrinks =
    (edge : Part → Edge) (ps : List Part) (k : Part) → Forest same_list edge ps → Forest same_list edge (without same_list k ps)

pub record GraphLaws : Type 0 where
  pub decides : JoinsDecides
  pub flips : FlipTurnsOne
  pub grows : ForestGrows
  pub shrinks : ForestShrinks
