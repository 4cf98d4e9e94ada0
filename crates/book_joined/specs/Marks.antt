-- Marks on places, and edges given by the pairs of their ends.
use Rattle.std.specs.Prelude.{◌≡◌, ℕ, ◌+◌, ◌<◌, ◌≤◌, cond, List, [], ◌∷◌, map, length, slice_index, slice_index_or}
use Rattle.shared.specs.Graph.{Edge, Joined, joins}

-- the edges between the ends
abbrev pub edges_of : List (List ℕ) → List Edge
edges_of es = map (λ e. (slice_index e 0, slice_index e 1)) es

-- the two ends of edge k
abbrev pub first_end : List (List ℕ) → ℕ → ℕ
first_end es k = slice_index (slice_index_or es k []) 0

abbrev pub second_end : List (List ℕ) → ℕ → ℕ
second_end es k = slice_index (slice_index_or es k []) 1

-- the marks are 1 at the places that the edges join to s, and 0 at the others
abbrev pub Marked : List Edge → ℕ → List ℕ → Type 0
Marked es s m = (p : ℕ) → p < length m → slice_index m p ≡ cond (joins es s p) 1 0

-- how many marks are 1
unfoldable pub total : List ℕ → ℕ
total [] = 0
total (x ∷ xs) = x + total xs

-- s is marked, and what is marked is joined to s
pub record Good (es : List Edge) (s : ℕ) (m : List ℕ) : Type 0 where
  pub begun : slice_index_or m s 0 ≡ 1
  pub sound : (p : ℕ) → slice_index m p ≡ 1 → Joined es s p

-- each mark is 0 or 1
abbrev pub Binary : List ℕ → Type 0
Binary m = (p : ℕ) → slice_index m p ≤ 1

-- each of the first n edges has both ends marked, or neither
abbrev pub Even : List (List ℕ) → ℕ → List ℕ → Type 0
Even es n m = (k : ℕ) → k < n → slice_index m (first_end es k) ≡ slice_index m (second_end es k)

-- the ends of edges between n places
pub record Ready (es : List (List ℕ)) (n : ℕ) : Type 0 where
  pub low_a : (k : ℕ) → k < length es → first_end es k < n
  pub low_b : (k : ℕ) → k < length es → second_end es k < n
