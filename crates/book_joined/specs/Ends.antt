-- The ends of the edges of the parts in the slots.
use Rattle.std.specs.Prelude.{◌≡◌, ℕ, cond, List, [], ◌∷◌, map, Option, Some, None}
use Rattle.shared.specs.Graph.{Edge}
use Rattle.shared.specs.Table.{Part}
use Rattle.book_slots.specs.declared.Held.{Held}
use Rattle.book_slots.specs.Slots.{holds}

-- the edge of the slot's part; of an empty slot a loop at place 0, which joins nothing
abbrev pub ends : {P S : Type 0} → (Part → Edge) → (P → List ℕ) → Option (Held P S) → Edge
ends edge bytes None = (0, 0)
ends edge bytes (Some h) = edge (bytes h.part)

-- the ends of an edge as code holds them
abbrev pub pair : Edge → List ℕ
pair e = e.0 ∷ e.1 ∷ []

-- the list holds the ends of the slots' edges
abbrev pub Ends : {P S : Type 0} → (Part → Edge) → (P → List ℕ) → List (Option (Held P S)) → List (List ℕ) → Type 0
Ends edge bytes xs es = es ≡ map (λ x. pair (ends edge bytes x)) xs

-- the pairs, but place 0 twice at each slot that holds the part
unfoldable pub leaving : {P S : Type 0} → (P → List ℕ) → Part → List (Option (Held P S)) → List (List ℕ) → List (List ℕ)
leaving bytes k [] es = []
leaving bytes k (x ∷ xs) [] = []
leaving bytes k (x ∷ xs) (e ∷ es) = cond (holds bytes k x) (pair (0, 0)) e ∷ leaving bytes k xs es

-- the ends with one part left out
abbrev pub Left : {P S : Type 0} → (P → List ℕ) → Part → List (Option (Held P S)) → List (List ℕ) → List (List ℕ) → Type 0
Left bytes k xs es ks = ks ≡ leaving bytes k xs es
