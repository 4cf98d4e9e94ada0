-- What turning places over does to the words.
use Rattle.std.specs.Prelude.{◌≡◌, ℕ, ◌+◌, ◌^◌, ◌<◌, Bool, List, [], ◌∷◌, ◌++◌, length, slice_index}
use Rattle.shared.specs.declared.sizes.Sizes.{Sizes}
use Rattle.shared.specs.Book.{turned}
use Rattle.shared.specs.Kinds.{Hash}
use Rattle.shared.specs.Notice.{Setting}
use Rattle.shared.specs.Table.{Part}
use Rattle.chain_laws.specs.Plans.{row_after, Placement, turns}
use Rattle.book_flips.specs.Words.{Words}

-- a bit and the flags of five steps, with room to spare
abbrev pub Low : List ℕ → Type 0
Low words = (p : ℕ) → p < length words → slice_index words p < 2 ^ 16

-- Whatever the rows were and whatever the steps before turned over: if the words say so, they say then what this step turns
-- over too, which brings the part k into bucket j.
abbrev pub TurnsOne : Sizes → Hash → Setting → List Part → ℕ → ℕ → Part → List ℕ → List ℕ → Type 0
TurnsOne z hash blank before step j k words after =
    (row : ℕ → Bool) (tss : List (List ℕ)) → length tss ≡ step → Words (z.a + z.b) row tss words
    → Words (z.a + z.b) row (tss ++ (turned z hash blank before (row_after row tss) j k ∷ [])) after

-- words that hold a bit each
abbrev pub Bits : List ℕ → Type 0
Bits words = (p : ℕ) → p < length words → slice_index words p < 2

-- Whatever the rows were: if each word had its bit, it has then its bit and its flags as the placements leave them.
abbrev pub TurnsAll : Sizes → Hash → Setting → List Part → List Placement → List ℕ → List ℕ → Type 0
TurnsAll z hash blank before ps words after = (row : ℕ → Bool) → Words (z.a + z.b) row [] words → Words (z.a + z.b) row (turns z hash blank before row ps) after
