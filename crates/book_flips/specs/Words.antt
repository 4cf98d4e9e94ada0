-- A word for each place of the rows, in which the plan of an enter keeps what its steps do to that place.
use Rattle.std.specs.Prelude.{◌≡◌, ℕ, ◌+◌, ◌-◌, ◌*◌, ◌/◌, ◌%◌, ◌^◌, ◌<◌, Bool, cond, List, [], ◌∷◌, ◌==◌, slice_index}
use Rattle.shared.specs.Lists.{memb}
use Rattle.chain_laws.specs.Plans.{row_after}

-- bit k tells whether step k turns the place over
abbrev pub flags : List (List ℕ) → ℕ → ℕ
flags [] p = 0
flags (ts ∷ tss) p = cond (memb p ts) 1 0 + 2 * flags tss p

-- a place's word: its bit as the steps leave it, and the steps' flags above
abbrev pub word_of : (ℕ → Bool) → List (List ℕ) → ℕ → ℕ
word_of row tss p = cond (row_after row tss p) 1 0 + 2 * flags tss p

-- every place below n has its word
abbrev pub Words : ℕ → (ℕ → Bool) → List (List ℕ) → List ℕ → Type 0
Words n row tss words = (p : ℕ) → p < n → slice_index words p ≡ word_of row tss p

-- the word once step k has turned its place over too
abbrev pub stamped_word : ℕ → ℕ → ℕ
stamped_word w k = 1 - w % 2 + 2 * (w / 2 + 2 ^ k)

-- the word after step k, which turns the marked places over
abbrev pub stamped_at : List ℕ → List ℕ → ℕ → ℕ → ℕ
stamped_at words marks k p = cond (slice_index marks p == 1) (stamped_word (slice_index words p) k) (slice_index words p)
