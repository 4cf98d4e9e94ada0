-- Seeds and overflow entries by the heads of steps.
use Rattle.std.specs.Prelude.{ℕ, Bool, true, false, ◌&&◌, ◌||◌, List, [], ◌∷◌, Some, None, Option}
use Rattle.shared.specs.declared.sizes.Sizes.{Sizes}
use Rattle.shared.specs.Lists.{at}
use Rattle.shared.specs.Table.{too_many}
use Rattle.take_digest.specs.declared.digest.Head.{Head}

abbrev pub head_bucket : Head → ℕ
head_bucket h = h.bucket

-- whether a step gives its bucket a seed, as one on the whole bucket does, and the seeds after it
abbrev pub gives : Option ℕ → Bool
gives None = false
gives (Some s) = true

abbrev pub given : (ℕ → ℕ) → ℕ → Option ℕ → ℕ → ℕ
given seed j None = seed
given seed j (Some s) = at seed j s

-- after some step that gives a seed more entries are used than there are
abbrev pub overflows_by : Sizes → (ℕ → ℕ) → List Head → Bool
overflows_by z seed [] = false
overflows_by z seed (h ∷ hs) =
    let after = given seed h.bucket h.seed in
    (gives h.seed && too_many z after) || overflows_by z after hs
