-- Lists of numbers that are settings of their kind fit.
use Rattle.std.proofs.Common.{◌≡◌, ℕ, zero, suc, ◌-◌, ◌<◌, ◌≤◌, true, List, [], ◌∷◌, length, get_or, refl, arith}
use Rattle.std.proofs.lemmas.Bool.{and_from}
use Rattle.shared.specs.Limits.{between}
use Rattle.shared.specs.Forms.{times_fits, series_fits}
use Rattle.shared.specs.Notice.{Kind, small, setting_form}
use Rattle.shared.proofs.Words.{between-from}

small-fits : (k : ℕ) (vs : List ℕ) → length vs ≡ k → ((i : ℕ) → get_or vs i 0 < 65536) → times_fits small k vs ≡ true
small-fits zero [] l h = refl
small-fits zero (v ∷ vs) l h = absurd (omega arith)
small-fits (suc k) [] l h = absurd (omega arith)
small-fits (suc k) (v ∷ vs) l h = and_from (between 0 65535 v) (times_fits small k vs) (between-from 0 65535 v (omega arith) (omega (arith, h 0))) (small-fits k vs (omega arith) (λ i. h (suc i)))

pub setting_fits : (kind : Kind) (vs : List ℕ) → 1 ≤ kind.count → length vs ≡ kind.count → ((i : ℕ) → get_or vs i 0 < 65536) → kind.lawful vs ≡ true → (setting_form kind).fits vs ≡ true
setting_fits kind [] some even low own = absurd (omega arith)
setting_fits kind (v ∷ vs) some even low own =
    and_from (series_fits small (kind.count - 1) (v ∷ vs)) (kind.lawful (v ∷ vs))
    (and_from (between 0 65535 v) (times_fits small (kind.count - 1) vs) (between-from 0 65535 v (omega arith) (omega (arith, low 0))) (small-fits (kind.count - 1) vs (omega arith) (λ i. low (suc i)))) own
