-- What a bucket's four slots give, one after the other.
use Rattle.std.proofs.Common.{◌≡◌, ℕ, zero, suc, ◌+◌, ◌<◌, ◌≤◌, List, [], ◌∷◌, drop, refl, arith, drop_of_length-le}

-- what f gives for the four slots
abbrev pub four : {A : Type 0} → (ℕ → A) → List A
four f = f 0 ∷ f 1 ∷ f 2 ∷ f 3 ∷ []

pub four-more : {A : Type 0} (f : ℕ → A) (k : ℕ) → k < 4 → drop k (four f) ≡ f k ∷ drop (k + 1) (four f)
four-more f zero h = refl
four-more f (suc zero) h = refl
four-more f (suc (suc zero)) h = refl
four-more f (suc (suc (suc zero))) h = refl
four-more f (suc (suc (suc (suc k)))) h = absurd (omega arith)

pub four-end : {A : Type 0} (f : ℕ → A) (k : ℕ) → 4 ≤ k → drop k (four f) ≡ []
four-end f k h = drop_of_length-le (four f) {i = k} (omega arith)
