-- A text copied to the front of clear cells.
use Rattle.std.proofs.Common.{◌≡◌, ℕ, zero, suc, ◌-◌, ◌≤◌, List, ◌++◌, length, get_or, take, drop, replicate, ap, refl, ◌∙◌}
use Rattle.std.proofs.lemmas.List.{get_or-append_right, get_or-drop, take_at}

get_or-clear : (n i z : ℕ) → get_or (replicate n z) i z ≡ z
get_or-clear zero i z = refl
get_or-clear (suc n) zero z = refl
get_or-clear (suc n) (suc i) z = get_or-clear n i z

module _ (text front : List ℕ) (same : front ≡ text) where
  pub take-copied : (rest : List ℕ) → take (length text) (front ++ rest) ≡ text
  take-copied rest = take_at front rest (length text) (ap length same) ∙ same

  pub clear_behind : (n z i : ℕ) → length text ≤ i → get_or (front ++ drop (length text) (replicate n z)) i z ≡ z
  clear_behind n z i h =
      get_or-append_right front (drop (length text) (replicate n z)) (length text) i z (ap length same) h
      ∙ get_or-drop (length text) (replicate n z) (i - length text) z ∙ get_or-clear n _ z
