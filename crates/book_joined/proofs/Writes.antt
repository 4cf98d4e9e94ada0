-- Pairs that are written one by one, told by their index.
use Rattle.std.proofs.Common.{◌≡◌, ℕ, suc, ◌<◌, cond, List, [], ◌∷◌, map, length, get_or, refl, ap₂, arith}
use Rattle.std.specs.Prelude.{Option, None}
use Rattle.shared.specs.Table.{Part}
use Rattle.book_slots.specs.declared.Held.{Held}
use Rattle.book_slots.specs.Slots.{holds}
use Rattle.book_joined.specs.Ends.{pair, leaving}

module _ {P S : Type 0} where
  -- if each is what f says of its slot, they are f of the slots
  pub map-each : (f : Option (Held P S) → List ℕ) (xs : List (Option (Held P S))) (es : List (List ℕ)) → length es ≡ length xs → ((k : ℕ) → k < length xs → get_or es k [] ≡ f (get_or xs k None)) → es ≡ map f xs
  map-each f [] [] e h = refl
  map-each f [] (y ∷ es) e h = absurd (omega arith)
  map-each f (x ∷ xs) [] e h = absurd (omega arith)
  map-each f (x ∷ xs) (y ∷ es) e h = ap₂ (λ (a : List ℕ) (l : List (List ℕ)). a ∷ l) (h 0 (omega arith)) (map-each f xs es (omega arith) (λ k l. h (suc k) (omega arith)))

  -- if each is as it was, or place 0 twice where the slot holds the part, the part is left out
  pub leaving-each : (bytes : P → List ℕ) (p : Part) (xs : List (Option (Held P S))) (es ks : List (List ℕ)) → length es ≡ length xs → length ks ≡ length xs
      → ((k : ℕ) → k < length xs → get_or ks k [] ≡ cond (holds bytes p (get_or xs k None)) (pair (0, 0)) (get_or es k [])) → ks ≡ leaving bytes p xs es
  unfolding leaving
  leaving-each bytes p [] es [] d e h = refl
  leaving-each bytes p [] es (y ∷ ks) d e h = absurd (omega arith)
  leaving-each bytes p (x ∷ xs) [] ks d e h = absurd (omega arith)
  leaving-each bytes p (x ∷ xs) (z ∷ es) [] d e h = absurd (omega arith)
  leaving-each bytes p (x ∷ xs) (z ∷ es) (y ∷ ks) d e h =
      ap₂ (λ (a : List ℕ) (l : List (List ℕ)). a ∷ l) (h 0 (omega arith)) (leaving-each bytes p xs es ks (omega arith) (omega arith) (λ k l. h (suc k) (omega arith)))
