-- Folds over bytes.
use Rattle.std.specs.Prelude.{◌≡◌, ℕ, ◌<◌, List, [], ◌∷◌, fold, map, refl}
use Rattle.std.proofs.Common.{sym, ap, ◌∙◌}
use Rattle.std.proofs.lemmas.List.{map-id}

-- a fold whose every step is below n stays below n
pub folded_below : (f : ℕ → ℕ → ℕ) (n : ℕ) → ((h b : ℕ) → f h b < n) → (bs : List ℕ) (h : ℕ) → h < n → fold f h bs < n
folded_below f n low [] h l = l
folded_below f n low (b ∷ bs) h l = folded_below f n low bs (f h b) (low h b)

-- what is seen of a fold is the fold of what is seen
pub folded_seen : {A B X : Type 0} (see : A → B) (f : A → X → A) (g : B → X → B) → ((a : A) (x : X) → see (f a x) ≡ g (see a) x) → (xs : List X) (a : A) → see (fold f a xs) ≡ fold g (see a) xs
folded_seen see f g same [] a = refl
folded_seen see f g same (x ∷ xs) a = folded_seen see f g same xs (f a x) ∙ ap (λ b. fold g b xs) (same a x)

module _ {A X : Type 0} (f : A → X → A) where
  fold_after : (x : X) (xs : List X) (states : List A) → map (λ s. fold f s xs) (map (λ s. f s x) states) ≡ map (λ s. fold f s (x ∷ xs)) states
  fold_after x xs [] = refl
  fold_after x xs (s ∷ states) = ap (λ (rest : List A). fold f (f s x) xs ∷ rest) (fold_after x xs states)

  -- states that step side by side are folded each
  pub fold-map : (xs : List X) (states : List A) → fold (λ ss x. map (λ s. f s x) ss) states xs ≡ map (λ s. fold f s xs) states
  fold-map [] states = sym (map-id states)
  fold-map (x ∷ xs) states = fold-map xs (map (λ s. f s x) states) ∙ fold_after x xs states
