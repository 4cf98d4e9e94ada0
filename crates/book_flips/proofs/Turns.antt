-- Turns of a plan, one placement more.
use Rattle.std.proofs.Common.{◌≡◌, ℕ, suc, ◌<◌, Bool, true, false, cond, eqb, List, [], ◌∷◌, ◌++◌, length, get_or, sym, refl, ap, ◌∙◌, ap₂}
use Rattle.shared.specs.declared.sizes.Sizes.{Sizes}
use Rattle.shared.specs.Book.{turned}
use Rattle.shared.specs.Graph.{flipped}
use Rattle.shared.specs.Kinds.{Hash}
use Rattle.shared.specs.Lists.{memb}
use Rattle.shared.specs.Notice.{Setting}
use Rattle.shared.specs.Table.{Part}
use Rattle.chain_laws.specs.Plans.{row_after, Placement, turns}
use Rattle.book_flips.specs.Words.{word_of, Words, stamped_word, stamped_at}
use Rattle.book_flips.proofs.Words.{word_more}

module _ (z : Sizes) (hash : Hash) (blank : Setting) (before : List Part) where
  -- the last of some placements turns over what it must in the rows that the others left
  pub turns_more : (ps : List Placement) (p : Placement) (row : ℕ → Bool)
      → turns z hash blank before row (ps ++ (p ∷ [])) ≡ turns z hash blank before row ps ++ (turned z hash blank before (row_after row (turns z hash blank before row ps)) p.into p.held.0 ∷ [])
  turns_more [] p row = refl
  turns_more (q ∷ ps) p row =
      let ts = turned z hash blank before row q.into q.held.0 in
      ap (λ (l : List (List ℕ)). ts ∷ l) (turns_more ps p (flipped (λ w. memb w ts) row))

  pub length-turns : (ps : List Placement) (row : ℕ → Bool) → length (turns z hash blank before row ps) ≡ length ps
  length-turns [] row = refl
  length-turns (p ∷ ps) row = ap suc (length-turns ps (flipped (λ w. memb w (turned z hash blank before row p.into p.held.0)) row))

module _ (n : ℕ) (row : ℕ → Bool) (tss : List (List ℕ)) (words : List ℕ) (own : Words n row tss words) where
  -- the words once the marked places are stamped
  pub words_stamped : (ts marks after : List ℕ) → ((p : ℕ) → p < n → get_or marks p 0 ≡ cond (memb p ts) 1 0) → ((p : ℕ) → p < n → get_or after p 0 ≡ stamped_at words marks (length tss) p) → Words n row (tss ++ (ts ∷ [])) after
  words_stamped ts marks after m e p h =
      e p h
      ∙ ap₂ (λ (x w : ℕ). cond (eqb x 1) (stamped_word w (length tss)) w) (m p h) (own p h)
      ∙ go (memb p ts)
      ∙ sym (word_more row tss ts p (memb p ts) refl)
    where
      go : (b : Bool) → cond (eqb (cond b 1 0) 1) (stamped_word (word_of row tss p) (length tss)) (word_of row tss p) ≡ cond b (stamped_word (word_of row tss p) (length tss)) (word_of row tss p)
      go true = refl
      go false = refl

  -- and where a step turns nothing over
  pub words_kept : Words n row (tss ++ ([] ∷ [])) words
  words_kept p h = own p h ∙ sym (word_more row tss [] p false refl)
