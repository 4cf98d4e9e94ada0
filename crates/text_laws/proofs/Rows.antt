-- The fault of ascending places. The reader bounds their count by the text's length; they never reach that bound.
use Rattle.std.proofs.Common.{◌≡◌, ℕ, zero, suc, ◌+◌, ◌^◌, ◌<◌, ◌≤◌, Bool, true, false, cond, List, [], ◌∷◌, length, drop, Ok, Err, Result, sym, refl, ap, ◌∙◌, subst, ⊎_elim, add-one, arith}
use Rattle.std.proofs.lemmas.Bool.{cond-true, cond-false, cases_Bool}
use Rattle.shared.specs.declared.refusal.Fault.{Fault}
use Rattle.shared.specs.Tokens.{Close, Space, Tok, mark, token_of, size, is_mark}
use Rattle.shared.specs.Forms.{Reading, and_then, cause_of, wrong, tok_at, num_at, num, ascending_at, ascending}
use Rattle.text_laws.specs.Faults.{reach}
use Rattle.text_laws.proofs.Readings.{then_same, seq_at, mark_is, mark_same}
use Rattle.text_laws.proofs.Inverses.{num-inverse}
use Rattle.text_laws.proofs.Agrees.{at_agree, long_agree, toks_within}
use Rattle.text_laws.proofs.Points.{Shows, Points, Steady, form_steady, token_shows, then_shows, map-shows, num-points}

space_within : (text : List ℕ) (at : ℕ) → at ≤ length text → is_mark Space (token_of (drop at text)) ≡ true → at + 1 ≤ length text
space_within text at h s = toks_within text at (at + 1) (mark Space ∷ []) (mark_is Space (token_of (drop at text)) s, refl) h

-- a closing bracket has to stand there
abbrev closes : Bool → Tok → ℕ → Result (List ℕ × ℕ) Fault
closes b t at = and_then (cond b (Ok (at + size t)) (wrong t at)) (λ p. Ok ([], p))

only : (t : Tok) (at : ℕ) (f : Fault) (b : Bool) → closes b t at ≡ Err f → f ≡ record { place = at; cause = cause_of t }
only t at f true e = let z : ◌≡◌ {A = ℕ} 0 1 = cc in absurd (omega arith)
only t at f false e = cc

module _ (high : ℕ) (b : high < 2 ^ 64) where
  steady : (low : ℕ) → Steady (num_at low high) (λ x. x.1)
  steady low = form_steady (num low high) (num-inverse low high b)

  -- a bound on the count that is large enough does not matter
  fuels : (fuel more low : ℕ) (text : List ℕ) (at : ℕ) → at ≤ length text → length text < at + fuel → length text < at + more → ascending_at fuel low high text at ≡ ascending_at more low high text at
  fuels zero more low text at h l m = absurd (omega arith)
  fuels (suc fuel) zero low text at h l m = absurd (omega arith)
  fuels (suc fuel) (suc more) low text at h l m =
      ⊎_elim
      (λ s.
      cond-true (is_mark Space (token_of (drop at text))) _ _ s
      ∙ then_same (num_at low high text (at + 1)) (λ x. and_then (ascending_at fuel (x.0 + 1) high text x.1) (λ y. Ok (x.0 ∷ y.0, y.1))) (λ x. and_then (ascending_at more (x.0 + 1) high text x.1) (λ y. Ok (x.0 ∷ y.0, y.1)))
      (λ x d.
      let near = (steady low).far text (at + 1) x d in
      let far = (steady low).within text (at + 1) x d (space_within text at h s) in
      ap (λ r. and_then r (λ y. Ok (x.0 ∷ y.0, y.1))) (fuels fuel more (x.0 + 1) text x.1 far (omega arith) (omega arith)))
      ∙ sym (cond-true (is_mark Space (token_of (drop at text))) _ _ s))
      (λ s. cond-false (is_mark Space (token_of (drop at text))) _ _ s ∙ sym (cond-false (is_mark Space (token_of (drop at text))) _ _ s))
      (cases_Bool (is_mark Space (token_of (drop at text))))

  -- the reader of a row, from a least place on
  abbrev row : ℕ → Reading (List ℕ × ℕ)
  row low text at = ascending_at (length text + 1) low high text at

  -- behind a space stand a place and the rest of the row; else the row ends
  row-space : (low : ℕ) (text : List ℕ) (at : ℕ) → at ≤ length text → is_mark Space (token_of (drop at text)) ≡ true → row low text at ≡ seq_at (num_at low high) (λ n. row (n + 1)) (λ n ns. n ∷ ns) text (at + 1)
  row-space low text at h s =
      ap (λ k. ascending_at k low high text at) (add-one (length text))
      ∙ cond-true (is_mark Space (token_of (drop at text))) _ _ s
      ∙ then_same (num_at low high text (at + 1)) (λ x. and_then (ascending_at (length text) (x.0 + 1) high text x.1) (λ y. Ok (x.0 ∷ y.0, y.1))) (λ x. and_then (row (x.0 + 1) text x.1) (λ y. Ok (x.0 ∷ y.0, y.1)))
      (λ x d.
      let near = (steady low).far text (at + 1) x d in
      let far = (steady low).within text (at + 1) x d (space_within text at h s) in
      ap (λ r. and_then r (λ y. Ok (x.0 ∷ y.0, y.1))) (fuels (length text) (length text + 1) (x.0 + 1) text x.1 far (omega arith) (omega arith)))

  row-close : (low : ℕ) (text : List ℕ) (at : ℕ) → is_mark Space (token_of (drop at text)) ≡ false → row low text at ≡ and_then (tok_at (mark Close) text at) (λ p. Ok ([], p))
  row-close low text at s = ap (λ k. ascending_at k low high text at) (add-one (length text)) ∙ cond-false (is_mark Space (token_of (drop at text))) _ _ s

  module _ (J : List ℕ → ℕ → ℕ → Type 0) where
    -- `fuel` bounds the bytes that are left
    row_shows : (fuel low : ℕ) (text : List ℕ) (at : ℕ) (f : Fault) → at ≤ length text → length text < at + fuel → row low text at ≡ Err f → Shows J (row low) text at f
    row_shows zero low text at f h l e = absurd (omega arith)
    row_shows (suc fuel) low text at f h l e =
        ⊎_elim
        (λ s.
        let w = space_within text at h s in
        let b = then_shows J (num_at low high) (λ x. x.1) (λ x text at. and_then (row (x.0 + 1) text at) (λ y. Ok (x.0 ∷ y.0, y.1))) (num-points J low high) (steady low) text (at + 1) f w
        (λ x d c.
        let near = (steady low).far text (at + 1) x d in
        map-shows J (row (x.0 + 1)) (λ y. (x.0 ∷ y.0, y.1)) text x.1 f (row_shows fuel (x.0 + 1) text x.1 f ((steady low).within text (at + 1) x d w) (omega arith)) c)
        (sym (row-space low text at h s) ∙ e) in
        record {
          from = omega (arith, b.from);
          within = b.within;
          upto = b.upto;
          past = b.past;
          told = b.told;
          same = λ other a.
              let t = mark_is Space (token_of (drop at text)) s in
              let near : at + reach (token_of (drop at text)) ≤ b.upto = subst (λ u. at + reach u ≤ b.upto) (sym t) (omega (arith, b.from, b.past)) in
              row-space low other at (long_agree text other at b.upto h (omega (arith, b.from, b.past)) a) (mark_same Space (token_of (drop at other)) (sym (at_agree text other at b.upto near a) ∙ t)) ∙ b.same other a;
        })
        (λ s.
        let t = token_of (drop at text) in
        let d = sym (row-close low text at s) ∙ e in
        token_shows J (row low) text at f h (only t at f (is_mark Close t) d) (λ other _ u. row-close low other at (ap (is_mark Space) (sym u) ∙ s) ∙ ap (λ v. closes (is_mark Close v) v at) (sym u) ∙ d))
        (cases_Bool (is_mark Space (token_of (drop at text))))

    pub row-points : Points J (ascending high).reads
    row-points = record { shows = λ text at f h e. row_shows (length text + 1) 0 text at f h (omega arith) e }
