-- Ascending places, as a loop reads them.
use Rattle.std.proofs.Common.{◌≡◌, ℕ, zero, suc, ◌+◌, ◌<◌, true, false, cond, List, [], ◌∷◌, length, drop, Ok, Err, Result, sym, refl, ap, ◌∙◌, ⊎_elim, arith}
use Rattle.std.proofs.lemmas.List.{at_drop_all}
use Rattle.std.proofs.lemmas.Bool.{cond-true, cond-false, both_ways, cases_lt}
use Rattle.shared.specs.declared.refusal.Fault.{Fault}
use Rattle.shared.specs.Tokens.{mark, Space, Close, token_of, size, is_mark}
use Rattle.shared.specs.Forms.{and_then, wrong, num_at, tok_at, ascending_at}
use Rattle.shared_text.specs.Events.{Event, flip}
use Rattle.shared_notice.specs.Walks.{beside, walked, flips}
use Rattle.shared_notice.proofs.Walks.{then_at}

-- a space stands before the text's end
pub space_inside : (text : List ℕ) (at : ℕ) → is_mark Space (token_of (drop at text)) ≡ true → at < length text
space_inside text at s = ⊎_elim (λ h. h) (λ h. absurd (both_ways (is_mark Space (token_of (drop at text))) (ap (is_mark Space) (at_drop_all token_of text at h)) s)) (cases_lt at (length text))

walked-cons : {V : Type 0} (after : V → Event → V) (v : V) (n : ℕ) (r : Result (List ℕ × ℕ) Fault) → walked after flips v (and_then r (λ y. Ok (n ∷ y.0, y.1))) ≡ walked after flips (after v (flip n)) r
walked-cons after v n (Ok y) = refl
walked-cons after v n (Err e) = refl

walked_none : {V : Type 0} (after : V → Event → V) (v : V) (r : Result ℕ Fault) → walked after flips v (and_then r (λ p. Ok ([], p))) ≡ beside v r
walked_none after v (Ok p) = refl
walked_none after v (Err e) = refl

-- the walk at `at` is in line with the walk from the start, whose outcome is r
abbrev pub Along : {V : Type 0} → (V → Event → V) → List ℕ → V → ℕ → ℕ → Result (V × ℕ) Fault → Type 0
Along after text v low at r = (k : ℕ) × (length text < at + k) × (walked after flips v (ascending_at k low 65535 text at) ≡ r)

module _ {V : Type 0} (after : V → Event → V) (text : List ℕ) (v : V) (low at : ℕ) (r : Result (V × ℕ) Fault) where
  pub along_more : (n to : ℕ) → at < to → is_mark Space (token_of (drop at text)) ≡ true → num_at low 65535 text (at + 1) ≡ Ok (n, to) → Along after text v low at r → Along after text (after v (flip n)) (n + 1) to r
  along_more n to m s e (zero, l, h) = absurd (omega (arith, space_inside text at s))
  along_more n to m s e (suc k, l, h) = (
    k,
    omega arith,
    sym (ap (walked after flips v) (cond-true (is_mark Space (token_of (drop at text))) _ _ s ∙ then_at (num_at low 65535 text (at + 1)) (Ok (n, to)) _ e) ∙ walked-cons after v n (ascending_at k (n + 1) 65535 text to)) ∙ h,
  )

  pub along_stops : (d : Fault) → is_mark Space (token_of (drop at text)) ≡ true → num_at low 65535 text (at + 1) ≡ Err d → Along after text v low at r → Err d ≡ r
  along_stops d s e (zero, l, h) = absurd (omega (arith, space_inside text at s))
  along_stops d s e (suc k, l, h) =
      sym (ap (walked after flips v) (cond-true (is_mark Space (token_of (drop at text))) _ _ s ∙ then_at (num_at low 65535 text (at + 1)) (Err d) _ e)) ∙ h

  pub along_ends : is_mark Space (token_of (drop at text)) ≡ false → Along after text v low at r → beside v (tok_at (mark Close) text at) ≡ r
  along_ends s (zero, l, h) =
      let e = at_drop_all token_of text at (omega arith) in
      ap (λ t. beside v (cond (is_mark Close t) (Ok (at + size t)) (wrong t at))) e ∙ sym (ap (λ t. walked after flips v (wrong t at)) e) ∙ h
  along_ends s (suc k, l, h) =
      sym (ap (walked after flips v) (cond-false (is_mark Space (token_of (drop at text))) _ _ s) ∙ walked_none after v (tok_at (mark Close) text at)) ∙ h
