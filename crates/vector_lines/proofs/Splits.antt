-- An input cut into lines, at the first line's end.
use Rattle.std.proofs.Common.{◌≡◌, ℕ, suc, ◌+◌, ◌<◌, ◌≤◌, true, false, cond, not, eqb, List, [], ◌∷◌, ◌++◌, length, take, drop, sym, refl, ap, ◌∙◌, ⊎_elim, arith}
use mathlib.Core.Option.{none}
use Rattle.std.proofs.lemmas.List.{append_assoc, append-nil}
use Rattle.std.proofs.lemmas.Bool.{cond-true, cond-false, cases_Bool}
use Rattle.line_forms.specs.Fronts.{first_index}
use Rattle.vector_lines.specs.Lines.{line_hash, line_text, unfinished, text_of_lines}

module _ (b : ℕ) (bs : List ℕ) where
  first-here : eqb b 10 ≡ true → first_index 10 (b ∷ bs) ≡ 0
  first-here t = ap (λ v. cond (not v) (1 + first_index 10 bs) 0) t

  first-behind : eqb b 10 ≡ false → first_index 10 (b ∷ bs) ≡ suc (first_index 10 bs)
  first-behind t = ap (λ v. cond (not v) (1 + first_index 10 bs) 0) t ∙ omega arith

-- what is printed where the line that has begun with `line` ends at `i`
abbrev pub cut_at : ℕ → List ℕ → List ℕ → List ℕ
cut_at i line rest = line_text (line_hash (line ++ take i rest)) ++ text_of_lines [] (drop (i + 1) rest)

cut-behind : (i : ℕ) (line : List ℕ) (b : ℕ) (rest : List ℕ) → cut_at i (line ++ (b ∷ [])) rest ≡ cut_at (suc i) line (b ∷ rest)
cut-behind i line b rest =
    let more : suc (i + 1) ≡ suc i + 1 = omega arith in
    ap (λ l. line_text (line_hash l) ++ text_of_lines [] (drop (i + 1) rest)) (append_assoc line (b ∷ []) (take i rest))
    ∙ ap (λ k. line_text (line_hash (line ++ take (suc i) (b ∷ rest))) ++ text_of_lines [] (drop k (b ∷ rest))) more

pub text_of_lines-cut : (line rest : List ℕ) → first_index 10 rest < length rest → text_of_lines line rest ≡ cut_at (first_index 10 rest) line rest
unfolding text_of_lines
text_of_lines-cut line [] h = absurd (omega arith)
text_of_lines-cut line (b ∷ bs) h =
    ⊎_elim
    (λ t.
    cond-true (eqb b 10) (line_text (line_hash line) ++ text_of_lines [] bs) (text_of_lines (line ++ (b ∷ [])) bs) t
    ∙ ap (λ l. line_text (line_hash l) ++ text_of_lines [] bs) (sym (append-nil line))
    ∙ ap (λ i. cut_at i line (b ∷ bs)) (sym (first-here b bs t)))
    (λ t.
    let behind = first-behind b bs t in
    cond-false (eqb b 10) (line_text (line_hash line) ++ text_of_lines [] bs) (text_of_lines (line ++ (b ∷ [])) bs) t
    ∙ text_of_lines-cut (line ++ (b ∷ [])) bs (omega (arith, behind, h))
    ∙ cut-behind (first_index 10 bs) line b bs
    ∙ ap (λ i. cut_at i line (b ∷ bs)) (sym behind))
    (cases_Bool (eqb b 10))

pub text_of_lines-rest : (line rest : List ℕ) → length rest ≤ first_index 10 rest → text_of_lines line rest ≡ unfinished (line ++ rest)
unfolding text_of_lines
text_of_lines-rest line [] h = ap unfinished (sym (append-nil line))
text_of_lines-rest line (b ∷ bs) h =
    ⊎_elim
    (λ t. absurd (omega (arith, first-here b bs t, h)))
    (λ t.
    cond-false (eqb b 10) (line_text (line_hash line) ++ text_of_lines [] bs) (text_of_lines (line ++ (b ∷ [])) bs) t
    ∙ text_of_lines-rest (line ++ (b ∷ [])) bs (omega (arith, first-behind b bs t, h))
    ∙ ap unfinished (append_assoc line (b ∷ []) bs))
    (cases_Bool (eqb b 10))

pub unfinished-some : (line : List ℕ) → 0 < length line → unfinished line ≡ line_text none
unfinished-some [] h = absurd (omega arith)
unfinished-some (b ∷ line) h = refl

pub unfinished-none : (line : List ℕ) → length line ≤ 0 → unfinished line ≡ []
unfinished-none [] h = refl
unfinished-none (b ∷ line) h = absurd (omega arith)

pub ruleset lines = (text_of_lines-cut, text_of_lines-rest, unfinished-some, unfinished-none, append_assoc, append-nil)
