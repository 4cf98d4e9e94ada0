-- What each form of an input prints, and how the forms follow each other.
use Rattle.std.proofs.Common.{◌≡◌, ℕ, zero, suc, ◌+◌, ◌<◌, ◌≤◌, ltb, leb, List, [], ◌∷◌, ◌++◌, length, take, drop, Some, None, IsSome, Option as CodeOption, rules, Err, true, false, sym, refl, ap, ◌∙◌, ⊎_elim, arith, length-drop}
use mathlib.Core.Option.{Option, none, some}
use Rattle.std.proofs.lemmas.List.{append_assoc, append-nil, length-append, take_at}
use Rattle.std.proofs.lemmas.Bool.{cond-true, cond-false, cases_Bool, le-ltb}
use Rattle.line_forms.specs.Fronts.{first_index}
use Rattle.shared.specs.declared.refusal.Fault.{Fault}
use Rattle.shared.specs.Notice.{read_notice}
use Rattle.shared_pen.specs.Laws.{Finished}
use Rattle.letters.specs.declared.Head.{Head}
use Rattle.letters.specs.Counts.{Headed}
use Rattle.letters.specs.Letters.{trims, fault_text, read_text, letter_text, letter_length, bad_line, letter_of, form_of, text_of_forms, text_of_letters}
use Rattle.letters.proofs.Rewrites.{letter_own}

-- the notice at the front of the room
module _ (text before left : List ℕ) where
  pub notice_within : (len : ℕ) → Finished (letter_text text) before left (Some len) → len ≤ length left
  notice_within len f = omega (arith, f.0, ap length f.1 ∙ length-append (letter_text text) (drop len before))

  pub notice_front : (len : ℕ) → Finished (letter_text text) before left (Some len) → take len left ≡ letter_text text
  notice_front len f = ap (take len) f.1 ∙ take_at (letter_text text) (drop len before) len (sym f.0)

  pub finished_some : (head : Head) → Headed text head → length text ≤ length before → (r : CodeOption ℕ) → Finished (letter_text text) before left r → IsSome r
  finished_some head h l None f = let e = ap length (letter_own text head h) in absurd (omega (arith, e, f, l))
  finished_some head h l (Some len) f = search rules

pub letter_fault : (text : List ℕ) (f : Fault) → read_notice trims text ≡ Err f → fault_text f ≡ letter_text text
unfolding letter_text
letter_fault text f e = sym (ap read_text e)

-- what is behind a letter is no longer than what is behind its line
letter_of-shorter : (answer : Option ℕ) (rest : List ℕ) → length (letter_of answer rest).1 ≤ length rest
letter_of-shorter none rest = omega arith
letter_of-shorter (some len) rest =
    ⊎_elim
    (λ t. omega (arith, ap (λ (form : List ℕ × List ℕ). length form.1) (cond-true (leb len (length rest)) (letter_text (take len rest), drop len rest) (bad_line, []) t), length-drop len rest))
    (λ t. omega (arith, ap (λ (form : List ℕ × List ℕ). length form.1) (cond-false (leb len (length rest)) (letter_text (take len rest), drop len rest) (bad_line, []) t)))
    (cases_Bool (leb len (length rest)))

-- a line that has no end
pub form_of-last : (input : List ℕ) → length input ≤ first_index 10 input → form_of input ≡ (bad_line, [])
form_of-last input h = cond-false (ltb (first_index 10 input) (length input)) (letter_of (letter_length (take (first_index 10 input) input)) (drop (first_index 10 input + 1) input)) (bad_line, []) (le-ltb (first_index 10 input) (length input) h)

-- each form uses up a byte at least
pub form_of-shorter : (input : List ℕ) → 0 < length input → length (form_of input).1 < length input
form_of-shorter input h =
    let i = first_index 10 input in
    let letter = letter_of (letter_length (take i input)) (drop (i + 1) input) in
    ⊎_elim
    (λ t. omega (arith, ap (λ (form : List ℕ × List ℕ). length form.1) (cond-true (ltb i (length input)) letter (bad_line, []) t), letter_of-shorter (letter_length (take i input)) (drop (i + 1) input), length-drop (i + 1) input, h))
    (λ t. omega (arith, ap (λ (form : List ℕ × List ℕ). length form.1) (cond-false (ltb i (length input)) letter (bad_line, []) t), h))
    (cases_Bool (ltb i (length input)))

-- any two numbers that are no less than the input's length print the same of it
forms_enough : (f g : ℕ) (input : List ℕ) → length input ≤ f → length input ≤ g → text_of_forms f input ≡ text_of_forms g input
unfolding text_of_forms
forms_enough zero zero input p q = refl
forms_enough zero (suc g) [] p q = refl
forms_enough zero (suc g) (b ∷ bs) p q = absurd (omega arith)
forms_enough (suc f) zero [] p q = refl
forms_enough (suc f) zero (b ∷ bs) p q = absurd (omega arith)
forms_enough (suc f) (suc g) [] p q = refl
forms_enough (suc f) (suc g) (b ∷ bs) p q =
    let shorter = form_of-shorter (b ∷ bs) (omega arith) in
    ap (λ (l : List ℕ). (form_of (b ∷ bs)).0 ++ l) (forms_enough f g (form_of (b ∷ bs)).1 (omega (arith, shorter, p)) (omega (arith, shorter, q)))

-- the first form, and the forms behind it
pub text_of_letters-more : (input : List ℕ) → 0 < length input → text_of_letters input ≡ (form_of input).0 ++ text_of_letters (form_of input).1
unfolding text_of_forms
text_of_letters-more [] h = absurd (omega arith)
text_of_letters-more (b ∷ bs) h =
    let shorter = form_of-shorter (b ∷ bs) h in
    ap (λ (l : List ℕ). (form_of (b ∷ bs)).0 ++ l) (forms_enough (length bs) (length (form_of (b ∷ bs)).1) (form_of (b ∷ bs)).1 (omega (arith, shorter)) (omega arith))

pub text_of_letters-none : (input : List ℕ) → length input ≤ 0 → text_of_letters input ≡ []
unfolding text_of_forms
text_of_letters-none [] h = refl
text_of_letters-none (b ∷ bs) h = absurd (omega arith)

pub ruleset forms = (form_of-shorter, text_of_letters-more, text_of_letters-none, append_assoc, append-nil)
