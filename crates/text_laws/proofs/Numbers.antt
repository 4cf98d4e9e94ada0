-- Number words: what is written of a number is read back, and no other word is.
use Rattle.std.proofs.Common.{◌≡◌, ℕ, ◌^◌, ◌<◌, true, ◌&&◌, List, [], length, decimal, sym, ap, ◌∙◌, ⊎_elim, arith, rules}
use mathlib.Core.Option.{none, some}
use Rattle.std.proofs.lemmas.List.{append-nil}
use Rattle.std.proofs.lemmas.Str.Parse.{IsNumeralModel, numerals_by_fold}
use Rattle.std.proofs.lemmas.Fmt.{PrependsLastDigit, decimal_from_prepends, decimal-digits_value, digits_value-decimal, digits_decimal, decimal_nonempty, first_decimal, decimal_digit, length-decimal-le}
use Rattle.std.proofs.lemmas.Bool.{cond-true, cond-false, cases_Bool, cases_eq, and_parts, and_from}
use Rattle.shared.proofs.Words.{between-parts, Plain, plain_parts, plain_from}
use Rattle.shared.specs.Limits.{between}
use Rattle.shared.specs.Tokens.{digits_onto, numeral, read_on, all_digits, plain_digits, number_in}

own : IsNumeralModel (λ ds. all_digits ds ≡ true) (read_on 0)
own = numerals_by_fold (λ ds. all_digits ds ≡ true) (search rules) read_on (search rules)

onto : PrependsLastDigit digits_onto
onto = search rules

-- std's digits of a number
pub numeral-decimal : (n : ℕ) → n < 2 ^ 64 → numeral n ≡ decimal n
numeral-decimal n h = decimal_from_prepends digits_onto onto 20 n [] h (length-decimal-le 20 n (omega arith) (omega arith) h) ∙ append-nil (decimal n)

-- the words that numbers are written as
pub numeral-plain : (n : ℕ) → n < 2 ^ 64 → Plain (numeral n)
numeral-plain n h =
    rw (numeral-decimal n h)
    (record {
      digits = digits_decimal own n h;
      some = decimal_nonempty n h;
      first = λ z. ⊎_elim (λ e. ap (λ k. length (decimal k)) e ∙ ap length (decimal_digit 0 (omega arith))) (λ ne. absurd (omega (arith, first_decimal n (omega arith) h))) (cases_eq n 0);
    })

pub reads_back : (low high n : ℕ) → high < 2 ^ 64 → between low high n ≡ true → number_in low high (numeral n) ≡ some n
reads_back low high n b f =
    let p = between-parts low high n f in
    let h : n < 2 ^ 64 = omega (arith, p.1) in
    let v : read_on 0 (numeral n) ≡ n = ap (read_on 0) (numeral-decimal n h) ∙ digits_value-decimal own n h in
    cond-true (plain_digits (numeral n) && between low high (read_on 0 (numeral n))) (some (read_on 0 (numeral n))) none
    (and_from (plain_digits (numeral n)) (between low high (read_on 0 (numeral n))) (plain_from (numeral n) (numeral-plain n h)) (ap (between low high) v ∙ f))
    ∙ ap some v

pub canonical : (low high n : ℕ) (w : List ℕ) → high < 2 ^ 64 → number_in low high w ≡ some n → (w ≡ numeral n) × (between low high n ≡ true)
canonical low high n w b e =
    ⊎_elim
    (λ t.
    let p = and_parts (plain_digits w) (between low high (read_on 0 w)) t in
    let s = cond-true (plain_digits w && between low high (read_on 0 w)) (some (read_on 0 w)) none t in
    let same : read_on 0 w ≡ n = cc in
    let f : between low high n ≡ true = ap (between low high) (sym same) ∙ p.1 in
    let h : n < 2 ^ 64 = omega (arith, (between-parts low high n f).1) in
    let q = plain_parts w p.0 in
    (sym (numeral-decimal n h ∙ ap decimal (sym same) ∙ decimal-digits_value own w q.digits q.some q.first (omega arith)), f))
    (λ t.
    let s = cond-false (plain_digits w && between low high (read_on 0 w)) (some (read_on 0 w)) none t in
    let z : ◌≡◌ {A = ℕ} 0 1 = cc in absurd (omega arith))
    (cases_Bool (plain_digits w && between low high (read_on 0 w)))
