-- A number's digits, from its last one.
use Rattle.std.proofs.Common.{◌≡◌, ℕ, zero, suc, ◌+◌, ◌*◌, ◌/◌, ◌%◌, ◌^◌, ◌<◌, ◌≤◌, [], ◌∷◌, ◌++◌, length, decimal, sym, refl, ap, ◌∙◌, arith}
use Rattle.std.proofs.lemmas.List.{length-append}
use Rattle.std.proofs.lemmas.Fmt.{decimal_digit, decimal_step, decimal_nonempty, length-decimal-le}
use Rattle.std.proofs.Math.Nat.{pow-suc, one-le-pow}
use Rattle.shared.specs.Tokens.{numeral}
use Rattle.text_laws.proofs.Numbers.{numeral-decimal}
use Rattle.shared_pen.specs.Pens.{number_text}

pub number_digit : (n : ℕ) → n < 10 → number_text n ≡ (48 + n) ∷ []
unfolding number_text
number_digit n h = numeral-decimal n (omega arith) ∙ decimal_digit n h

pub number_step : (n : ℕ) → 10 ≤ n → n < 2 ^ 64 → number_text n ≡ number_text (n / 10) ++ ((48 + n % 10) ∷ [])
unfolding number_text
number_step n h k = numeral-decimal n k ∙ decimal_step n h k ∙ ap (λ l. l ++ ((48 + n % 10) ∷ [])) (sym (numeral-decimal (n / 10) (omega arith)))

-- how many they are: one more than the power of ten that the number has reached
length-some : (k n : ℕ) → 10 ^ k ≤ n → n < 2 ^ 64 → k < length (number_text n)
unfolding number_text
length-some zero n h b = omega (arith, ap length (numeral-decimal n b), decimal_nonempty n b)
length-some (suc k) n h b =
    let big : 10 * 10 ^ k ≤ n = omega (arith, pow-suc 10 k) in
    let front : 10 ^ k ≤ n / 10 = omega arith in
    let long : 10 ≤ n = omega (arith, one-le-pow k 10 (omega arith), big) in
    omega (arith, length-some k (n / 10) front (omega arith), ap length (number_step n long b), length-append (number_text (n / 10)) ((48 + n % 10) ∷ []))

pub length-numeral : (n : ℕ) → length (numeral n) ≡ length (number_text n)
unfolding number_text
length-numeral n = refl

pub length-power : (k n : ℕ) → 10 ^ k ≤ n → n < 10 * 10 ^ k → n < 2 ^ 64 → k + 1 ≡ length (numeral n)
unfolding number_text
length-power k n low high b =
    let few : length (decimal n) ≤ suc k = length-decimal-le (suc k) n (omega arith) (omega (arith, pow-suc 10 k)) b in
    let all : k + 1 ≡ length (number_text n) = omega (arith, length-some k n low b, few, ap length (numeral-decimal n b)) in
    all

pub ruleset digit_counts = (length-power, length-numeral)
