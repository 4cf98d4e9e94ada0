-- What is printed of a fault.
use Rattle.std.proofs.Common.{◌≡◌, ℕ, ◌^◌, ◌<◌, cond, List, ◌++◌, decimal, Ok, Err, Result, OnOk, is_ok, sym, ap, ◌∙◌}
use Rattle.std.proofs.lemmas.List.{append_assoc}
use Rattle.shared_pen.specs.Pens.{number_text}
use Rattle.text_laws.proofs.Numbers.{numeral-decimal}

-- std's digits of a number
pub number-decimal : (n : ℕ) → n < 2 ^ 64 → decimal n ≡ number_text n
unfolding number_text
number-decimal n h = sym (numeral-decimal n h)

-- five texts behind each other
pub five_pushed : (out o1 o2 o3 o4 o5 a b c d e : List ℕ) → o1 ≡ out ++ a → o2 ≡ o1 ++ b → o3 ≡ o2 ++ c → o4 ≡ o3 ++ d → o5 ≡ o4 ++ e → o5 ≡ out ++ (a ++ (b ++ (c ++ (d ++ e))))
five_pushed out o1 o2 o3 o4 o5 a b c d e p1 p2 p3 p4 p5 =
    p5
    ∙ ap (λ (l : List ℕ). l ++ e) p4
    ∙ append_assoc o3 d e
    ∙ ap (λ (l : List ℕ). l ++ (d ++ e)) p3
    ∙ append_assoc o2 c (d ++ e)
    ∙ ap (λ (l : List ℕ). l ++ (c ++ (d ++ e))) p2
    ∙ append_assoc o1 b (c ++ (d ++ e))
    ∙ ap (λ (l : List ℕ). l ++ (b ++ (c ++ (d ++ e)))) p1
    ∙ append_assoc out a (b ++ (c ++ (d ++ e)))

-- another error in the place of the first
pub OnOk-same : {A B E F : Type 0} (P : Type 0) (r : Result A E) (s : Result B F) → is_ok s ≡ is_ok r → OnOk r P → OnOk s P
OnOk-same P (Ok x) (Ok y) e p = p
OnOk-same P (Err x) (Ok y) e p = absurd (cc)
OnOk-same P r (Err y) e p = tt

-- what follows from what a success appends
pub OnOk-then : {A E : Type 0} {Q : Type 0} (r : Result A E) (xs ys zs : List ℕ) → xs ≡ cond (is_ok r) ys zs → (xs ≡ ys → Q) → OnOk r Q
OnOk-then (Ok x) xs ys zs e f = f e
OnOk-then (Err x) xs ys zs e f = tt
