-- What stands behind a front, before a bracket and before a byte.
use Rattle.std.proofs.Common.{◌≡◌, ℕ, not, eqb, Bool, List, [], ◌∷◌, ◌++◌, length, Some, None, unwrap_or, Option as CodeOption, sym, refl, ap, ◌∙◌, subst, ⊎_elim, arith, Bor, MatchOption}
use Rattle.std.specs.List.{position, position_or_len}
use mathlib.Core.Option.{Option, none, some}
use Rattle.std.proofs.lemmas.Bool.Decides.{nat_tests}
use Rattle.std.proofs.lemmas.List.Sums.{prefix_len-le-length}
use Rattle.std.proofs.lemmas.Bool.{cond-true, cond-false, eq-eqb, eqb-true, cases_Bool}
use Rattle.shared.specs.Lists.{◌then◌}
use Rattle.line_forms.specs.Fronts.{behind, closed, inside_of}

behind-is : (front rest : List ℕ) → behind front (front ++ rest) ≡ some rest
behind-is [] rest = refl
behind-is (f ∷ fs) rest = cond-true (eqb f f) (behind fs (fs ++ rest)) none (eq-eqb f f refl) ∙ behind-is fs rest

behind-not : (front text : List ℕ) → ((rest : List ℕ) → text ≡ front ++ rest → ⊥) → behind front text ≡ none
behind-not [] text never = absurd (never text refl)
behind-not (f ∷ fs) [] never = refl
behind-not (f ∷ fs) (b ∷ bs) never =
    ⊎_elim
    (λ t. cond-true (eqb f b) (behind fs bs) none t ∙ behind-not fs bs (λ rest e. let h = eqb-true f b t in never rest (cc)))
    (λ t. cond-false (eqb f b) (behind fs bs) none t)
    (cases_Bool (eqb f b))

closed_is : (front : List ℕ) → closed (front ++ (41 ∷ [])) ≡ some front
closed_is [] = refl
closed_is (b ∷ []) = refl
closed_is (b ∷ c ∷ bs) = ap (λ (o : Option (List ℕ)). o then (λ rest. some (b ∷ rest))) (closed_is (c ∷ bs))

closed-not : (text : List ℕ) → ((front : List ℕ) → text ≡ front ++ (41 ∷ []) → ⊥) → closed text ≡ none
closed-not [] never = refl
closed-not (b ∷ []) never =
    ⊎_elim
    (λ t. absurd (never [] (ap (λ (x : ℕ). x ∷ []) (eqb-true b 41 t))))
    (λ t. cond-false (eqb b 41) (some []) none t)
    (cases_Bool (eqb b 41))
closed-not (b ∷ c ∷ bs) never =
    ap (λ (o : Option (List ℕ)). o then (λ rest. some (b ∷ rest))) (closed-not (c ∷ bs) (λ front e. never (b ∷ front) (ap (λ (l : List ℕ). b ∷ l) e)))

-- the two in a row
inside_none : (front line : List ℕ) → ((rest : List ℕ) → line ≡ front ++ rest → ⊥) → inside_of front line ≡ none
inside_none front line never = ap (λ (o : Option (List ℕ)). o then closed) (behind-not front line never)

inside_behind : (front line rest : List ℕ) → line ≡ front ++ rest → inside_of front line ≡ closed rest
inside_behind front line rest e = ap (λ (l : List ℕ). behind front l then closed) e ∙ ap (λ (o : Option (List ℕ)). o then closed) (behind-is front rest)

-- what stripping a front, or a bracket, answers, in terms of the whole text
abbrev pub Stripped : List ℕ → List ℕ → CodeOption (Bor (List ℕ)) → Type 0
Stripped front line r = MatchOption r ((rest : List ℕ) → line ≡ front ++ rest → ⊥) (λ x. line ≡ front ++ x.now)

abbrev pub Inside : List ℕ → List ℕ → CodeOption (Bor (List ℕ)) → Type 0
Inside front line r = MatchOption r (inside_of front line ≡ none) (λ x. inside_of front line ≡ some x.now)

pub stripped_some : (front line : List ℕ) (r : CodeOption (Bor (List ℕ))) (x : Bor (List ℕ)) → Stripped front line r → r ≡ Some x → line ≡ front ++ x.now
stripped_some front line r x h e = subst (Stripped front line) e h

pub stripped_none : (front line : List ℕ) (r o : CodeOption (Bor (List ℕ))) → Stripped front line r → r ≡ None → o ≡ None → Inside front line o
stripped_none front line r o h e none-too = subst (Inside front line) (sym none-too) (inside_none front line (subst (Stripped front line) e h))

-- what is left behind the front, by what stripping its bracket answered
pub closed-by : (front line rest : List ℕ) (r : CodeOption (Bor (List ℕ))) → line ≡ front ++ rest → MatchOption r ((text : List ℕ) → rest ≡ text ++ (41 ∷ []) → ⊥) (λ x. rest ≡ x.now ++ (41 ∷ [])) → Inside front line r
closed-by front line rest None e never = inside_behind front line rest e ∙ closed-not rest never
closed-by front line rest (Some x) e h = inside_behind front line rest e ∙ ap closed h ∙ closed_is x.now

-- the first place, where the code asks for it
pub unwrap_or-position : (p : ℕ → Bool) (xs : List ℕ) → unwrap_or (position p xs) (length xs) ≡ position_or_len p xs
unwrap_or-position p xs =
    let few = prefix_len-le-length (λ x. not (p x)) xs in
    grind (arith, nat_tests)
