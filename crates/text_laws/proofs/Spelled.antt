-- Tokens and the text that they spell.
use Rattle.std.proofs.Common.{◌≡◌, ℕ, ◌+◌, ◌^◌, ◌<◌, Bool, true, false, not, ◌&&◌, eqb, List, [], ◌∷◌, ◌++◌, length, drop, sym, refl, ap, ◌∙◌, subst, add-zero, arith}
use Rattle.std.proofs.lemmas.List.{append_assoc, length-append, drop-drop, drop_at}
use Rattle.std.proofs.lemmas.Bool.{cond-true, cond-false, cond_both, false≢true, and_parts, and_from, or_right, eqb-true, ne_eqb, both_ways}
use Rattle.shared.specs.Limits.{between}
use Rattle.shared.specs.Tokens.{Open, Close, Space, Line, Tok, mark, word, stray, end, digit, word_byte, run, token_of, spelled, size, spell, is_end, all_digits, numeral}
use Rattle.text_laws.specs.Texts.{Toks}
use Rattle.text_laws.proofs.Numbers.{numeral-plain}

-- a fact of every token that a byte and what follows it can make
pub token_cases : (b : ℕ) (bs : List ℕ) (P : Tok → Type 0) → (b ≡ 40 → P (mark Open)) → (b ≡ 41 → P (mark Close)) → (b ≡ 32 → P (mark Space)) → (b ≡ 10 → P (mark Line)) → (word_byte b ≡ true → P (word (b ∷ run bs))) → P stray → P (token_of (b ∷ bs))
token_cases b bs P o c s l w x =
    cond_both (eqb b 40) (mark Open) _ P (λ e. o (eqb-true b 40 e)) (λ _.
    cond_both (eqb b 41) (mark Close) _ P (λ e. c (eqb-true b 41 e)) (λ _.
    cond_both (eqb b 32) (mark Space) _ P (λ e. s (eqb-true b 32 e)) (λ _.
    cond_both (eqb b 10) (mark Line) _ P (λ e. l (eqb-true b 10 e)) (λ _.
    cond_both (word_byte b) (word (b ∷ run bs)) stray P w (λ _. x)))))

run-split : (bs : List ℕ) → bs ≡ run bs ++ drop (length (run bs)) bs
run-split [] = refl
run-split (b ∷ bs) = cond_both (word_byte b) (b ∷ run bs) [] (λ l. b ∷ bs ≡ l ++ drop (length l) (b ∷ bs)) (λ _. ap (λ l. b ∷ l) (run-split bs)) (λ _. refl)

-- a token is the front of the text that it is read from
token_spelled : (xs : List ℕ) → xs ≡ spelled (token_of xs) ++ drop (size (token_of xs)) xs
token_spelled [] = refl
token_spelled (b ∷ bs) =
    token_cases b bs (λ t. b ∷ bs ≡ spelled t ++ drop (size t) (b ∷ bs)) (ap (λ x. x ∷ bs)) (ap (λ x. x ∷ bs)) (ap (λ x. x ∷ bs)) (ap (λ x. x ∷ bs)) (λ _. ap (λ l. b ∷ l) (run-split bs)) refl

pub toks_text : (text : List ℕ) (at to : ℕ) (ts : List Tok) → Toks text at to ts → drop at text ≡ spell ts ++ drop to text
toks_text text at to [] e = ap (λ k. drop k text) e
toks_text text at to (t ∷ ts) p =
    token_spelled (drop at text) ∙ ap (λ u. spelled u ++ drop (size u) (drop at text)) p.0
    ∙ ap (λ l. spelled t ++ l) (drop-drop (size t) at text ∙ toks_text text (at + size t) to ts p.1)
    ∙ sym (append_assoc (spelled t) (spell ts) (drop to text))

pub end_is : (xs : List ℕ) → is_end (token_of xs) ≡ true → xs ≡ []
end_is [] e = refl
end_is (b ∷ bs) e = absurd (token_cases b bs (λ t. is_end t ≡ true → ⊥) (λ _ f. false≢true f) (λ _ f. false≢true f) (λ _ f. false≢true f) (λ _ f. false≢true f) (λ _ f. false≢true f) (λ f. false≢true f) e)

-- words that are one token
abbrev pub all_word_bytes : List ℕ → Bool
all_word_bytes [] = true
all_word_bytes (b ∷ bs) = word_byte b && all_word_bytes bs

abbrev pub some_word_bytes : List ℕ → Bool
some_word_bytes [] = false
some_word_bytes (b ∷ bs) = word_byte b && all_word_bytes bs

-- tokens that a text can have, behind a word or not: words of word bytes, no two side by side
abbrev pub lexed : Bool → List Tok → Bool
lexed behind [] = true
lexed behind (mark k ∷ ts) = lexed false ts
lexed behind (word w ∷ ts) = not behind && (some_word_bytes w && lexed true ts)
lexed behind (stray ∷ ts) = false
lexed behind (end ∷ ts) = false

-- whether the last token is a word
abbrev pub ends : Bool → List Tok → Bool
ends behind [] = behind
ends behind (mark k ∷ ts) = ends false ts
ends behind (word w ∷ ts) = ends true ts
ends behind (stray ∷ ts) = ends false ts
ends behind (end ∷ ts) = ends false ts

pub lexed-append : (b : Bool) (xs ys : List Tok) → lexed b xs ≡ true → lexed (ends b xs) ys ≡ true → lexed b (xs ++ ys) ≡ true
lexed-append b [] ys l m = m
lexed-append b (mark k ∷ xs) ys l m = lexed-append false xs ys l m
lexed-append b (word w ∷ xs) ys l m =
    let p = and_parts (not b) (some_word_bytes w && lexed true xs) l in
    let q = and_parts (some_word_bytes w) (lexed true xs) p.1 in
    and_from (not b) _ p.0 (and_from (some_word_bytes w) _ q.0 (lexed-append true xs ys q.1 m))
lexed-append b (stray ∷ xs) ys l m = absurd (false≢true l)
lexed-append b (end ∷ xs) ys l m = absurd (false≢true l)

pub ends-append : (b : Bool) (xs ys : List Tok) → ends b (xs ++ ys) ≡ ends (ends b xs) ys
ends-append b [] ys = refl
ends-append b (mark k ∷ xs) ys = ends-append false xs ys
ends-append b (word w ∷ xs) ys = ends-append true xs ys
ends-append b (stray ∷ xs) ys = ends-append false xs ys
ends-append b (end ∷ xs) ys = ends-append false xs ys

-- a word byte is no mark
word_not : (k b : ℕ) → word_byte k ≡ false → word_byte b ≡ true → eqb b k ≡ false
word_not k b f t = ne_eqb b k (λ e. both_ways (word_byte k) f (sym (ap word_byte e) ∙ t))

run-all : (w : List ℕ) (ts : List Tok) → all_word_bytes w ≡ true → lexed true ts ≡ true → run (w ++ spell ts) ≡ w
run-all [] [] a l = refl
run-all [] (mark Open ∷ ts) a l = refl
run-all [] (mark Close ∷ ts) a l = refl
run-all [] (mark Space ∷ ts) a l = refl
run-all [] (mark Line ∷ ts) a l = refl
run-all [] (word w ∷ ts) a l = absurd (false≢true l)
run-all [] (stray ∷ ts) a l = absurd (false≢true l)
run-all [] (end ∷ ts) a l = absurd (false≢true l)
run-all (b ∷ w) ts a l =
    let p = and_parts (word_byte b) (all_word_bytes w) a in
    cond-true (word_byte b) _ _ p.0 ∙ ap (λ v. b ∷ v) (run-all w ts p.1 l)

word_front : (w : List ℕ) (ts : List Tok) → some_word_bytes w ≡ true → lexed true ts ≡ true → token_of (w ++ spell ts) ≡ word w
word_front [] ts a l = absurd (false≢true a)
word_front (b ∷ w) ts a l =
    let p = and_parts (word_byte b) (all_word_bytes w) a in
    cond-false (eqb b 40) _ _ (word_not 40 b refl p.0)
    ∙ cond-false (eqb b 41) _ _ (word_not 41 b refl p.0)
    ∙ cond-false (eqb b 32) _ _ (word_not 32 b refl p.0)
    ∙ cond-false (eqb b 10) _ _ (word_not 10 b refl p.0)
    ∙ cond-true (word_byte b) _ _ p.0 ∙ ap (λ v. word (b ∷ v)) (run-all w ts p.1 l)

first_token : (b : Bool) (t : Tok) (ts : List Tok) → lexed b (t ∷ ts) ≡ true → (token_of (spell (t ∷ ts)) ≡ t) × (lexed (ends b (t ∷ [])) ts ≡ true)
first_token b (mark Open) ts l = (refl, l)
first_token b (mark Close) ts l = (refl, l)
first_token b (mark Space) ts l = (refl, l)
first_token b (mark Line) ts l = (refl, l)
first_token b (word w) ts l =
    let p = and_parts (not b) (some_word_bytes w && lexed true ts) l in
    let q = and_parts (some_word_bytes w) (lexed true ts) p.1 in
    (word_front w ts q.0 q.1, q.1)
first_token b stray ts l = absurd (false≢true l)
first_token b end ts l = absurd (false≢true l)

pub text_toks : (text : List ℕ) (at : ℕ) (b : Bool) (ts : List Tok) → lexed b ts ≡ true → drop at text ≡ spell ts → Toks text at (at + length (spell ts)) ts
text_toks text at b [] l e = sym (add-zero at)
text_toks text at b (t ∷ ts) l e =
    let p = first_token b t ts l in
    let q = sym (drop-drop (size t) at text) ∙ ap (drop (size t)) e ∙ drop_at (spelled t) (spell ts) (size t) refl in
    let far : at + size t + length (spell ts) ≡ at + length (spell (t ∷ ts)) = omega (arith, length-append (spelled t) (spell ts)) in
    (ap token_of e ∙ p.0, subst (λ k. Toks text (at + size t) k ts) far (text_toks text (at + size t) (ends b (t ∷ [])) ts p.1 q))

-- number words are words
digits_word : (w : List ℕ) → all_digits w ≡ true → all_word_bytes w ≡ true
digits_word [] e = refl
digits_word (c ∷ w) e = let p = and_parts (digit c) (all_digits w) e in and_from (word_byte c) (all_word_bytes w) (or_right (between 97 122 c) (digit c) p.0) (digits_word w p.1)

some_words : (w : List ℕ) → 0 < length w → all_word_bytes w ≡ true → some_word_bytes w ≡ true
some_words [] h e = absurd (omega arith)
some_words (c ∷ w) h e = e

pub number_word : (n : ℕ) → n < 2 ^ 64 → some_word_bytes (numeral n) ≡ true
number_word n h = let p = numeral-plain n h in some_words (numeral n) p.some (digits_word (numeral n) p.digits)
