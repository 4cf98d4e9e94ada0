-- The tokens of a fitting value are tokens that a text can have: for each way to make a form.
use Rattle.std.proofs.Common.{◌≡◌, ℕ, zero, suc, ◌+◌, ◌^◌, ◌<◌, Bool, true, false, List, [], ◌∷◌, ◌++◌, sym, refl, ap, ◌∙◌, subst, arith}
use Rattle.std.proofs.lemmas.Bool.{false≢true, and_parts, and_from}
use Rattle.shared.specs.Limits.{between}
use Rattle.shared.specs.Tokens.{Space, Tok, mark, numeral}
use Rattle.shared.specs.Forms.{Form, num, lead, trail, pair, times, times_tokens, times_fits, series, series_tokens, series_fits, ascending, ascending_tokens, ascends, judged}
use Rattle.shared.proofs.Words.{between-parts}
use Rattle.text_laws.proofs.Spelled.{lexed, ends, lexed-append, ends-append, some_word_bytes, number_word}
use Rattle.text_laws.proofs.Inverses.{times-lead}

-- behind a word or not, as b says, the tokens can stand, and c says whether the last of them is a word
abbrev pub Stands : Bool → Bool → List Tok → Type 0
Stands b c ts = (lexed b ts ≡ true) × (ends b ts ≡ c)

pub record Lexes {X : Type 0} (b : Bool) (s : Form X) (c : Bool) : Type 0 where
  pub stand : (x : X) → s.fits x ≡ true → Stands b c (s.tokens x)

pub both : (b c d : Bool) (xs ys : List Tok) → Stands b c xs → Stands c d ys → Stands b d (xs ++ ys)
both b c d xs ys p q =
    (lexed-append b xs ys p.0 (subst (λ e. lexed e ys ≡ true) (sym p.1) q.0), ends-append b xs ys ∙ ap (λ e. ends e ys) p.1 ∙ q.1)

pub num-lexes : (low high : ℕ) → high < 2 ^ 64 → Lexes false (num low high) true
num-lexes low high b = record { stand = λ n f. (and_from (some_word_bytes (numeral n)) true (number_word n (omega (arith, (between-parts low high n f).1))) refl, refl) }

pub lead-lexes : {X : Type 0} {b c d : Bool} (ts : List Tok) {s : Form X} → Stands b c ts → Lexes c s d → Lexes b (lead ts s) d
lead-lexes {X} {b} {c} {d} ts {s} p l = record { stand = λ x f. both b c d ts (s.tokens x) p (l.stand x f) }

pub trail-lexes : {X : Type 0} {b c d : Bool} {s : Form X} (ts : List Tok) → Lexes b s c → Stands c d ts → Lexes b (trail s ts) d
trail-lexes {X} {b} {c} {d} {s} ts l p = record { stand = λ x f. both b c d (s.tokens x) ts (l.stand x f) p }

pub pair-lexes : {X Y : Type 0} {b c d : Bool} {s : Form X} {t : Form Y} → Lexes b s c → Lexes c t d → Lexes b (pair s t) d
pair-lexes {X} {Y} {b} {c} {d} {s} {t} l m =
    record { stand = λ v f. let g = and_parts (s.fits v.0) (t.fits v.1) f in both b c d (s.tokens v.0) (t.tokens v.1) (l.stand v.0 g.0) (m.stand v.1 g.1) }

pub times-lexes : {X : Type 0} {b : Bool} {s : Form X} → Lexes b s b → (k : ℕ) → Lexes b (times k s) b
times-lexes {X} {b} {s} l k = record { stand = all k }
  where
    all : (k : ℕ) (xs : List X) → times_fits s k xs ≡ true → Stands b b (times_tokens s xs)
    all zero [] f = (refl, refl)
    all zero (x ∷ xs) f = absurd (false≢true f)
    all (suc k) [] f = absurd (false≢true f)
    all (suc k) (x ∷ xs) f = let g = and_parts (s.fits x) (times_fits s k xs) f in both b b b (s.tokens x) (times_tokens s xs) (l.stand x g.0) (all k xs g.1)

pub series-lexes : {X : Type 0} {c : Bool} (more : ℕ) {s : Form X} → Lexes false s c → Lexes false (series more s) c
series-lexes {X} {c} more {s} l = record { stand = all }
  where
    all : (xs : List X) → series_fits s more xs ≡ true → Stands false c (series_tokens s xs)
    all [] f = absurd (false≢true f)
    all (x ∷ xs) f =
        let g = and_parts (s.fits x) (times_fits s more xs) f in
        both false c c (s.tokens x) (times_tokens (lead (mark Space ∷ []) s) xs) (l.stand x g.0)
        ((times-lexes (lead-lexes {b = c} (mark Space ∷ []) (refl, refl) l) more).stand xs (times-lead (mark Space ∷ []) s more xs ∙ g.1))

pub judged-lexes : {X : Type 0} {b c : Bool} (test : X → Bool) {s : Form X} → Lexes b s c → Lexes b (judged test s) c
judged-lexes test {s} l = record { stand = λ x f. l.stand x (and_parts (s.fits x) (test x) f).0 }

pub ascending-lexes : {b : Bool} (high : ℕ) → high < 2 ^ 64 → Lexes b (ascending high) false
ascending-lexes {b} high h = record { stand = all b 0 }
  where
    all : (b : Bool) (low : ℕ) (ps : List ℕ) → ascends low high ps ≡ true → Stands b false (ascending_tokens ps)
    all b low [] f = (refl, refl)
    all b low (p ∷ ps) f =
        let g = and_parts (between low high p) (ascends (p + 1) high ps) f in
        let u = all true (p + 1) ps g.1 in
        (and_from (some_word_bytes (numeral p)) _ (number_word p (omega (arith, (between-parts low high p g.0).1))) u.0, u.1)
