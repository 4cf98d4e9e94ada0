-- A form: how its values are read from a text, how they are written, and which values it has.
use Rattle.std.specs.Prelude.{ℕ, zero, suc, ◌+◌, Bool, true, false, cond, ◌&&◌, List, [], ◌∷◌, ◌++◌, length, drop, Ok, Err, Result}
use Rattle.std.proofs.Math.Option.{Option, none, some}
use Rattle.shared.specs.declared.refusal.Cause.{Cause}
use Rattle.shared.specs.declared.refusal.Cause.TheVariants.{Byte, Word, Setting}
use Rattle.shared.specs.declared.refusal.Fault.{Fault}
use Rattle.shared.specs.Limits.{between}
use Rattle.shared.specs.Tokens.{Close, Space, Tok, mark, word, stray, end, token_of, size, is_mark, is_word, is_end, numeral, number_in}

-- from a place of a text: what is read, or the fault of the first wrong token
abbrev pub Reading : Type 0 → Type 0
Reading X = List ℕ → ℕ → Result X Fault

abbrev pub and_then : {X Y E : Type 0} → Result X E → (X → Result Y E) → Result Y E
and_then (Ok x) f = f x
and_then (Err e) f = Err e

-- a token that is not allowed where it stands
abbrev pub cause_of : Tok → Cause
cause_of (mark k) = Word
cause_of (word w) = Word
cause_of stray = Byte
cause_of end = Word

abbrev pub wrong : {X : Type 0} → Tok → ℕ → Result X Fault
wrong t at = Err (record { place = at; cause = cause_of t })

-- the token at a place has to pass a test, and the place after it is read
abbrev pub pass_at : (Tok → Bool) → Reading ℕ
pass_at test text at = let t = token_of (drop at text) in cond (test t) (Ok (at + size t)) (wrong t at)

abbrev pub tok_at : Tok → Reading ℕ
tok_at (mark k) text at = pass_at (is_mark k) text at
tok_at (word w) text at = pass_at (is_word w) text at
tok_at stray text at = wrong stray at
tok_at end text at = wrong end at

-- tokens that have to stand there, one after the other
abbrev pub toks_at : List Tok → Reading ℕ
toks_at [] text at = Ok at
toks_at (t ∷ ts) text at = and_then (tok_at t text at) (λ p. toks_at ts text p)

-- a number word with a value of low to high
abbrev pub token_number : ℕ → ℕ → Tok → Option ℕ
token_number low high (mark k) = none
token_number low high (word w) = number_in low high w
token_number low high stray = none
token_number low high end = none

abbrev pub or_wrong : Option ℕ → Tok → ℕ → Result (ℕ × ℕ) Fault
or_wrong none t at = wrong t at
or_wrong (some n) t at = Ok (n, at + size t)

abbrev pub num_at : ℕ → ℕ → Reading (ℕ × ℕ)
num_at low high text at = let t = token_of (drop at text) in or_wrong (token_number low high t) t at

-- what is read comes with the place after it
pub record Form (X : Type 0) : Type 0 where
  pub reads : Reading (X × ℕ)
  pub tokens : X → List Tok
  pub fits : X → Bool

abbrev pub num : ℕ → ℕ → Form ℕ
num low high = record { reads = num_at low high; tokens = λ n. word (numeral n) ∷ []; fits = between low high }

-- fixed tokens before a form, and after it
abbrev pub lead : {X : Type 0} → List Tok → Form X → Form X
lead ts s = record { reads = λ text at. and_then (toks_at ts text at) (λ p. s.reads text p); tokens = λ x. ts ++ s.tokens x; fits = s.fits }

abbrev pub trail : {X : Type 0} → Form X → List Tok → Form X
trail s ts = record {
  reads = λ text at. and_then (s.reads text at) (λ x. and_then (toks_at ts text x.1) (λ p. Ok (x.0, p)));
  tokens = λ x. s.tokens x ++ ts;
  fits = s.fits;
}

abbrev pub pair : {X Y : Type 0} → Form X → Form Y → Form (X × Y)
pair s t = record {
  reads = λ text at. and_then (s.reads text at) (λ x. and_then (t.reads text x.1) (λ y. Ok ((x.0, y.0), y.1)));
  tokens = λ v. s.tokens v.0 ++ t.tokens v.1;
  fits = λ v. s.fits v.0 && t.fits v.1;
}

-- k values, one right after the other
abbrev pub times_at : {X : Type 0} → ℕ → Form X → Reading (List X × ℕ)
times_at zero s text at = Ok ([], at)
times_at (suc k) s text at = and_then (s.reads text at) (λ x. and_then (times_at k s text x.1) (λ y. Ok (x.0 ∷ y.0, y.1)))

abbrev pub times_tokens : {X : Type 0} → Form X → List X → List Tok
times_tokens s [] = []
times_tokens s (x ∷ xs) = s.tokens x ++ times_tokens s xs

abbrev pub times_fits : {X : Type 0} → Form X → ℕ → List X → Bool
times_fits s zero [] = true
times_fits s zero (x ∷ xs) = false
times_fits s (suc k) [] = false
times_fits s (suc k) (x ∷ xs) = s.fits x && times_fits s k xs

abbrev pub times : {X : Type 0} → ℕ → Form X → Form (List X)
times k s = record { reads = times_at k s; tokens = times_tokens s; fits = times_fits s k }

-- one value and `more` others, single spaces between them
abbrev pub series_tokens : {X : Type 0} → Form X → List X → List Tok
series_tokens s [] = []
series_tokens s (x ∷ xs) = s.tokens x ++ times_tokens (lead (mark Space ∷ []) s) xs

abbrev pub series_fits : {X : Type 0} → Form X → ℕ → List X → Bool
series_fits s more [] = false
series_fits s more (x ∷ xs) = s.fits x && times_fits s more xs

abbrev pub series : {X : Type 0} → ℕ → Form X → Form (List X)
series more s = record {
  reads = λ text at. and_then (s.reads text at) (λ x. and_then (times_at more (lead (mark Space ∷ []) s) text x.1) (λ y. Ok (x.0 ∷ y.0, y.1)));
  tokens = series_tokens s;
  fits = series_fits s more;
}

-- ascending numbers from low to high, each behind a space, up to a closing bracket; `fuel` bounds their count
abbrev pub ascending_at : ℕ → ℕ → ℕ → Reading (List ℕ × ℕ)
ascending_at zero low high text at = wrong (token_of (drop at text)) at
ascending_at (suc fuel) low high text at =
    cond (is_mark Space (token_of (drop at text)))
    (and_then (num_at low high text (at + 1)) (λ x. and_then (ascending_at fuel (x.0 + 1) high text x.1) (λ y. Ok (x.0 ∷ y.0, y.1))))
    (and_then (tok_at (mark Close) text at) (λ p. Ok ([], p)))

abbrev pub ascending_tokens : List ℕ → List Tok
ascending_tokens [] = mark Close ∷ []
ascending_tokens (p ∷ ps) = mark Space ∷ word (numeral p) ∷ ascending_tokens ps

abbrev pub ascends : ℕ → ℕ → List ℕ → Bool
ascends low high [] = true
ascends low high (p ∷ ps) = between low high p && ascends (p + 1) high ps

abbrev pub ascending : ℕ → Form (List ℕ)
ascending high = record { reads = λ text at. ascending_at (length text + 1) 0 high text at; tokens = ascending_tokens; fits = ascends 0 high }

-- a form whose value is judged once it is read; a value that fails is a setting's fault, at the form's first token
abbrev pub judged : {X : Type 0} → (X → Bool) → Form X → Form X
judged test s = record {
  reads = λ text at. and_then (s.reads text at) (λ x. cond (test x.0) (Ok x) (Err (record { place = at; cause = Setting (record {}) })));
  tokens = s.tokens;
  fits = λ x. s.fits x && test x;
}

-- a text that is one value of a form, and no more
abbrev pub read_whole : {X : Type 0} → Form X → List ℕ → Result X Fault
read_whole s text = and_then (s.reads text 0) (λ x. and_then (pass_at is_end text x.1) (λ _. Ok x.0))
