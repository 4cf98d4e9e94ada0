-- What it means that a refused text is refused at its first wrong token.
use Rattle.std.specs.Prelude.{◌≡◌, ℕ, suc, ◌+◌, ◌-◌, ◌≤◌, true, false, ◌⊎◌, List, [], ◌∷◌, ◌++◌, length, take, drop, Err, codes, ◌≢◌}
use Rattle.shared.specs.declared.refusal.Cause.{Cause}
use Rattle.shared.specs.declared.refusal.Cause.TheVariants.{Byte, Word, Setting}
use Rattle.shared.specs.declared.refusal.Fault.{Fault}
use Rattle.shared.specs.Tokens.{Open, Close, Space, Tok, mark, word, stray, end, token_of}
use Rattle.shared.specs.Forms.{Form, lead, trail, series}
use Rattle.shared.specs.Notice.{Kind, Step, small, notice_form, notice_text, read_notice}
use Rattle.text_laws.specs.Texts.{Toks, HasBlank}

-- how many bytes tell a token: a word's end shows only at the byte behind it, and the text's end at the lack of a byte
abbrev pub reach : Tok → ℕ
reach (mark k) = 1
reach (word w) = suc (length w)
reach stray = 1
reach end = 1

-- what a cause says of the token at p, and how many bytes of the text show it; J says it for a setting
abbrev pub Told : (List ℕ → ℕ → ℕ → Type 0) → List ℕ → ℕ → Cause → ℕ → Type 0
Told J text p Byte e = (token_of (drop p text) ≡ stray) × (e ≡ p + 1)
Told J text p Word e = (token_of (drop p text) ≢ stray) × (e ≡ p + reach (token_of (drop p text)))
Told J text p (Setting x) e = J text p e

-- a setting's text, whether its kind has such a setting or not
abbrev pub bracketed : Kind → Form (List ℕ)
bracketed kind = trail (lead (mark Open ∷ []) (series (kind.count - 1) small)) (mark Close ∷ [])

-- from p to e stands a list of numbers that is no setting of its kind
abbrev pub Unlawful : Kind → List ℕ → ℕ → ℕ → Type 0
Unlawful kind text p e = (vs : List ℕ) × ((bracketed kind).fits vs ≡ true) × Toks text p e ((bracketed kind).tokens vs) × (kind.lawful vs ≡ false)

-- the tokens from `at` to p are the first tokens of a value of the form, and us are its other tokens
pub record Begins {X : Type 0} (s : Form X) (text : List ℕ) (at p : ℕ) (us : List Tok) : Type 0 where
  pub value : X
  pub fit : s.fits value ≡ true
  pub front : List Tok
  pub split : s.tokens value ≡ front ++ us
  pub stand : Toks text at p front

-- at q, where a setting would follow, a list of numbers in brackets begins, and goes on up to p
abbrev pub InSetting : Kind → List ℕ → ℕ → ℕ → List Tok → Type 0
InSetting kind text q p us = (vs : List ℕ) × (ts more : List Tok) × (us ≡ (bracketed kind).tokens vs ++ ts) × Begins (bracketed kind) text q p more

-- at q stands the greatest place, behind which a row can only close, and a space stands there
abbrev pub PastLast : List ℕ → ℕ → ℕ → List Tok → Type 0
PastLast text q p us = (ts : List Tok) × (us ≡ word (codes "65535") ∷ mark Close ∷ ts) × Toks text q p (word (codes "65535") ∷ mark Space ∷ [])

-- nothing, an open setting whose numbers are not judged yet, or a row that goes on too long stands from q to p
abbrev pub Undecided : Kind → List ℕ → ℕ → ℕ → List Tok → Type 0
Undecided kind text q p us = (q ≡ p) ⊎ (InSetting kind text q p us ⊎ PastLast text q p us)

-- what stands before p begins a notice, as far as it is decided there
abbrev pub GoodBefore : Kind → List ℕ → ℕ → Type 0
GoodBefore kind text p = (q : ℕ) × (us : List Tok) × Begins (notice_form kind) text 0 q us × Undecided kind text q p us

-- the fault of a refused text: its place and cause are those of a token, or of the text's end; every text with the same
-- bytes up to the end of that token (of that setting) has the fault, so no notice begins with them; and what stands
-- before the token is good
pub record FirstWrong (kind : Kind) (text : List ℕ) (f : Fault) : Type 0 where
  pub within : f.place ≤ length text
  pub shown : ℕ
  pub told : Told (Unlawful kind) text f.place f.cause shown
  pub same : (other : List ℕ) → take shown other ≡ take shown text → read_notice kind other ≡ Err f
  pub never : (n : ℕ) (steps : List Step) → (notice_form kind).fits (n, steps) ≡ true → take shown (notice_text kind n steps) ≡ take shown text → ⊥
  pub before : HasBlank kind → GoodBefore kind text f.place

abbrev pub FaultsFirst : Kind → Type 0
FaultsFirst kind = (text : List ℕ) (f : Fault) → read_notice kind text ≡ Err f → FirstWrong kind text f
