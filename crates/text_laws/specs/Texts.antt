-- What it means that texts are faithful: the tokens of a value stand in a text exactly where the value is read.
use Rattle.std.specs.Prelude.{◌≡◌, ℕ, ◌+◌, ◌^◌, ◌<◌, Bool, true, false, List, [], ◌∷◌, drop, Ok}
use Rattle.shared.specs.Tokens.{Tok, mark, word, stray, end, token_of, size}
use Rattle.shared.specs.Forms.{Form, num, lead, trail, pair, times, series, ascending, judged}
use Rattle.shared.specs.Notice.{Kind, Step, setting_form, step_at, step_tokens, step_fits, notice_form, notice_text, read_notice}

-- the tokens ts stand in the text from `at` to `to`
abbrev pub Toks : List ℕ → ℕ → ℕ → List Tok → Type 0
Toks text at to [] = at ≡ to
Toks text at to (t ∷ ts) = (token_of (drop at text) ≡ t) × Toks text (at + size t) to ts

-- what is read fits and its tokens stand there; and where the tokens of a fitting value stand, it is read
pub record Inverse {X : Type 0} (s : Form X) : Type 0 where
  pub sound : (text : List ℕ) (at to : ℕ) (x : X) → s.reads text at ≡ Ok (x, to) → (s.fits x ≡ true) × Toks text at to (s.tokens x)
  pub complete : (text : List ℕ) (at to : ℕ) (x : X) → s.fits x ≡ true → Toks text at to (s.tokens x) → s.reads text at ≡ Ok (x, to)

-- tokens that can be asked for: marks and words
abbrev pub literal : List Tok → Bool
literal [] = true
literal (mark k ∷ ts) = literal ts
literal (word w ∷ ts) = literal ts
literal (stray ∷ ts) = false
literal (end ∷ ts) = false

-- the choice between the two steps, behind a step's bracket
abbrev pub choice : Kind → Form Step
choice kind = record { reads = step_at kind; tokens = step_tokens kind; fits = step_fits kind }

-- each way to make a form keeps reading and writing inverse
pub record FormLaws (X Y : Type 0) : Type 0 where
  pub number : (low high : ℕ) → high < 2 ^ 64 → Inverse (num low high)
  pub leading : (ts : List Tok) (s : Form X) → literal ts ≡ true → Inverse s → Inverse (lead ts s)
  pub trailing : (s : Form X) (ts : List Tok) → literal ts ≡ true → Inverse s → Inverse (trail s ts)
  pub paired : (s : Form X) (t : Form Y) → Inverse s → Inverse t → Inverse (pair s t)
  pub repeated : (k : ℕ) (s : Form X) → Inverse s → Inverse (times k s)
  pub spaced : (more : ℕ) (s : Form X) → Inverse s → Inverse (series more s)
  pub places : (high : ℕ) → high < 2 ^ 64 → Inverse (ascending high)
  pub judging : (test : X → Bool) (s : Form X) → Inverse s → Inverse (judged test s)
  pub choosing : (kind : Kind) → Inverse (choice kind)
  pub notice : (kind : Kind) → Inverse (notice_form kind)

-- the blank is a setting of its kind
abbrev pub HasBlank : Kind → Type 0
HasBlank kind = (setting_form kind).fits kind.blank ≡ true

-- every notice's text is read as that notice, and a text that is read is the text of the notice that it is read as
pub record Faithful (kind : Kind) : Type 0 where
  pub back : (n : ℕ) (steps : List Step) → (notice_form kind).fits (n, steps) ≡ true → read_notice kind (notice_text kind n steps) ≡ Ok (n, steps)
  pub own : (text : List ℕ) (n : ℕ) (steps : List Step) → read_notice kind text ≡ Ok (n, steps) → ((notice_form kind).fits (n, steps) ≡ true) × (text ≡ notice_text kind n steps)
