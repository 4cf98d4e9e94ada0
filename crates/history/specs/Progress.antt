-- A controller gets on: it takes its book's next notice and refuses every other one of that book.
use Rattle.std.specs.Prelude.{◌≡◌, ℕ, suc, true, false, cond, List, [], ◌∷◌, ◌++◌, length, ◌==◌, ◌≢◌}
use Rattle.std.proofs.Math.Option.{Option, none, some}
use Rattle.shared.specs.Answers.{Answer, accepted, refused_with}
use Rattle.shared.specs.Notice.{Kind}
use Rattle.shared.specs.Table.{take_text, take_answer}
use Rattle.history.specs.Lives.{Life, book_of, table_of}
use Rattle.history.specs.Premises.{LawfulKind}

-- a book's notice n: texts are counted from the oldest
abbrev pub notice_of : List (List ℕ) → ℕ → Option (List ℕ)
notice_of [] n = none
notice_of (x ∷ xs) n = cond (n == suc (length xs)) (some x) (notice_of xs n)

-- what a controller answers to a text
abbrev pub takes : {kind : Kind} → Life kind → List ℕ → Answer
takes {kind} c x = take_answer (take_text c.shut c.sizes kind (table_of c) x)

-- An open controller takes the notice after its number, and refuses each other notice of its book with 15. A shut one refuses
-- every text with 2.
abbrev pub TakesNext : Kind → Type 0
TakesNext kind =
    (c : Life kind) → c.shut ≡ false → (n : ℕ) (x : List ℕ) → notice_of (book_of c).texts n ≡ some x →
    (n ≡ suc (table_of c).number → takes c x ≡ accepted (n ∷ [])) × ((n ≢ suc (table_of c).number) → takes c x ≡ refused_with 15)

abbrev pub TakesNone : Kind → Type 0
TakesNone kind = (c : Life kind) → c.shut ≡ true → (x : List ℕ) → takes c x ≡ refused_with 2

abbrev pub TakesJudged : Kind → Type 0
TakesJudged kind = TakesNext kind × TakesNone kind

-- Whatever it was brought before: brought all notices of its book in order, it comes to the book's number, which is their
-- count.
abbrev pub CatchesUp : Kind → Type 0
CatchesUp kind =
    (c : Life kind) → c.shut ≡ false → (older : List (List ℕ)) → c.brought ≡ (book_of c).texts ++ older →
    ((table_of c).number ≡ (book_of c).book.number) × ((book_of c).book.number ≡ length (book_of c).texts)

abbrev pub ProgressLaw : Type 0
ProgressLaw = (kind : Kind) → LawfulKind kind → CatchesUp kind
