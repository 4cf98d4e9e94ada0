-- Histories: what has come of a book after its calls, and of a controller after the texts that it was brought.
-- Every list has its newest first.
use Rattle.std.specs.Prelude.{ℕ, Bool, cond, List, [], ◌∷◌, take, ◌==◌, slice_index}
use Rattle.shared.specs.declared.sizes.Sizes.{Sizes}
use Rattle.shared.specs.Book.{Book, Request, Left, fresh_book, leaves}
use Rattle.shared.specs.Kinds.{Hash}
use Rattle.shared.specs.Ledger.{Fed}
use Rattle.shared.specs.Lists.{Among}
use Rattle.shared.specs.Notice.{Kind}
use Rattle.shared.specs.Table.{Table, fresh_table, take_text, held}

-- the book as its last call left it, the texts of its notices, and what its ledger was fed
pub record Story : Type 0 where
  pub book : Book
  pub texts : List (List ℕ)
  pub fed : List Fed

-- A call that is accepted answers 0 and the length of the notice that it put at the front of its buffer.
abbrev pub was_accepted : Left → Bool
was_accepted l = l.answer.0 == 0

abbrev pub notice_in : Left → List ℕ
notice_in l = take (slice_index l.answer.1 0) l.buffer

-- one call more, from what it left
abbrev pub grown : Story → Request → Left → Story
grown w q l = record {
  book = l.book;
  texts = cond (was_accepted l) (notice_in l ∷ w.texts) w.texts;
  fed = record { call = q.call; accepted = was_accepted l } ∷ w.fed;
}

-- a book's story after some calls, refused ones among them; `shut` says whether it is a shut book
abbrev pub story : Bool → Sizes → Hash → Kind → List Request → Story
story shut z hash kind [] = record { book = fresh_book; texts = []; fed = [] }
story shut z hash kind (q ∷ qs) =
    let w = story shut z hash kind qs in
    grown w q (leaves shut z hash kind w.book q)

-- A controller after it was brought some texts; a find changes nothing, so that none is listed.
abbrev pub controller : Bool → Sizes → Kind → List (List ℕ) → Table
controller shut z kind [] = fresh_table kind.blank
controller shut z kind (x ∷ xs) = let t = controller shut z kind xs in held t (take_text shut z kind t x)

-- each text is one of a book's notices: some may be lost, come twice or come in any order
abbrev pub OfBook : List (List ℕ) → Story → Type 0
OfBook xs w = (x : List ℕ) → Among x xs → Among x w.texts
