-- A controller's life: all that led to it, and what it answers and knows then.
use Rattle.std.specs.Prelude.{ℕ, Bool, List}
use Rattle.std.proofs.Math.Option.{Option}
use Rattle.shared.specs.declared.sizes.Sizes.{Sizes}
use Rattle.shared.specs.Answers.{Answer}
use Rattle.shared.specs.Book.{Request}
use Rattle.shared.specs.Kinds.{Hash}
use Rattle.shared.specs.Ledger.{stands_at, last_writing_at}
use Rattle.shared.specs.Notice.{Setting, Kind}
use Rattle.shared.specs.Table.{Part, Table, find_answer}
use Rattle.history.specs.History.{Story, story, controller, OfBook}
use Rattle.history.specs.Premises.{Family, LawfulRequests}

-- A controller with all that led to it: its book's sizes, family and calls, and the texts that it was brought, each a
-- notice of that book. Either may be shut.
pub record Life (kind : Kind) : Type 0 where
  pub sizes : Sizes
  pub hash : Hash
  pub family : Family hash
  pub book_shut : Bool
  pub requests : List Request
  pub settings : LawfulRequests kind requests
  pub shut : Bool
  pub brought : List (List ℕ)
  pub own : OfBook brought (story book_shut sizes hash kind requests)

module _ {kind : Kind} (c : Life kind) where
  abbrev pub book_of : Story
  book_of = story c.book_shut c.sizes c.hash kind c.requests

  abbrev pub table_of : Table
  table_of = controller c.shut c.sizes kind c.brought

  -- what it answers to a find
  abbrev pub finds : Part → Answer
  finds k = find_answer c.shut c.sizes c.hash table_of k

  -- whether a part stands, and its last writing's setting, in the book's ledger at the controller's number
  abbrev pub stands_there : Part → Bool
  stands_there k = stands_at table_of.number book_of.fed k

  abbrev pub last_written : Part → Option Setting
  last_written k = last_writing_at table_of.number book_of.fed k
