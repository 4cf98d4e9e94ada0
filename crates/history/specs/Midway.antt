-- Finding between two steps of a notice.
use Rattle.std.specs.Prelude.{◌≡◌, true, List, ◌∷◌, ◌++◌}
use Rattle.std.proofs.Math.Option.{some}
use Rattle.shared.specs.Book.{Book, Call, enter, change, strike, Request, done, answered}
use Rattle.shared.specs.Notice.{Kind, Step}
use Rattle.shared.specs.Table.{Part, find, applied_all}
use Rattle.history.specs.History.{story}
use Rattle.history.specs.Lives.{Life, table_of, stands_there, last_written}
use Rattle.history.specs.Premises.{LawfulKind}

-- the call gives no new setting to a part that stood before
abbrev pub Spares : Call → Part → Type 0
Spares (enter p v) k = Unit {0}
Spares (change p v) k = k ≡ p → ⊥
Spares (strike p) k = Unit {0}

-- A controller is as far as its book was when some call of the book was accepted. After any first steps of that call's
-- notice it still finds the last writing of every part that stands, but for a part that the call changes.
abbrev pub FoundMidway : Kind → Type 0
FoundMidway kind =
    (c : Life kind) (later : List Request) (q : Request) (qs : List Request) → c.requests ≡ later ++ (q ∷ qs) →
    let b = (story c.book_shut c.sizes c.hash kind qs).book in
    (table_of c).number ≡ b.number →
    (after : Book) (steps : List Step) → answered c.sizes c.hash kind c.book_shut b q ≡ done after steps →
    (xs ys : List Step) → xs ++ ys ≡ steps →
    (k : Part) → Spares q.call k → stands_there c k ≡ true →
    last_written c k ≡ some (find c.sizes c.hash (applied_all c.sizes kind.blank (table_of c) xs) k)

abbrev pub MidwayLaw : Type 0
MidwayLaw = (kind : Kind) → LawfulKind kind → FoundMidway kind
