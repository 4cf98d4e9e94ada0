-- The ledger of one book. It is fed the book's calls with whether each was accepted, and knows nothing of tables.
-- Every list has its newest first.
use Rattle.std.specs.Prelude.{ℕ, ◌-◌, Bool, true, false, cond, List, [], ◌∷◌, length, drop}
use Rattle.std.proofs.Math.Option.{Option, none, some}
use Rattle.shared.specs.Book.{Call, enter, change, strike}
use Rattle.shared.specs.Lists.{same_list}
use Rattle.shared.specs.Notice.{Setting}
use Rattle.shared.specs.Table.{Part}

-- a call of the book's, and whether it was accepted
pub record Fed : Type 0 where
  pub call : Call
  pub accepted : Bool

-- the accepted calls; the n-th from the oldest is call n
abbrev pub accepted_calls : List Fed → List Call
accepted_calls [] = []
accepted_calls (f ∷ fs) = let rest = accepted_calls fs in cond f.accepted (f.call ∷ rest) rest

-- of a list, its oldest n
abbrev pub up_to : {A : Type 0} → ℕ → List A → List A
up_to n xs = drop (length xs - n) xs

-- whether a part stands after some accepted calls: an enter begins it, a strike ends it
abbrev pub stands : List Call → Part → Bool
stands [] k = false
stands (enter p v ∷ cs) k = cond (same_list p k) true (stands cs k)
stands (change p v ∷ cs) k = stands cs k
stands (strike p ∷ cs) k = cond (same_list p k) false (stands cs k)

-- the setting of a part's last writing, which is its last accepted enter or change
abbrev pub last_writing : List Call → Part → Option Setting
last_writing [] k = none
last_writing (enter p v ∷ cs) k = cond (same_list p k) (some v) (last_writing cs k)
last_writing (change p v ∷ cs) k = cond (same_list p k) (some v) (last_writing cs k)
last_writing (strike p ∷ cs) k = last_writing cs k

-- both at a number of the book
abbrev pub stands_at : ℕ → List Fed → Part → Bool
stands_at n fs k = stands (up_to n (accepted_calls fs)) k

abbrev pub last_writing_at : ℕ → List Fed → Part → Option Setting
last_writing_at n fs k = last_writing (up_to n (accepted_calls fs)) k
