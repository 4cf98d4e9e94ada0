-- Which calls a book accepts, and with which number it refuses the others: causes as facts about the ledger, the edges, the
-- chains and the seeds, and the first one that holds counts.
use Rattle.std.specs.Prelude.{◌≡◌, ℕ, suc, ◌<◌, Bool, true, ◌⊎◌, ◌↔◌, List, [], ◌∷◌, ◌++◌, map, length, ◌≢◌}
use Rattle.std.proofs.Math.Option.{some}
use Rattle.shared.specs.declared.sizes.Sizes.{Sizes}
use Rattle.shared.specs.Book.{Held, Slot, Book, part_of, contents, standing, empty_slot, other, placed, Call, enter, change, strike, Request, last_number, leaves}
use Rattle.shared.specs.Graph.{Joined}
use Rattle.shared.specs.Kinds.{Hash}
use Rattle.shared.specs.Ledger.{accepted_calls, stands}
use Rattle.shared.specs.Lists.{apart, at, at2}
use Rattle.shared.specs.Notice.{Setting, Kind, Step, bucket, single, notice_text}
use Rattle.shared.specs.Table.{Part, slot_of, edge, entries_used}
use Rattle.chain_laws.specs.Chains.{ChainFor, Used}
use Rattle.history.specs.History.{Story, story}
use Rattle.history.specs.Premises.{Family}

-- a cause of refusal with its number
pub record Cause : Type 1 where
  pub number : ℕ
  pub holds : Type 0

abbrev pub cause : ℕ → Type 0 → Cause
cause n holds = record { number = n; holds = holds }

-- none of the causes holds; n is the number of the first that does
abbrev pub NoneOf : List Cause → Type 0
NoneOf [] = Unit {0}
NoneOf (c ∷ cs) = (c.holds → ⊥) × NoneOf cs

abbrev pub FirstOf : List Cause → ℕ → Type 0
FirstOf [] n = ⊥
FirstOf (c ∷ cs) n = ((n ≡ c.number) × c.holds) ⊎ ((c.holds → ⊥) × FirstOf cs n)

-- a seed from 0 to 255 puts the parts into different slots
abbrev pub HasSeed : Hash → List Part → Type 0
HasSeed hash ks = (s : ℕ) × (s < 256) × (apart (map (slot_of hash s) ks) ≡ true)

-- Every step of a chain that brings h to bucket j has a seed. A step's parts are those that its bucket has after it: with the
-- part that comes in the place of the one that moved on.
abbrev pub Seeded : Sizes → Hash → (ℕ → ℕ → Slot) → ℕ → Held → List ℕ → Type 0
Seeded z hash slot j h [] = (i : ℕ) × (empty_slot slot j ≡ some i) × HasSeed hash (map part_of (contents (at2 slot j i (some h)) j))
Seeded z hash slot j h (i ∷ is) =
    (g : Held) × (slot j i ≡ some g) × HasSeed hash (map part_of (contents (at2 slot j i (some h)) j)) × Seeded z hash slot (other z hash g.0 j) g is

-- the buckets' seeds after some steps, and that after some of them more overflow entries are used than there are
abbrev pub seeds_after : (ℕ → ℕ) → List Step → ℕ → ℕ
seeds_after seed [] = seed
seeds_after seed (bucket j s vs pa pb ∷ ss) = seeds_after (at seed j s) ss
seeds_after seed (single j i v ∷ ss) = seeds_after seed ss

abbrev pub Overfull : Sizes → (ℕ → ℕ) → List Step → Type 0
Overfull z seed steps = (xs : List Step) × (ys : List Step) × (xs ++ ys ≡ steps) × (z.overflow < entries_used z (seeds_after seed xs))

module _ (shut : Bool) (z : Sizes) (hash : Hash) (kind : Kind) (w : Story) (q : Request) where
  -- by the ledger
  abbrev pub Stands : Part → Type 0
  Stands k = stands (accepted_calls w.fed) k ≡ true

  abbrev pub standing_parts : List Part
  standing_parts = map part_of (standing z w.book.slot)

  -- the steps of an enter: those of the chain that the book uses
  pub record EnterSteps (k : Part) (v : Setting) (steps : List Step) : Type 0 where
    pub path : ℕ × List ℕ
    pub used : Used z hash w.book.slot k path
    pub after : Book
    pub put : placed z hash kind.blank standing_parts w.book path.0 (k, v) path.1 ≡ some (after, steps)

  -- the notice with these steps does not fit the buffer
  abbrev pub TooLong : List Step → Type 0
  TooLong steps = length q.buffer < length (notice_text kind (suc w.book.number) steps)

  abbrev pub of_call : Call → List Cause
  of_call (enter k v) =
      cause 5 (Stands k)
      ∷ cause 8 (Joined (map (edge z hash) standing_parts) (edge z hash k).0 (edge z hash k).1)
      ∷ cause 7 ((c : ℕ × List ℕ) → ChainFor z hash w.book.slot k c → ⊥)
      ∷ cause 9 ((c : ℕ × List ℕ) × Used z hash w.book.slot k c × (Seeded z hash w.book.slot c.0 (k, v) c.1 → ⊥))
      ∷ cause 10 ((steps : List Step) × EnterSteps k v steps × Overfull z w.book.seed steps)
      ∷ cause 11 ((steps : List Step) × EnterSteps k v steps × TooLong steps)
      ∷ []
  of_call (change k v) =
      cause 6 (Stands k → ⊥)
      ∷ cause 11 ((j : ℕ) × (i : ℕ) × (x : Setting) × (w.book.slot j i ≡ some (k, x)) × TooLong (single j (slot_of hash (w.book.seed j) k) v ∷ []))
      ∷ []
  of_call (strike k) = cause 6 (Stands k → ⊥) ∷ cause 11 (TooLong []) ∷ []

  abbrev pub causes : List Cause
  causes = cause 2 (shut ≡ true) ∷ cause 13 (q.sheet ≢ 0) ∷ cause 12 (w.book.number ≡ last_number) ∷ of_call q.call

-- After any calls, a book answers 0 to the next one exactly where no cause holds, and another number exactly where that is
-- the number of the first cause that holds.
abbrev pub CallsJudged : Kind → Type 0
CallsJudged kind =
    (shut : Bool) (z : Sizes) (hash : Hash) → Family hash → (qs : List Request) (q : Request) →
    let w = story shut z hash kind qs in
    let n = (leaves shut z hash kind w.book q).answer.0 in
    ((n ≡ 0) ↔ NoneOf (causes shut z hash kind w q)) × ((m : ℕ) → (m ≢ 0) → (n ≡ m) ↔ FirstOf (causes shut z hash kind w q) m)
