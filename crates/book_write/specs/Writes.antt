-- What the memory shows once a plan is written.
use Rattle.std.specs.Prelude.{◌≡◌, ℕ, ◌%◌, cond, List, [], ◌∷◌, length, Ok, Err, Result, ◌==◌, nat_lt, slice_index}
use Rattle.shared.specs.declared.sizes.Sizes.{Sizes}
use Rattle.shared.specs.declared.refusal.Refusal.{Refusal}
use Rattle.shared.specs.Answers.{Answer}
use Rattle.shared.specs.Book.{Book, Call, Request, called, left}
use Rattle.shared.specs.Kinds.{Hash}
use Rattle.shared.specs.Notice.{Kind}
use Rattle.shared_bits.specs.Bits.{lit, put_field}
use Rattle.shared_overflow.specs.declared.Entry.{Entry}
use Rattle.shared_table.specs.Memory.{seed_of, Sound}
use Rattle.chain_laws.specs.Plans.{Placement, seeds_after}

-- the seed area after the placements, byte by byte
abbrev pub fields_after : List ℕ → List Placement → List ℕ
fields_after area [] = area
fields_after area (p ∷ ps) = fields_after (put_field area p.into (cond (nat_lt p.seed 31) p.seed 31)) ps

-- every bucket has its seed after the placements, and the overflow entries match
pub record SeedsStored (z : Sizes) (seeds : List ℕ) (over : List Entry) (ps : List Placement) (seeds' : List ℕ) (over' : List Entry) : Type 0 where
  pub bytes : seeds' ≡ fields_after seeds ps
  pub shown : seed_of seeds' over' ≡ seeds_after (seed_of seeds over) ps
  pub sound : Sound z.buckets seeds' over'
  pub long : length over' ≡ length over

-- The row's first bits are those of the words, and every other bit of the area is as it was.
pub record RowStored (row words row' : List ℕ) : Type 0 where
  pub bits : (i : ℕ) → lit row' i ≡ cond (nat_lt i (length words)) (slice_index words i % 2 == 1) (lit row i)
  pub same : length row' ≡ length row

-- a call on a blank sheet
abbrev pub asked : Call → List ℕ → Request
asked call buffer = record { call = call; sheet = 0; buffer = buffer }

-- What a call answers, and the book and the buffer that it leaves, are the rules'.
pub record CallLeft (z : Sizes) (hash : Hash) (kind : Kind) (b : Book) (call : Call) (buffer : List ℕ) (given : Answer) (after : Book) (buffer' : List ℕ) : Type 0 where
  pub answered : given ≡ (left kind b (asked call buffer) (called z hash kind b (length buffer) call)).answer
  pub booked : after ≡ (left kind b (asked call buffer) (called z hash kind b (length buffer) call)).book
  pub noticed : buffer' ≡ (left kind b (asked call buffer) (called z hash kind b (length buffer) call)).buffer

-- a refused call leaves what was there
abbrev pub SameIf : {X A : Type 0} → Result X Refusal → A → A → Type 0
SameIf (Ok x) now before = Unit {0}
SameIf (Err e) now before = now ≡ before
