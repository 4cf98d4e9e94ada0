-- The workshop's book: the maintenance structure that holds the keys and writes the notices.
use Rattle.std.specs.Prelude.{ℕ, zero, suc, ◌+◌, ◌-◌, Bool, true, false, cond, not, List, [], ◌∷◌, ◌++◌, map, length, drop, ◌==◌, nat_le, nat_lt}
use Rattle.std.proofs.Math.Option.{Option, none, some}
use Rattle.shared.specs.declared.sizes.Sizes.{Sizes}
use Rattle.shared.specs.Answers.{Answer, accepted, refused_with}
use Rattle.shared.specs.Graph.{Edge, joins, ◌⊕◌, bit_of, flipped, without}
use Rattle.shared.specs.Kinds.{Hash}
use Rattle.shared.specs.Lists.{same_list, memb, apart, up_from, kept, first_from, first_answer, ◌then◌, ◌or_else◌, is_found, at, at2}
use Rattle.shared.specs.Notice.{Setting, Kind, Step, bucket, single, notice_text}
use Rattle.shared.specs.Table.{Part, h0, h1, edge, slot_of, overflows, entries_used}

-- a part with its setting; a slot is empty or holds one
abbrev pub Held : Type 0
Held = Part × Setting

abbrev pub Slot : Type 0
Slot = Option Held

abbrev pub part_of : Held → Part
part_of h = h.0

-- What a book holds: slot i of bucket j, the bit of each place, each bucket's seed, and the number of its last notice.
pub record Book : Type 0 where
  pub slot : ℕ → ℕ → Slot
  pub row : ℕ → Bool
  pub seed : ℕ → ℕ
  pub number : ℕ

-- a book just made
abbrev pub fresh_book : Book
fresh_book = record { slot = λ j i. none; row = λ p. false; seed = λ j. 0; number = 0 }

-- the book with other slots
abbrev pub slots : Book → (ℕ → ℕ → Slot) → Book
slots b slot = record { slot = slot; row = b.row; seed = b.seed; number = b.number }

-- What stands: the contents of a bucket, of some buckets, of all
abbrev pub held_in : List Slot → List Held
held_in [] = []
held_in (none ∷ xs) = held_in xs
held_in (some x ∷ xs) = x ∷ held_in xs

abbrev pub contents : (ℕ → ℕ → Slot) → ℕ → List Held
contents slot j = held_in (slot j 0 ∷ slot j 1 ∷ slot j 2 ∷ slot j 3 ∷ [])

abbrev pub contents_from : (ℕ → ℕ → Slot) → List ℕ → List Held
contents_from slot [] = []
contents_from slot (j ∷ js) = contents slot j ++ contents_from slot js

abbrev pub standing : Sizes → (ℕ → ℕ → Slot) → List Held
standing z slot = contents_from slot (up_from 0 z.buckets)

-- where a part stands: its bucket, its slot
abbrev pub where_is : Sizes → (ℕ → ℕ → Slot) → Part → Option (ℕ × ℕ)
where_is z slot k =
    first_answer (λ j. first_answer (λ i. slot j i then (λ h. cond (same_list k h.0) (some (j, i)) none)) 0 4) 0 z.buckets

abbrev pub is_empty : Slot → Bool
is_empty none = true
is_empty (some h) = false

abbrev pub empty_slot : (ℕ → ℕ → Slot) → ℕ → Option ℕ
empty_slot slot j = first_from (λ i. is_empty (slot j i)) 0 4

-- the most moves of a chain
abbrev pub most_moves : ℕ
most_moves = 4

module _ (hash : Hash) where
  -- the least seed from 0 to 255 under which no two of the parts share a slot
  abbrev pub seed_for : List Part → Option ℕ
  seed_for ks = first_from (λ s. apart (map (slot_of hash s) ks)) 0 256

  -- the setting of the part that has slot i under a seed, else the blank
  abbrev pub value_at : Setting → ℕ → List Held → ℕ → Setting
  value_at blank s [] i = blank
  value_at blank s (h ∷ hs) i = cond (slot_of hash s h.0 == i) h.1 (value_at blank s hs i)

module _ (z : Sizes) (hash : Hash) where
  -- a part's other bucket
  abbrev pub other : Part → ℕ → ℕ
  other k j = cond (h0 z hash k == j) (h1 z hash k) (h0 z hash k)

  -- A chain (a cuckoo path) from bucket j: the slots that it empties, least first among those of m moves. Each move takes
  -- the part in a slot to its other bucket, which is none of those seen so far; the last bucket has an empty slot.
  unfoldable pub walk : (ℕ → ℕ → Slot) → ℕ → ℕ → List ℕ → Option (List ℕ)
  walk slot zero j seen = empty_slot slot j then (λ i. some [])
  walk slot (suc m) j seen =
      first_answer
      (λ i. slot j i then (λ h.
      let o = other h.0 j in
      elim (memb o seen) [ true ↦ none | false ↦ walk slot m o (o ∷ seen) then (λ is. some (i ∷ is)) ]))
      0 4

  -- the chain's first bucket and slots: fewest moves, then side 0 before side 1, then the least slots
  abbrev pub chain : (ℕ → ℕ → Slot) → Part → Option (ℕ × List ℕ)
  chain slot k =
      first_answer
      (λ m. (walk slot m (h0 z hash k) (h0 z hash k ∷ []) then (λ is. some (h0 z hash k, is)))
      or_else (walk slot m (h1 z hash k) (h1 z hash k ∷ []) then (λ is. some (h1 z hash k, is))))
      0 (suc most_moves)

  -- the places that edges join to y, y with them
  abbrev pub places : List Edge → ℕ → List ℕ
  places es y = let hit = joins es y in kept hit (up_from 0 (z.a + z.b))

module _ (z : Sizes) (hash : Hash) (blank : Setting) where
  -- The places turned where k is put into bucket j. Its bit has to be 0 where j is its first bucket, else 1; if it is not,
  -- every place turns that the edges of the parts standing before, k's left out, join to k's place in row b.
  abbrev pub turned : List Part → (ℕ → Bool) → ℕ → Part → List ℕ
  turned before row j k =
      let e = edge z hash k in
      cond (bit_of row e ⊕ not (h0 z hash k == j)) (places z hash (map (edge z hash) (without same_list k before)) e.1) []

  -- what bucket j holds with h in its slot i; the book after the step that writes it with seed s, and that step
  abbrev pub holding : Book → ℕ → ℕ → Held → List Held
  holding b j i h = contents (at2 b.slot j i (some h)) j

  abbrev pub book_after : List Part → Book → ℕ → ℕ → Held → ℕ → Book
  book_after before b j i h s = record {
    slot = at2 b.slot j i (some h);
    row = flipped (λ p. memb p (turned before b.row j h.0)) b.row;
    seed = at b.seed j s;
    number = b.number;
  }

  abbrev pub step_for : List Part → Book → ℕ → ℕ → Held → ℕ → Step
  step_for before b j i h s =
      let ps = turned before b.row j h.0 in
      bucket j s (map (value_at hash blank s (holding b j i h)) (0 ∷ 1 ∷ 2 ∷ 3 ∷ []))
      (kept (λ p. nat_lt p z.a) ps)
      (map (λ p. p - z.a) (kept (λ p. nat_le z.a p) ps))

  abbrev pub written : List Part → Book → ℕ → ℕ → Held → Option (Book × Step)
  written before b j i h =
      seed_for hash (map part_of (holding b j i h)) then (λ s. some (book_after before b j i h s, step_for before b j i h s))

  -- h goes to bucket j: first the part in the chain's slot moves on, then h takes that slot; the last takes the lowest
  -- empty one. The steps run from the chain's far end.
  abbrev pub placed : List Part → Book → ℕ → Held → List ℕ → Option (Book × List Step)
  placed before b j h [] = empty_slot b.slot j then (λ i. written before b j i h then (λ w. some (w.0, w.1 ∷ [])))
  placed before b j h (i ∷ is) =
      b.slot j i then (λ g.
      placed before (slots b (at2 b.slot j i none)) (other z hash g.0 j) g is then (λ moved.
      written before moved.0 j i h then (λ w. some (w.0, moved.1 ++ (w.1 ∷ [])))))

-- The calls that write a notice
pub data Call : Type 0 where
  enter : Part → Setting → Call
  change : Part → Setting → Call
  strike : Part → Call

-- a call, with the number on its sheet (0: blank) and the notice buffer that it is given
pub record Request : Type 0 where
  pub call : Call
  pub sheet : ℕ
  pub buffer : List ℕ

-- What a call comes to: a refusal's number, or the book after it and the notice's steps
pub data Outcome : Type 0 where
  refused : ℕ → Outcome
  done : Book → List Step → Outcome

-- a refusal where a test passes, or where there is nothing; else what follows
abbrev pub unless : Bool → ℕ → (Unit {0} → Outcome) → Outcome
unless true n rest = refused n
unless false n rest = rest tt

abbrev pub given : {A : Type 0} → Option A → ℕ → (A → Outcome) → Outcome
given none n rest = refused n
given (some x) n rest = rest x

abbrev pub raised : Book → Book
raised b = record { slot = b.slot; row = b.row; seed = b.seed; number = suc b.number }

-- the last number that a book writes
abbrev pub last_number : ℕ
last_number = 4000000000

-- the last check of each call: the notice fits its buffer
abbrev pub told : Kind → ℕ → Book → List Step → Outcome
told kind room b steps = unless (nat_lt room (length (notice_text kind (suc b.number) steps))) 11 λ _. done (raised b) steps

module _ (z : Sizes) (hash : Hash) (kind : Kind) where
  -- the checks of each call in their order, each over all steps before the next
  abbrev pub called : Book → ℕ → Call → Outcome
  called b room (enter k v) =
      let before = map part_of (standing z b.slot) in
      unless (is_found (where_is z b.slot k)) 5 λ _.
      unless (joins (map (edge z hash) before) (edge z hash k).0 (edge z hash k).1) 8 λ _.
      given (chain z hash b.slot k) 7 λ c.
      given (placed z hash kind.blank before b c.0 (k, v) c.1) 9 λ r.
      unless (overflows z b.seed r.1) 10 λ _.
      told kind room r.0 r.1
  called b room (change k v) =
      given (where_is z b.slot k) 6 λ p.
      told kind room (slots b (at2 b.slot p.0 p.1 (some (k, v)))) (single p.0 (slot_of hash (b.seed p.0) k) v ∷ [])
  called b room (strike k) =
      given (where_is z b.slot k) 6 λ p.
      told kind room (slots b (at2 b.slot p.0 p.1 none)) []

  abbrev pub answered : Bool → Book → Request → Outcome
  answered shut b q =
      unless shut 2 λ _.
      unless (not (q.sheet == 0)) 13 λ _.
      unless (b.number == last_number) 12 λ _.
      called b (length q.buffer) q.call

-- What a call answers and leaves: the filled length, the book, the sheet with the call's number, and the buffer with the
-- notice at its front and its rest as it was. A refused call leaves everything as it was.
pub record Left : Type 0 where
  pub answer : Answer
  pub book : Book
  pub sheet : ℕ
  pub buffer : List ℕ

abbrev pub left : Kind → Book → Request → Outcome → Left
left kind b q (refused n) = record { answer = refused_with n; book = b; sheet = q.sheet; buffer = q.buffer }
left kind b q (done after steps) =
    let text = notice_text kind after.number steps in
    record { answer = accepted (length text ∷ []); book = after; sheet = after.number; buffer = text ++ drop (length text) q.buffer }

-- an enter, a change or a strike, whole
abbrev pub leaves : Bool → Sizes → Hash → Kind → Book → Request → Left
leaves shut z hash kind b q = left kind b q (answered z hash kind shut b q)

-- Tell: a standing part's setting, from the book
abbrev pub lookup : Part → List Held → Option Setting
lookup k [] = none
lookup k (h ∷ hs) = elim (same_list k h.0) [ true ↦ some h.1 | false ↦ lookup k hs ]

abbrev pub told_setting : Option Setting → Answer
told_setting none = refused_with 6
told_setting (some v) = accepted v

abbrev pub tell : Bool → Sizes → Book → Part → Answer
tell shut z b k = cond shut (refused_with 2) (told_setting (lookup k (standing z b.slot)))

-- Closing: standing parts, number and overflow entries used; a shut book gives three zeros
abbrev pub closing : Bool → Sizes → Book → List ℕ
closing shut z b = cond shut (0 ∷ 0 ∷ 0 ∷ []) (length (standing z b.slot) ∷ b.number ∷ entries_used z b.seed ∷ [])
