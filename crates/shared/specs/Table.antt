-- The keyless table of a controller: where a part is placed, find, and what a notice does.
-- A part is its list of bytes, and a setting its list of numbers. Place x of row a is x, and place y of row b is A + y, so
-- that both rows are one function of the place.
use Rattle.std.specs.Prelude.{ℕ, suc, ◌+◌, ◌-◌, ◌*◌, ◌/◌, ◌%◌, ◌^◌, Bool, true, false, cond, not, ◌&&◌, ◌||◌, List, [], ◌∷◌, Ok, Err, Result, ◌==◌, nat_lt, slice_index_or}
use Rattle.shared.specs.declared.refusal.Fault.{Fault}
use Rattle.shared.specs.declared.sizes.Sizes.{Sizes}
use Rattle.shared.specs.Answers.{Answer, accepted, refused_with, fault_values}
use Rattle.shared.specs.Graph.{Edge, bit_of, flipped}
use Rattle.shared.specs.Kinds.{Hash}
use Rattle.shared.specs.Lists.{memb, apart, all_below, up_from, at, at2}
use Rattle.shared.specs.Notice.{Setting, Kind, Step, bucket, single, Notice, read_notice}

abbrev pub Part : Type 0
Part = List ℕ

-- What a controller holds: the setting in slot i of bucket j, the bit of each place, each bucket's seed, and the number of
-- the last notice taken.
pub record Table : Type 0 where
  pub setting : ℕ → ℕ → Setting
  pub row : ℕ → Bool
  pub seed : ℕ → ℕ
  pub number : ℕ

-- a table just opened
abbrev pub fresh_table : Setting → Table
fresh_table blank = record { setting = λ j i. blank; row = λ p. false; seed = λ j. 0; number = 0 }

-- the slot of a part under a seed
abbrev pub slot_of : Hash → ℕ → Part → ℕ
slot_of hash s k = hash s k / 2 ^ 30

module _ (z : Sizes) (hash : Hash) where
  -- The four places of a part: its two buckets, and its place in each row, which are the ends of its edge.
  abbrev pub h0 : Part → ℕ
  h0 k = hash (256 + 4 * z.turn) k % z.buckets

  abbrev pub h1 : Part → ℕ
  h1 k = hash (257 + 4 * z.turn) k % z.buckets

  abbrev pub edge : Part → Edge
  edge k = (hash (258 + 4 * z.turn) k % z.a, z.a + hash (259 + 4 * z.turn) k % z.b)

  -- The bit of a part's edge chooses its bucket, and the bucket's seed its slot.
  abbrev pub choose : (ℕ → Bool) → Part → ℕ
  choose row k = cond (bit_of row (edge k)) (h1 k) (h0 k)

  abbrev pub find : Table → Part → Setting
  find t k = let j = choose t.row k in t.setting j (slot_of hash (t.seed j) k)

-- find as a call; a shut controller refuses it
abbrev pub find_answer : Bool → Sizes → Hash → Table → Part → Answer
find_answer shut z hash t k = cond shut (refused_with 2) (accepted (find z hash t k))

module _ (z : Sizes) (blank : Setting) where
  -- What a step does. A place of row b is past those of row a.
  abbrev pub applied : Table → Step → Table
  applied t (bucket j s vs pa pb) = record {
    setting = λ p i. cond (p == j) (slice_index_or vs i blank) (t.setting p i);
    row = flipped (λ p. cond (nat_lt p z.a) (memb p pa) (memb (p - z.a) pb)) t.row;
    seed = at t.seed j s;
    number = t.number;
  }
  applied t (single j i v) = record { setting = at2 t.setting j i v; row = t.row; seed = t.seed; number = t.number }

  abbrev pub applied_all : Table → List Step → Table
  applied_all t [] = t
  applied_all t (s ∷ ss) = applied_all (applied t s) ss

-- how many of the buckets have a seed over 30, which takes an overflow entry
abbrev pub entries : (ℕ → ℕ) → List ℕ → ℕ
entries seed [] = 0
entries seed (j ∷ js) = cond (nat_lt 30 (seed j)) 1 0 + entries seed js

module _ (z : Sizes) where
  abbrev pub entries_used : (ℕ → ℕ) → ℕ
  entries_used seed = entries seed (up_from 0 z.buckets)

  abbrev pub too_many : (ℕ → ℕ) → Bool
  too_many seed = nat_lt z.overflow (entries_used seed)

  -- after some step more entries are used than there are
  abbrev pub overflows : (ℕ → ℕ) → List Step → Bool
  overflows seed [] = false
  overflows seed (bucket j s vs pa pb ∷ steps) = let after = at seed j s in too_many after || overflows after steps
  overflows seed (single j i v ∷ steps) = overflows seed steps

  -- every bucket, slot, seed and place of the steps is inside
  abbrev pub within : List Step → Bool
  within [] = true
  within (bucket j s vs pa pb ∷ ss) = nat_lt j z.buckets && nat_lt s 256 && all_below z.a pa && all_below z.b pb && within ss
  within (single j i v ∷ ss) = nat_lt j z.buckets && nat_lt i 4 && within ss

abbrev pub buckets_of : List Step → List ℕ
buckets_of [] = []
buckets_of (bucket j s vs pa pb ∷ ss) = j ∷ buckets_of ss
buckets_of (single j i v ∷ ss) = j ∷ buckets_of ss

-- What taking a notice comes to: a refusal's number, a text that is no notice, or the table after it
pub data Taking : Type 0 where
  refused_take : ℕ → Taking
  unread : Fault → Taking
  took : Table → Taking

abbrev pub next_table : Table → Table
next_table t = record { setting = t.setting; row = t.row; seed = t.seed; number = suc t.number }

abbrev pub barring : Bool → ℕ → (Unit {0} → Taking) → Taking
barring true n rest = refused_take n
barring false n rest = rest tt

-- the checks of a notice that was read, each over all its steps before the next
abbrev pub taken : Sizes → Setting → Table → Notice → Taking
taken z blank t m =
    barring (not (m.0 == suc t.number)) 15 λ _.
    barring (not (within z m.1)) 16 λ _.
    barring (not (apart (buckets_of m.1))) 17 λ _.
    barring (overflows z t.seed m.1) 10 λ _.
    took (next_table (applied_all z blank t m.1))

abbrev pub taken_read : Sizes → Setting → Table → Result Notice Fault → Taking
taken_read z blank t (Ok m) = taken z blank t m
taken_read z blank t (Err f) = unread f

-- take as a call: of a text
abbrev pub take_text : Bool → Sizes → Kind → Table → List ℕ → Taking
take_text shut z kind t text = barring shut 2 λ _. taken_read z kind.blank t (read_notice kind text)

-- what it answers, the notice's number where it is taken, and the table that it leaves
abbrev pub take_answer : Taking → Answer
take_answer (refused_take n) = refused_with n
take_answer (unread f) = (14, fault_values f)
take_answer (took t) = accepted (t.number ∷ [])

abbrev pub held : Table → Taking → Table
held t (refused_take n) = t
held t (unread f) = t
held t (took u) = u
