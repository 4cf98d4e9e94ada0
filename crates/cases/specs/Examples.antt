-- The worked examples: what the rules give, beside what it should be.
use Rattle.std.specs.Prelude.{◌≡◌, List, [], ◌∷◌, ◌++◌, map, ℕ, codes, T, leb, replicate, take, get_or, true, false}
use Rattle.std.proofs.Math.Option.{Option, none, some}
use Rattle.std.proofs.Common.{leb→le}
use Rattle.shared.specs.declared.sizes.Sizes.{Sizes}
use Rattle.shared.specs.Book.{Book, Request, Left, leaves, fresh_book, seed_for, enter}
use Rattle.shared.specs.Kinds.{Hash}
use Rattle.shared.specs.Notice.{Kind}
use Rattle.shared.specs.Table.{slot_of}
use Rattle.shared_families.specs.Hashes.{triangular, fnv1a, pearson, held_back}

-- set numbers: one number each, blank 0
abbrev pub set_number : Kind
set_number = record { count = 1; lawful = λ vs. true; blank = 0 ∷ [] }

-- sizes with turn 0, each limit by a test that is computed
abbrev pub sized : (n a b w : ℕ) → T (leb 1 n) → T (leb n 4096) → T (leb 1 a) → T (leb a 32768) → T (leb 1 b) → T (leb b 32768) → T (leb w 256) → Sizes
sized n a b w n1 n2 a1 a2 b1 b2 w2 = record {
  buckets = n;
  a = a;
  b = b;
  overflow = w;
  turn = 0;
  some_buckets = leb→le 1 n n1;
  few_buckets = leb→le n 4096 n2;
  some_a = leb→le 1 a a1;
  few_a = leb→le a 32768 a2;
  some_b = leb→le 1 b b1;
  few_b = leb→le b 32768 b2;
  few_overflow = leb→le w 256 w2;
  few_turn = leb→le 0 15 tt;
}

-- one bucket and eight bits in each row; the same with an overflow entry; one bit in each row; two buckets
abbrev pub one_bucket : Sizes
one_bucket = sized 1 8 8 0 tt tt tt tt tt tt tt

abbrev pub one_entry : Sizes
one_entry = sized 1 8 8 1 tt tt tt tt tt tt tt

abbrev pub one_bit : Sizes
one_bit = sized 1 1 1 0 tt tt tt tt tt tt tt

abbrev pub two_buckets : Sizes
two_buckets = sized 2 8 16 1 tt tt tt tt tt tt tt

-- entering a part of one letter, with a blank sheet and a buffer of 100 bytes
abbrev pub put : List ℕ → ℕ → Request
put k v = record { call = enter k (v ∷ []); sheet = 0; buffer = replicate 100 0 }

-- the book after some enters, the newest first
abbrev pub after : Sizes → Hash → List Request → Book
after z hash [] = fresh_book
after z hash (q ∷ qs) = (leaves false z hash set_number (after z hash qs) q).book

-- one more enter: its answer's number and values, and the buffer as far as it is filled
abbrev pub shown : Left → List ℕ
shown l = l.answer.0 ∷ l.answer.1 ++ take (get_or l.answer.1 0 0) l.buffer

abbrev pub entering : Sizes → Hash → Request → List Request → List ℕ
entering z hash q qs = shown (leaves false z hash set_number (after z hash qs) q)

abbrev pub list_of : Option ℕ → List ℕ
list_of none = []
list_of (some s) = s ∷ []

abbrev pub line : List ℕ → List ℕ
line text = text ++ (10 ∷ [])

-- each example's value by the rules, and the value that it should have
abbrev pub examples : List (List ℕ × List ℕ)
examples =
    (triangular 7 ∷ triangular 255 ∷ [], 28 ∷ 128 ∷ [])
    ∷ (fnv1a [] ∷ fnv1a (codes "a") ∷ [], 0x811C9DC5 ∷ 0xE40C292C ∷ [])
    ∷ (pearson 0 (codes "A") ∷ [], 0x6120FCF2 ∷ [])
    ∷ (map (slot_of pearson 0) (codes "A" ∷ codes "B" ∷ codes "C" ∷ codes "D" ∷ []), 1 ∷ 2 ∷ 3 ∷ 0 ∷ [])
    ∷ (list_of (seed_for pearson (codes "A" ∷ codes "E" ∷ [])), 4 ∷ [])
    ∷ (entering one_bucket pearson (put (codes "A") 7) [], 0 ∷ 60 ∷ line (codes "(notice 1 1)") ++ line (codes "(bucket 0 0 ((0) (7) (0) (0)) (a) (b))") ++ line (codes "(end 1)"))
    ∷ (entering one_bucket pearson (put (codes "E") 5) (put (codes "D") 4 ∷ put (codes "C") 3 ∷ put (codes "B") 2 ∷ put (codes "A") 1 ∷ []), 7 ∷ [])
    ∷ (entering one_bit pearson (put (codes "B") 2) (put (codes "A") 1 ∷ []), 8 ∷ [])
    ∷ (entering one_bucket (held_back 256) (put (codes "E") 2) (put (codes "A") 1 ∷ []), 9 ∷ [])
    ∷ (entering one_bucket (held_back 31) (put (codes "E") 2) (put (codes "A") 1 ∷ []) ++ entering one_entry (held_back 31) (put (codes "E") 2) (put (codes "A") 1 ∷ []), 10 ∷ 0 ∷ 61 ∷ line (codes "(notice 2 1)") ++ line (codes "(bucket 0 31 ((0) (2) (1) (0)) (a) (b))") ++ line (codes "(end 2)"))
    ∷ (entering two_buckets pearson (put (codes "I") 5) (put (codes "F") 4 ∷ put (codes "E") 3 ∷ put (codes "B") 2 ∷ put (codes "A") 1 ∷ []), 0 ∷ 63 ∷ line (codes "(notice 5 1)") ++ line (codes "(bucket 1 0 ((0) (0) (5) (0)) (a) (b 13))") ++ line (codes "(end 5)"))
    ∷ []

-- every example has the value that it should have
abbrev pub Hold : List (List ℕ × List ℕ) → Type 0
Hold [] = Unit {0}
Hold (c ∷ cs) = (c.0 ≡ c.1) × Hold cs
