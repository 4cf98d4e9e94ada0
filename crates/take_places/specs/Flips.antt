-- The rows after the flips of a notice, to the byte.
use Rattle.std.specs.Prelude.{ℕ, List, [], ◌∷◌}
use Rattle.shared.specs.Notice.{Step, bucket, single}
use Rattle.shared_bits.specs.Bits.{flip_at}
use Rattle.shared_text.specs.Events.{Event, begin_bucket, setting_at, row_a, row_b, flip, end_bucket, slot_step}
use Rattle.shared_text.specs.declared.row.Row.{Row}
use Rattle.shared_text.specs.declared.row.Row.TheVariants.{A, B}
use Rattle.take_places.specs.declared.Flipper.{Flipper}

-- one place after the other turned over
abbrev pub flip_all : List ℕ → List ℕ → List ℕ
flip_all bs [] = bs
flip_all bs (p ∷ ps) = flip_all (flip_at bs p) ps

-- row a and row b after the steps
abbrev pub flipped_a : List ℕ → List Step → List ℕ
flipped_a bs [] = bs
flipped_a bs (bucket j s vs pa pb ∷ ss) = flipped_a (flip_all bs pa) ss
flipped_a bs (single j i v ∷ ss) = flipped_a bs ss

abbrev pub flipped_b : List ℕ → List Step → List ℕ
flipped_b bs [] = bs
flipped_b bs (bucket j s vs pa pb ∷ ss) = flipped_b (flip_all bs pb) ss
flipped_b bs (single j i v ∷ ss) = flipped_b bs ss

-- the same rows in other bytes, and another row meant
abbrev pub flipper_on : Flipper → List ℕ → List ℕ → Row → Flipper
flipper_on f a b row = record {
  row_a = record { ref_ptr = f.row_a.ref_ptr; ghost_name = f.row_a.ghost_name; now = a };
  row_b = record { ref_ptr = f.row_b.ref_ptr; ghost_name = f.row_b.ghost_name; now = b };
  row = row;
}

-- a place of the row turned over
abbrev pub flipped_in : Flipper → ℕ → Row → Flipper
flipped_in f p A = flipper_on f (flip_at f.row_a.now p) f.row_b.now f.row
flipped_in f p B = flipper_on f f.row_a.now (flip_at f.row_b.now p) f.row

-- the pass after a piece
abbrev pub flipping : Flipper → Event → Flipper
flipping f (begin_bucket j s) = f
flipping f (setting_at i v) = f
flipping f row_a = flipper_on f f.row_a.now f.row_b.now A
flipping f row_b = flipper_on f f.row_a.now f.row_b.now B
flipping f (flip p) = flipped_in f p f.row
flipping f end_bucket = f
flipping f (slot_step j i v) = f
