-- What a book's memory shows: the rules' book.
use Rattle.std.specs.Prelude.{◌≡◌, ℕ, List, Option}
use Rattle.shared.specs.declared.sizes.Sizes.{Sizes}
use Rattle.shared.specs.Book.{Book}
use Rattle.shared_overflow.specs.declared.Entry.{Entry}
use Rattle.shared_table.specs.Memory.{row_of, seed_of}
use Rattle.book_slots.specs.declared.Held.{Held}
use Rattle.book_slots.specs.Slots.{slot_in}
use Rattle.book_enter.specs.declared.memory.Memory.{Memory}
use Rattle.book_enter.specs.declared.reading.Reading.{Reading}

-- the book that these parts of a memory show
abbrev pub book_in : {P S : Type 0} → (P → List ℕ) → (S → List ℕ) → Sizes → List (Option (Held P S)) → List ℕ → List ℕ → List ℕ → List Entry → ℕ → Book
book_in bytes numbers z slots rowa rowb seeds over number = record {
  slot = slot_in bytes numbers slots;
  row = row_of z.a rowa rowb;
  seed = seed_of seeds over;
  number = number;
}

-- the book that the memory shows
abbrev pub book_of : {P S : Type 0} → (P → List ℕ) → (S → List ℕ) → Memory P S → Book
book_of bytes numbers m = book_in bytes numbers m.sizes m.slots.now m.row_a.now m.row_b.now m.seeds.now m.overflow.now m.number

-- and where it is lent to be read
abbrev pub book_read : {P S : Type 0} → (P → List ℕ) → (S → List ℕ) → Reading P S → Book
book_read bytes numbers m = book_in bytes numbers m.sizes m.slots.now m.row_a.now m.row_b.now m.seeds.now m.overflow.now m.number

-- it holds the slices that it held before, so that a lender learns what is left in them
pub record SameMemory {P S : Type 0} (m before : Memory P S) : Type 0 where
  pub slots : m.slots.ghost_name ≡ before.slots.ghost_name
  pub row_a : m.row_a.ghost_name ≡ before.row_a.ghost_name
  pub row_b : m.row_b.ghost_name ≡ before.row_b.ghost_name
  pub seeds : m.seeds.ghost_name ≡ before.seeds.ghost_name
  pub overflow : m.overflow.ghost_name ≡ before.overflow.ghost_name
