-- What holds of a book and of a table that has done the same steps, after each single step: the invariant behind the law.
-- The parts of `before` are those whose edges may have been counted on.
use Rattle.std.specs.Prelude.{◌≡◌, ℕ, ◌<◌, List}
use Rattle.std.proofs.Math.Option.{some}
use Rattle.shared.specs.declared.sizes.Sizes.{Sizes}
use Rattle.shared.specs.Book.{Held, Book}
use Rattle.shared.specs.Kinds.{Hash}
use Rattle.shared.specs.Lists.{Among}
use Rattle.shared.specs.Table.{Part, Table, choose, slot_of}

pub record Mid (z : Sizes) (hash : Hash) (before : List Part) (b : Book) (t : Table) : Type 0 where
  pub row : t.row ≡ b.row
  pub seed : t.seed ≡ b.seed
  pub seeds : (j : ℕ) → b.seed j < 256
  -- a held part's bit chooses its bucket, and its slot there has its setting
  pub chosen : (j i : ℕ) (h : Held) → b.slot j i ≡ some h → choose z hash b.row h.0 ≡ j
  pub value : (j i : ℕ) (h : Held) → b.slot j i ≡ some h → t.setting j (slot_of hash (b.seed j) h.0) ≡ h.1
  pub apart : (j i k : ℕ) (g h : Held) → b.slot j i ≡ some g → b.slot j k ≡ some h → slot_of hash (b.seed j) g.0 ≡ slot_of hash (b.seed j) h.0 → i ≡ k
  pub range : (j i : ℕ) (h : Held) → b.slot j i ≡ some h → (j < z.buckets) × (i < 4)
  pub stood : (j i : ℕ) (h : Held) → b.slot j i ≡ some h → Among h.0 before
