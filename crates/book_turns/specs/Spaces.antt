-- The workspace of an enter, as it is lent.
use Rattle.std.specs.Prelude.{◌≡◌, ◌+◌, ◌*◌, length}
use Rattle.shared.specs.declared.sizes.Sizes.{Sizes}
use Rattle.book_turns.specs.declared.TurnSpace.{TurnSpace}
use Rattle.book_turns.specs.declared.Workspace.{Workspace}

-- it is cut into a word and a mark for each place, and the two ends of an edge twice for each slot
pub record Cut (z : Sizes) (w : Workspace) : Type 0 where
  pub words : length w.words.now ≡ z.a + z.b
  pub marks : length w.marks.now ≡ z.a + z.b
  pub ends : length w.ends.now ≡ 4 * z.buckets
  pub kept : length w.kept.now ≡ 4 * z.buckets

-- it holds the slices that it held before, so that a lender learns what is left in them
pub record SameSpace (w before : Workspace) : Type 0 where
  pub words : w.words.ghost_name ≡ before.words.ghost_name
  pub marks : w.marks.ghost_name ≡ before.marks.ghost_name
  pub ends : w.ends.ghost_name ≡ before.ends.ghost_name
  pub kept : w.kept.ghost_name ≡ before.kept.ghost_name

-- the same of what turning places over writes in; how many ends there are is known by what they are
pub record CutTurns (z : Sizes) (w : TurnSpace) : Type 0 where
  pub words : length w.words.now ≡ z.a + z.b
  pub marks : length w.marks.now ≡ z.a + z.b
  pub kept : length w.kept.now ≡ 4 * z.buckets

pub record SameTurns (w before : TurnSpace) : Type 0 where
  pub words : w.words.ghost_name ≡ before.words.ghost_name
  pub marks : w.marks.ghost_name ≡ before.marks.ghost_name
  pub kept : w.kept.ghost_name ≡ before.kept.ghost_name
