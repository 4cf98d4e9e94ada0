use Rattle.std.proofs.Common.{◌≡◌, ℕ, ◌<◌, cond, get_or}
use Rattle.shared_table.specs.Memory.{row_of}
use Rattle.book_enter.proofs.reading.Reading.load_rows.Given as goal

abbrev pub invariant-loop-place : goal.invariant-loop-place
invariant-loop-place g l = (p : ℕ) → p < l.place → get_or l.words p 0 ≡ cond (row_of l.self.sizes.a l.self.row_a.now l.self.row_b.now p) 1 0
