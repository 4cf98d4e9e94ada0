use Rattle.std.proofs.Common.{◌≡◌, ℕ, ◌%◌, cond, eqb, ltb, get_or}
use Rattle.shared_bits.specs.Bits.{lit}
use Rattle.book_write.proofs.rows.store_row.Given as goal

abbrev pub invariant-loop-place : goal.invariant-loop-place
invariant-loop-place l = (i : ℕ) → lit l.row i ≡ cond (ltb i l.place) (eqb (get_or l.words i 0 % 2) 1) (lit l.initial.row i)
