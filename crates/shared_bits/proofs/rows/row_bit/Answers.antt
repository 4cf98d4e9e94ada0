-- A shift and a mask read one bit.
use Rattle.std.proofs.Common.{ℕ, ◌/◌, ◌%◌, ◌^◌, eqb, get_or, ap}
use lib.Bits.{and_mask}
use Rattle.shared_bits.specs.Bits.{bit_at, lit}
use Rattle.shared_bits.proofs.rows.row_bit.Goals as goal

pub returns : goal.returns
unfolding lit bit_at
returns c = ap (λ (n : ℕ). eqb n 1) (and_mask (get_or c.args.row.now (c.args.place / 8) 0 / 2 ^ (c.args.place % 8)) 1)
