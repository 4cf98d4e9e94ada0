-- The one bit shifted is a power of two.
use Rattle.std.proofs.Common.{ℕ, ◌/◌, ◌%◌, get_or, set, ap, arith}
use lib.Bits.{bit_xor}
use Rattle.std.proofs.lemmas.Nat.{one_shl}
use Rattle.shared_bits.specs.Bits.{flip_at}
use Rattle.shared_bits.proofs.rows.flip_bit.Goals as goal

pub returns : goal.returns
unfolding flip_at
returns c =
    let bs = c.args.row.now in
    let i = c.args.place in
    ap (λ (n : ℕ). set bs (i / 8) (bit_xor (get_or bs (i / 8) 0) n)) (one_shl (i % 8) 8 (omega arith))
