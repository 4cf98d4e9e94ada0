-- The masks splice.
use Rattle.std.proofs.Common.{◌<◌, ap, ◌∙◌, arith, rules}
use Rattle.shared_bits.specs.Bits.{spliced}
use Rattle.shared_bits.proofs.Masks.{masked}
use Rattle.shared_bits.proofs.fields.splice.Goals as goal

pub returns : goal.returns
returns c =
    let v : c.from.result < 32 = omega arith in
    masked c.args.number c.args.shift c.from.result (search rules) (search rules) v
    ∙ ap (spliced c.args.number c.args.shift) c.from.ensures
