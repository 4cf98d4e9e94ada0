-- A field is read from its word.
use Rattle.std.proofs.Common.{ℕ, ◌*◌, ◌/◌, ◌%◌, ◌^◌, sym, ap, ◌∙◌}
use lib.Bits.{and_mask}
use Rattle.shared_bits.proofs.Words.{field_word}
use Rattle.shared_bits.proofs.fields.read_field.Goals as goal

pub returns : goal.returns
returns c =
    and_mask (c.word-number.result / 2 ^ (c.args.bucket * 5 % 8)) 5
    ∙ ap (λ (w : ℕ). w / 2 ^ (c.args.bucket * 5 % 8) % 32) c.word-number.ensures.is
    ∙ sym (field_word c.args.area.now c.args.bucket c.word-number.ensures.low)
