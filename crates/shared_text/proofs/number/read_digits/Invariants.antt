use Rattle.std.proofs.Common.{◌≡◌, ◌<◌, ◌^◌, drop}
use Rattle.shared.specs.Tokens.{all_digits, read_on}
use Rattle.shared_text.proofs.number.read_digits.Given as goal

abbrev pub invariant-loop-byte : goal.invariant-loop-byte
invariant-loop-byte l = record {
  fits : l.value < 2 ^ 32;
  value : read_on l.value (drop l.byte-index l.digits) ≡ read_on 0 l.digits;
  digits : all_digits (drop l.byte-index l.digits) ≡ all_digits l.digits;
}
