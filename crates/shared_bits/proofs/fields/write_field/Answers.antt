-- A field is written into its word: both of its bytes, or the one at the end of the area.
use Rattle.std.proofs.Common.{◌≡◌, ℕ, ◌+◌, ◌*◌, ◌/◌, ◌%◌, ◌≤◌, List, length, set, sym, ap, ◌∙◌, arith, rules}
use Rattle.std.proofs.lemmas.List.{set_past, length-set}
use Rattle.shared_bits.specs.Bits.{spliced, word_at, put_field}
use Rattle.shared_bits.proofs.Words.{written_one, written-two}
use Rattle.shared_bits.proofs.fields.write_field.Goals as goal

put_two : (bs : List ℕ) (j v n : ℕ) → n ≡ spliced (word_at bs (j * 5 / 8)) (j * 5 % 8) v
    → set (set bs (j * 5 / 8) (n % 256)) (j * 5 / 8 + 1) (n / 256) ≡ put_field bs j v
unfolding put_field
put_two bs j v n e = ap (λ (m : ℕ). set (set bs (j * 5 / 8) (m % 256)) (j * 5 / 8 + 1) (m / 256)) e

put_one : (bs : List ℕ) (j v n : ℕ) → length bs ≤ j * 5 / 8 + 1 → n ≡ spliced (word_at bs (j * 5 / 8)) (j * 5 % 8) v
    → set bs (j * 5 / 8) (n % 256) ≡ put_field bs j v
put_one bs j v n h e =
    sym (set_past (set bs (j * 5 / 8) (n % 256)) (j * 5 / 8 + 1) (n / 256) (omega (arith, length-set bs (j * 5 / 8) (n % 256))))
    ∙ put_two bs j v n e

pub returns-then-low-area : goal.returns-then-low-area
returns-then-low-area c =
    let bs = c.args.area.now in
    let j = c.args.bucket in
    let v = c.args.value in
    let n = c.splice-new.result in
    let e = c.splice-new.ensures ∙ ap (λ (w : ℕ). spliced w (c.args.bucket * 5 % 8) c.args.value) c.word-old.ensures.is in
    record {
      is = put_two bs j v n e;
      bits = written-two bs j v n (search rules) (search rules) c.word-old.ensures.low e;
    }

pub returns-else-low-area : goal.returns-else-low-area
returns-else-low-area c =
    let bs = c.args.area.now in
    let j = c.args.bucket in
    let v = c.args.value in
    let n = c.splice-new.result in
    let e = c.splice-new.ensures ∙ ap (λ (w : ℕ). spliced w (c.args.bucket * 5 % 8) c.args.value) c.word-old.ensures.is in
    record {
      is = put_one bs j v n (search rules) e;
      bits = written_one bs j v n (search rules) (search rules) (search rules) c.word-old.ensures.low e;
    }
