-- What the laws of part kinds rest on: the bytes of a part number are below 256, and its text settles its length and its cells.
use Rattle.std.specs.Prelude.{◌≡◌, ℕ, ◌<◌, ◌≤◌, true, List, [], ◌∷◌, length, take, slice_index}
use Rattle.std.proofs.Common.{zero, suc, sym, ap, ◌∙◌, ⊎_elim, arith, lit<, get_or}
use Rattle.std.proofs.lemmas.Bool.Decides.{nat_tests}
use Rattle.std.proofs.lemmas.List.{ext_get_or, get_or-take, length-take-le}
use Rattle.std.proofs.lemmas.Bool.{and_parts, cases_lt}
use Rattle.std.specs.List.{list_all}
use Rattle.shared.specs.Limits.{between}
use Rattle.shared_kinds.specs.Parts.{part_byte, is_part_number}

-- a byte of a part number is below 256
byte_low : (b : ℕ) → part_byte b ≡ true → b < 256
byte_low b t = grind (arith, nat_tests)

all_low : (bs : List ℕ) → list_all part_byte bs ≡ true → (i : ℕ) → get_or bs i 0 < 256
all_low [] t i = lit< tt
all_low (b ∷ bs) t zero = byte_low b (and_parts (part_byte b) (list_all part_byte bs) t).0
all_low (b ∷ bs) t (suc i) = all_low bs (and_parts (part_byte b) (list_all part_byte bs) t).1 i

-- a part number's bytes are below 256
pub part_number-low : (text : List ℕ) → is_part_number text ≡ true → (i : ℕ) → slice_index text i < 256
part_number-low text lawful i = all_low text (and_parts (between 1 16 (length text)) (list_all part_byte text) lawful).1 i

-- sixteen cells that are clear behind a text
pub record Cells (len : ℕ) (cells : List ℕ) : Type 0 where
  pub sixteen : length cells ≡ 16
  pub few : len ≤ 16
  pub clear : (i : ℕ) → len ≤ i → slice_index cells i ≡ 0

-- one text, one length and one run of cells: behind the text both are clear
pub same_length : (n m : ℕ) (xs ys : List ℕ) → Cells n xs → Cells m ys → take n xs ≡ take m ys → n ≡ m
same_length n m xs ys x y e =
    sym (length-take-le n xs (omega (arith, x.sixteen, x.few))) ∙ ap length e ∙ length-take-le m ys (omega (arith, y.sixteen, y.few))

pub same_cells : (n m : ℕ) (xs ys : List ℕ) → Cells n xs → Cells m ys → take n xs ≡ take m ys → xs ≡ ys
same_cells n m xs ys x y e =
    let k : n ≡ m = same_length n m xs ys x y e in
    ext_get_or 0 xs ys (x.sixteen ∙ sym y.sixteen) (λ i h.
    ⊎_elim
    (λ l. sym (get_or-take n xs i 0 l) ∙ ap (λ (t : List ℕ). get_or t i 0) e ∙ get_or-take m ys i 0 (omega arith))
    (λ l. x.clear i l ∙ sym (y.clear i (omega arith)))
    (cases_lt i n))
