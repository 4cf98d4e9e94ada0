-- What the program `noticecheck` prints: for each letter the notice that it holds, or its fault.
use Rattle.std.specs.Prelude.{ℕ, zero, suc, ◌+◌, cond, List, [], ◌∷◌, ◌++◌, length, take, drop, Ok, Err, codes, Result, nat_le, nat_lt}
use Rattle.std.proofs.Math.Option.{Option, none, some}
use Rattle.line_forms.specs.Fronts.{inside_of, first_index}
use Rattle.shared.specs.declared.refusal.Cause.{Cause}
use Rattle.shared.specs.declared.refusal.Cause.TheVariants.{Byte, Word, Setting}
use Rattle.shared.specs.declared.refusal.Fault.{Fault}
use Rattle.shared.specs.Lists.{◌then◌}
use Rattle.shared.specs.Notice.{Kind, Notice, notice_text, read_notice}
use Rattle.shared.specs.Tokens.{number_in}
use Rattle.shared_kinds.specs.Settings.{is_trim}
use Rattle.shared_pen.specs.Pens.{number_text}
use Rattle.shared_notice.specs.Walks.{kind_of}

-- trims, as far as texts need them
abbrev pub trims : Kind
trims = kind_of 3 is_trim (0 ∷ 1000 ∷ 0 ∷ [])

-- a fault as it is printed
abbrev pub cause_name : Cause → List ℕ
cause_name Byte = codes "byte"
cause_name Word = codes "word"
cause_name (Setting f) = codes "setting"

abbrev pub fault_text : Fault → List ℕ
fault_text f = codes "(refused 14 " ++ (number_text f.place ++ (32 ∷ (cause_name f.cause ++ (41 ∷ 10 ∷ []))))

-- a letter's bytes: the writer's text of the notice that is read, or the fault
abbrev pub read_text : Result Notice Fault → List ℕ
read_text (Ok m) = notice_text trims m.0 m.1
read_text (Err f) = fault_text f

unfoldable pub letter_text : List ℕ → List ℕ
letter_text text = read_text (read_notice trims text)

-- the length that a letter's line gives
abbrev pub letter_length : List ℕ → Option ℕ
letter_length line = inside_of (codes "(letter ") line then number_in 0 65536

abbrev pub bad_line : List ℕ
bad_line = codes "(refused 14)" ++ (10 ∷ [])

-- What one form prints, and the input behind it: a letter's line with its bytes, or any other line.
abbrev pub letter_of : Option ℕ → List ℕ → List ℕ × List ℕ
letter_of none rest = (bad_line, rest)
letter_of (some len) rest = cond (nat_le len (length rest)) (letter_text (take len rest), drop len rest) (bad_line, [])

abbrev pub form_of : List ℕ → List ℕ × List ℕ
form_of input =
    let i = first_index 10 input in
    cond (nat_lt i (length input)) (letter_of (letter_length (take i input)) (drop (i + 1) input)) (bad_line, [])

-- what is printed of an input; each form uses up a byte at least, so `fuel` is its length
unfoldable pub text_of_forms : ℕ → List ℕ → List ℕ
text_of_forms zero input = []
text_of_forms (suc fuel) [] = []
text_of_forms (suc fuel) (b ∷ bs) = let form = form_of (b ∷ bs) in form.0 ++ text_of_forms fuel form.1

abbrev pub text_of_letters : List ℕ → List ℕ
text_of_letters input = text_of_forms (length input) input

-- nothing is printed where the room is shorter than the longest letter
abbrev pub text_in_room : ℕ → List ℕ → List ℕ
text_in_room room input = cond (nat_lt room 65536) [] (text_of_letters input)
