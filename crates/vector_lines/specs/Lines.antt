-- What each line of the program `vectors` asks for, and what is printed.
use Rattle.std.specs.Prelude.{ℕ, ◌+◌, ◌/◌, ◌%◌, ◌^◌, cond, List, [], ◌∷◌, ◌++◌, take, drop, codes, ◌==◌, nat_lt}
use Rattle.std.proofs.Math.Option.{Option, none, some}
use Rattle.line_forms.specs.Fronts.{inside_of, first_index}
use Rattle.shared.specs.Kinds.{Hash}
use Rattle.shared.specs.Lists.{◌then◌}
use Rattle.shared.specs.Tokens.{number_in}
use Rattle.shared_families.specs.Hashes.{fnv1a, fnv, pearson}
use Rattle.shared_kinds.specs.Parts.{is_part_number}

-- a part number under a seed
abbrev pub part_hash : Hash → List ℕ → ℕ → Option ℕ
part_hash hash part s = cond (is_part_number part) (some (hash s part)) none

-- a seed of 0 to 319, a space, and a part number
abbrev pub family_hash : Hash → List ℕ → Option ℕ
family_hash hash text =
    let seed = take (first_index 32 text) text in
    let part = drop (first_index 32 text + 1) text in
    number_in 0 319 seed then part_hash hash part

-- the hash that a line asks for
abbrev pub line_hash : List ℕ → Option ℕ
line_hash line =
    elim (inside_of (codes "(fnv ") line) [
      | some text ↦ some (fnv1a text)
      | none ↦ elim (inside_of (codes "(hash fnv ") line) [
        | some text ↦ family_hash fnv text
        | none ↦ elim (inside_of (codes "(hash pearson ") line) [ some text ↦ family_hash pearson text | none ↦ none ]
      ]
    ]

abbrev pub hex_digit : ℕ → ℕ
hex_digit d = cond (nat_lt d 10) (48 + d) (55 + d)

-- eight digits, the most significant first
abbrev pub hex_digits : ℕ → List ℕ
hex_digits n =
    hex_digit (n / 2 ^ 28 % 16) ∷ hex_digit (n / 2 ^ 24 % 16) ∷ hex_digit (n / 2 ^ 20 % 16) ∷ hex_digit (n / 2 ^ 16 % 16)
    ∷ hex_digit (n / 2 ^ 12 % 16) ∷ hex_digit (n / 2 ^ 8 % 16) ∷ hex_digit (n / 2 ^ 4 % 16) ∷ hex_digit (n % 16) ∷ []

-- what is printed of an answer, and of a line
abbrev pub answer_text : Option ℕ → List ℕ
answer_text (some h) = hex_digits h
answer_text none = codes "(refused 14)"

abbrev pub line_text : Option ℕ → List ℕ
line_text answer = answer_text answer ++ (10 ∷ [])

-- an unfinished last line is bad; where nothing stands behind the last line's end there is none
abbrev pub unfinished : List ℕ → List ℕ
unfinished [] = []
unfinished (b ∷ line) = line_text none

-- what is printed of the lines of an input, the first of which has begun with `line`
unfoldable pub text_of_lines : List ℕ → List ℕ → List ℕ
text_of_lines line [] = unfinished line
text_of_lines line (b ∷ bs) = cond (b == 10) (line_text (line_hash line) ++ text_of_lines [] bs) (text_of_lines (line ++ (b ∷ [])) bs)
