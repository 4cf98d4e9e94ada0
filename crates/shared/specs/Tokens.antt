-- Tokens: a text is cut into brackets, spaces, line ends and words, whatever its forms are.
use Rattle.std.specs.Prelude.{ℕ, zero, suc, ◌+◌, ◌-◌, ◌*◌, ◌/◌, ◌%◌, Bool, true, false, cond, ◌&&◌, ◌||◌, List, [], ◌∷◌, ◌++◌, length, ◌==◌, nat_lt}
use Rattle.std.proofs.Math.Option.{Option, none, some}
use Rattle.shared.specs.Limits.{between}
use Rattle.shared.specs.Lists.{same_list}

-- a mark is one byte: an opening bracket, a closing one, a space, the end of a line
pub data Mark : Type 0 where
  Open Close Space Line : Mark

abbrev pub byte_of : Mark → ℕ
byte_of Open = 40
byte_of Close = 41
byte_of Space = 32
byte_of Line = 10

-- a mark, a word, a byte that begins no token, or the end of the text
pub data Tok : Type 0 where
  mark : Mark → Tok
  word : List ℕ → Tok
  stray : Tok
  end : Tok

abbrev pub digit : ℕ → Bool
digit b = between 48 57 b

-- small letters and digits
abbrev pub word_byte : ℕ → Bool
word_byte b = between 97 122 b || digit b

-- the longest run of word bytes in front
abbrev pub run : List ℕ → List ℕ
run [] = []
run (b ∷ bs) = cond (word_byte b) (b ∷ run bs) []

-- the first token of what is left of a text
abbrev pub token_of : List ℕ → Tok
token_of [] = end
token_of (b ∷ bs) =
    cond (b == 40) (mark Open) (cond (b == 41) (mark Close) (cond (b == 32) (mark Space) (cond (b == 10) (mark Line) (cond (word_byte b) (word (b ∷ run bs)) stray))))

-- the bytes of a token, and of tokens
abbrev pub spelled : Tok → List ℕ
spelled (mark k) = byte_of k ∷ []
spelled (word w) = w
spelled stray = []
spelled end = []

abbrev pub size : Tok → ℕ
size t = length (spelled t)

abbrev pub spell : List Tok → List ℕ
spell [] = []
spell (t ∷ ts) = spelled t ++ spell ts

abbrev pub is_mark : Mark → Tok → Bool
is_mark k (mark j) = byte_of k == byte_of j
is_mark k (word w) = false
is_mark k stray = false
is_mark k end = false

abbrev pub is_word : List ℕ → Tok → Bool
is_word w (mark j) = false
is_word w (word v) = same_list w v
is_word w stray = false
is_word w end = false

abbrev pub is_end : Tok → Bool
is_end (mark k) = false
is_end (word w) = false
is_end stray = false
is_end end = true

-- the decimal digits of n in front of `rest`, with no leading zeros; `fuel` bounds their count
abbrev pub digits_onto : ℕ → ℕ → List ℕ → List ℕ
digits_onto zero n rest = rest
digits_onto (suc fuel) n rest = elim (nat_lt n 10) [ true ↦ (48 + n) ∷ rest | false ↦ digits_onto fuel (n / 10) ((48 + n % 10) ∷ rest) ]

-- the number word of n, which is below 10^20
abbrev pub numeral : ℕ → List ℕ
numeral n = digits_onto 20 n []

-- the value of digits, read on from n
abbrev pub read_on : ℕ → List ℕ → ℕ
read_on n [] = n
read_on n (c ∷ cs) = read_on (n * 10 + (c - 48)) cs

abbrev pub all_digits : List ℕ → Bool
all_digits [] = true
all_digits (c ∷ cs) = digit c && all_digits cs

-- digits, at least one, with no zero in front of others
abbrev pub plain_digits : List ℕ → Bool
plain_digits [] = false
plain_digits (c ∷ []) = digit c
plain_digits (c ∷ d ∷ ds) = between 49 57 c && all_digits (d ∷ ds)

-- the number of low to high that a word is
abbrev pub number_in : ℕ → ℕ → List ℕ → Option ℕ
number_in low high w = cond (plain_digits w && between low high (read_on 0 w)) (some (read_on 0 w)) none
