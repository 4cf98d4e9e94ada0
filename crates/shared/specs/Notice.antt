-- A notice: the update message that tells a controller of one accepted call.
use Rattle.std.specs.Prelude.{ℕ, ◌+◌, ◌-◌, Bool, cond, ◌&&◌, List, [], ◌∷◌, ◌++◌, length, drop, Ok, codes, Result}
use Rattle.shared.specs.declared.refusal.Fault.{Fault}
use Rattle.shared.specs.Forms.{Form, Reading, and_then, wrong, num, lead, trail, pair, times, times_tokens, times_fits, series, ascending, judged, read_whole}
use Rattle.shared.specs.Tokens.{Open, Close, Space, Line, Tok, mark, word, token_of, is_word, size, spell}

-- A setting is its list of numbers.
abbrev pub Setting : Type 0
Setting = List ℕ

-- A setting kind as far as texts need it: how many numbers a setting has, which lists are settings, and the blank.
pub record Kind : Type 0 where
  pub count : ℕ
  pub lawful : List ℕ → Bool
  pub blank : Setting

-- A step rewrites one bucket (its seed, its four settings, the places of rows a and b that it flips) or one slot.
pub data Step : Type 0 where
  bucket : (j s : ℕ) (settings : List Setting) (pa pb : List ℕ) → Step
  single : (j i : ℕ) (setting : Setting) → Step

abbrev pub small : Form ℕ
small = num 0 65535

abbrev pub gap : List Tok
gap = mark Space ∷ []

abbrev pub line_end : List Tok
line_end = mark Close ∷ mark Line ∷ []

-- `(` and a word
abbrev pub opening : List ℕ → List Tok
opening w = mark Open ∷ word w ∷ []

-- `(v ..)`, judged once its closing bracket is read
abbrev pub setting_form : Kind → Form Setting
setting_form kind = judged kind.lawful (trail (lead (mark Open ∷ []) (series (kind.count - 1) small)) (mark Close ∷ []))

-- ` j s ((..) (..) (..) (..)) (a ..) (b ..))`, behind the word bucket
abbrev pub BucketParts : Type 0
BucketParts = ((ℕ × ℕ) × List Setting) × (List ℕ × List ℕ)

abbrev pub bucket_form : Kind → Form BucketParts
bucket_form kind =
    trail
    (pair
    (pair (pair (lead gap small) (lead gap small)) (lead (mark Space ∷ mark Open ∷ []) (series 3 (setting_form kind))))
    (pair
    (lead (mark Close ∷ mark Space ∷ opening (codes "a")) (ascending 65535))
    (lead (mark Space ∷ opening (codes "b")) (ascending 65535))))
    line_end

-- ` j i (..))`, behind the word slot
abbrev pub SlotParts : Type 0
SlotParts = (ℕ × ℕ) × Setting

abbrev pub slot_form : Kind → Form SlotParts
slot_form kind = trail (pair (pair (lead gap small) (lead gap small)) (lead gap (setting_form kind))) line_end

abbrev pub as_bucket : BucketParts → Step
as_bucket v = bucket v.0.0.0 v.0.0.1 v.0.1 v.1.0 v.1.1

abbrev pub as_single : SlotParts → Step
as_single v = single v.0.0 v.0.1 v.1

-- the word after a step's bracket tells which of the two it is
abbrev pub step_at : Kind → Reading (Step × ℕ)
step_at kind text at =
    let t = token_of (drop at text) in
    cond (is_word (codes "bucket") t) (and_then ((bucket_form kind).reads text (at + size t)) (λ x. Ok (as_bucket x.0, x.1)))
    (cond (is_word (codes "slot") t) (and_then ((slot_form kind).reads text (at + size t)) (λ x. Ok (as_single x.0, x.1)))
    (wrong t at))

abbrev pub step_tokens : Kind → Step → List Tok
step_tokens kind (bucket j s vs pa pb) = word (codes "bucket") ∷ (bucket_form kind).tokens (((j, s), vs), (pa, pb))
step_tokens kind (single j i v) = word (codes "slot") ∷ (slot_form kind).tokens ((j, i), v)

abbrev pub step_fits : Kind → Step → Bool
step_fits kind (bucket j s vs pa pb) = (bucket_form kind).fits (((j, s), vs), (pa, pb))
step_fits kind (single j i v) = (slot_form kind).fits ((j, i), v)

abbrev pub step_form : Kind → Form Step
step_form kind = lead (mark Open ∷ []) (record { reads = step_at kind; tokens = step_tokens kind; fits = step_fits kind })

-- `(notice n c)` and `(end n)`, each with its line's end
abbrev pub head_form : Form (ℕ × ℕ)
head_form = trail (pair (lead (opening (codes "notice")) (lead gap (num 1 4000000000))) (lead gap (num 0 5))) line_end

abbrev pub end_form : ℕ → Form ℕ
end_form n = trail (lead (opening (codes "end")) (lead gap (num n n))) line_end

-- a notice is its number and its steps
abbrev pub Notice : Type 0
Notice = ℕ × List Step

-- the head's count of steps, and then an end with the head's number
abbrev pub notice_form : Kind → Form Notice
notice_form kind = record {
  reads = λ text at.
      and_then (head_form.reads text at) (λ h.
      and_then ((times h.0.1 (step_form kind)).reads text h.1) (λ ss.
      and_then ((end_form h.0.0).reads text ss.1) (λ e. Ok ((h.0.0, ss.0), e.1))));
  tokens = λ m. head_form.tokens (m.0, length m.1) ++ (times_tokens (step_form kind) m.1 ++ (end_form m.0).tokens m.0);
  fits = λ m. head_form.fits (m.0, length m.1) && times_fits (step_form kind) (length m.1) m.1;
}

-- the text of a notice, and a notice read
abbrev pub notice_text : Kind → ℕ → List Step → List ℕ
notice_text kind n steps = spell ((notice_form kind).tokens (n, steps))

abbrev pub read_notice : Kind → List ℕ → Result Notice Fault
read_notice kind text = read_whole (notice_form kind) text
