-- The text of a notice, event by event.
use Rattle.std.specs.Prelude.{◌≡◌, ℕ, zero, suc, List, [], ◌∷◌, ◌++◌, length, codes}
use Rattle.shared.specs.Notice.{Setting, Kind, Step, notice_text}
use Rattle.shared.specs.Tokens.{numeral}
use Rattle.shared_text.specs.Events.{Event, begin_bucket, setting_at, row_a, row_b, flip, end_bucket, slot_step, events_of}

-- a space in front of all but the first
abbrev pub space_before : ℕ → List ℕ
space_before zero = []
space_before (suc i) = 32 ∷ []

-- the number's decimal digits; shut, since `numeral` unfolds to all of its twenty steps
unfoldable pub number_text : ℕ → List ℕ
number_text n = numeral n

-- numbers, each behind a space
abbrev pub behind_spaces : List ℕ → List ℕ
behind_spaces [] = []
behind_spaces (v ∷ vs) = 32 ∷ (number_text v ++ behind_spaces vs)

-- numbers, single spaces between them
abbrev pub numbers_text : List ℕ → List ℕ
numbers_text [] = []
numbers_text (v ∷ vs) = number_text v ++ behind_spaces vs

-- `(v ..)`
abbrev pub setting_text : Setting → List ℕ
setting_text v = 40 ∷ (numbers_text v ++ (41 ∷ []))

-- 41, 41 and 10 are two closing brackets and the line's end
abbrev pub event_text : Event → List ℕ
event_text (begin_bucket j s) = codes "(bucket " ++ (number_text j ++ (32 ∷ (number_text s ++ codes " (")))
event_text (setting_at i v) = space_before i ++ setting_text v
event_text row_a = codes ") (a"
event_text row_b = codes ") (b"
event_text (flip p) = 32 ∷ number_text p
event_text end_bucket = 41 ∷ 41 ∷ 10 ∷ []
event_text (slot_step j i v) = codes "(slot " ++ (number_text j ++ (32 ∷ (number_text i ++ (32 ∷ (setting_text v ++ (41 ∷ 10 ∷ []))))))

abbrev pub events_text : List Event → List ℕ
events_text [] = []
events_text (e ∷ es) = event_text e ++ events_text es

-- `(notice n c)` and `(end n)`, each with its line's end
abbrev pub head_text : ℕ → ℕ → List ℕ
head_text n c = codes "(notice " ++ (number_text n ++ (32 ∷ (number_text c ++ (41 ∷ 10 ∷ []))))

abbrev pub end_text : ℕ → List ℕ
end_text n = codes "(end " ++ (number_text n ++ (41 ∷ 10 ∷ []))

-- what is written event by event is the notice's text
abbrev pub NoticeInEvents : Type 0
NoticeInEvents = (kind : Kind) (n : ℕ) (steps : List Step) → notice_text kind n steps ≡ head_text n (length steps) ++ (events_text (events_of steps) ++ end_text n)
