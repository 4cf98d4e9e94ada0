-- What is made of a reading, where a text is read with nothing stored.
use Rattle.std.specs.Prelude.{ℕ, Bool, List, [], ◌∷◌, ◌++◌, map, Ok, Err, codes, fold, Result}
use Rattle.shared.specs.declared.kinds.SettingKind as SettingKind
use Rattle.shared.specs.declared.refusal.Cause.TheVariants as cause
use Rattle.shared.specs.declared.refusal.Fault.{Fault}
use Rattle.shared.specs.declared.refusal.Refusal.{Refusal}
use Rattle.shared.specs.declared.refusal.Refusal.TheVariants.{Malformed}
use Rattle.shared.specs.Forms.{Form, and_then, lead, pair, series, ascending}
use Rattle.shared.specs.Notice.{Setting, Kind, Notice, BucketParts, SlotParts, as_bucket, as_single, opening, gap, small, setting_form}
use Rattle.shared.specs.Tokens.{Open, Close, Space, mark}
use Rattle.shared_text.specs.Events.{Event, begin_bucket, flip, settings_from, step_events, events_of}
use Rattle.shared_text.specs.Rows.{row_begun}
use Rattle.shared_text.specs.declared.row.Row.{Row}
use Rattle.shared_text.specs.declared.row.Row.TheVariants.{A, B}
use Rattle.shared_notice.specs.declared.setting.Misread.{Misread}

-- a setting kind as far as texts need it
abbrev pub kind_of : ℕ → (List ℕ → Bool) → List ℕ → Kind
kind_of count lawful blanks = record { count = count; lawful = lawful; blank = blanks }

-- the same of a setting type, from the members that it has by its trait
abbrev pub text_kind : {S : Type 0} → SettingKind.Ghosts S → Kind
text_kind members = kind_of members.count members.lawful members.blanks

-- what `f` makes of the value that is read
abbrev pub mapped : {X Y E : Type 0} → (X → Y) → Result (X × ℕ) E → Result (Y × ℕ) E
mapped f r = and_then r (λ x. Ok (f x.0, x.1))

-- a value in front of the place that is read
abbrev pub beside : {Y E : Type 0} → Y → Result ℕ E → Result (Y × ℕ) E
beside y r = and_then r (λ to. Ok (y, to))

-- a setting's fault in a text, as the reader's fault
abbrev pub in_fault : Misread → Fault
in_fault m = record { place = m.place; cause = cause.Setting m.fault }

-- what a pass is after the events of the value that is read, and the place after that value
abbrev pub walked : {V X : Type 0} → (V → Event → V) → (X → List Event) → V → Result (X × ℕ) Fault → Result (V × ℕ) Fault
walked after events v r = mapped (λ x. fold after v (events x)) r

-- the events of a row's places
abbrev pub flips : List ℕ → List Event
flips places = map flip places

-- a row behind a space, with its name and its places, and its events
abbrev pub row_name : Row → List ℕ
row_name A = codes "a"
row_name B = codes "b"

abbrev pub row_form : Row → Form (List ℕ)
row_form row = lead (mark Space ∷ opening (row_name row)) (ascending 65535)

abbrev pub named_events : Row → List ℕ → List Event
named_events row places = row_begun row ∷ flips places

-- row a behind the settings' bracket, row b behind it, and the events of each and of both
abbrev pub a_form : Form (List ℕ)
a_form = lead (mark Close ∷ mark Space ∷ opening (row_name A)) (ascending 65535)

abbrev pub a_events : List ℕ → List Event
a_events = named_events A

abbrev pub b_form : Form (List ℕ)
b_form = row_form B

abbrev pub b_events : List ℕ → List Event
b_events = named_events B

abbrev pub row_events : List ℕ × List ℕ → List Event
row_events rows = a_events rows.0 ++ b_events rows.1

-- a bucket step's front: its bucket, its seed and its settings
abbrev pub content_form : Kind → Form ((ℕ × ℕ) × List Setting)
content_form kind = pair (pair (lead gap small) (lead gap small)) (lead (mark Space ∷ mark Open ∷ []) (series 3 (setting_form kind)))

abbrev pub content_events : (ℕ × ℕ) × List Setting → List Event
content_events x = begin_bucket x.0.0 x.0.1 ∷ settings_from 0 x.1

-- the events of the two kinds of step
abbrev pub bucket_events : BucketParts → List Event
bucket_events x = step_events (as_bucket x)

abbrev pub slot_events : SlotParts → List Event
slot_events x = step_events (as_single x)

-- a notice's number, with what a pass is after the events of the notice's steps; a text that is no notice is its fault
abbrev pub passed : {V : Type 0} → (V → Event → V) → V → Result Notice Fault → Result (ℕ × V) Fault
passed after v r = and_then r (λ m. Ok (m.0, fold after v (events_of m.1)))

abbrev pub with_number : {V : Type 0} → V → Result ℕ Fault → Result (ℕ × V) Fault
with_number v r = and_then r (λ n. Ok (n, v))

-- a notice's number alone
abbrev pub notice_number : Result Notice Fault → Result ℕ Fault
notice_number r = and_then r (λ m. Ok m.0)

-- a fault of the text as the refusal of a call that was given it
abbrev pub refusing : {X : Type 0} → Result X Fault → Result X Refusal
refusing (Ok x) = Ok x
refusing (Err f) = Err (Malformed f)
