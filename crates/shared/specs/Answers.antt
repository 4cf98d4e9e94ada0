-- An answer as numbers: 0 and its values where a call is accepted, else the refusal's number and what it carries.
use Rattle.std.specs.Prelude.{ℕ, List, [], ◌∷◌, Some, None, Ok, Err, Option as CodeOption, Result}
use Rattle.std.proofs.Math.Option.{Option, none, some}
use Rattle.shared.specs.declared.refusal.Cause.{Cause}
use Rattle.shared.specs.declared.refusal.Cause.TheVariants.{Byte, Word, Setting}
use Rattle.shared.specs.declared.refusal.Fault.{Fault}
use Rattle.shared.specs.declared.refusal.Refusal.{Refusal}
use Rattle.shared.specs.declared.refusal.Refusal.TheVariants.{SizeOutside, Shut, NoSuchPart, NoSuchSetting, StandsAlready, DoesNotStand, NoChain, AlreadyJoined, NoSeed, OverflowFull, BufferTooShort, LastNumber, SheetWritten, Malformed, NotNext, OutsideSizes, BucketTwice}

-- an answer: a number, and values
abbrev pub Answer : Type 0
Answer = ℕ × List ℕ

abbrev pub accepted : List ℕ → Answer
accepted values = (0, values)

abbrev pub refused_with : ℕ → Answer
refused_with n = (n, [])

-- the number of each refusal
abbrev pub number_of : Refusal → ℕ
number_of SizeOutside = 1
number_of Shut = 2
number_of NoSuchPart = 3
number_of NoSuchSetting = 4
number_of StandsAlready = 5
number_of DoesNotStand = 6
number_of NoChain = 7
number_of AlreadyJoined = 8
number_of NoSeed = 9
number_of OverflowFull = 10
number_of BufferTooShort = 11
number_of LastNumber = 12
number_of SheetWritten = 13
number_of (Malformed f) = 14
number_of NotNext = 15
number_of OutsideSizes = 16
number_of BucketTwice = 17

-- a fault's cause as numbers: 0 byte, 1 word, 2 setting; the last has the setting's own fault, 4, inside
abbrev pub cause_values : Cause → List ℕ
cause_values Byte = 0 ∷ []
cause_values Word = 1 ∷ []
cause_values (Setting f) = 2 ∷ 4 ∷ []

abbrev pub fault_values : Fault → List ℕ
fault_values f = f.place ∷ cause_values f.cause

-- what a refusal carries besides its number: a malformed notice its place and cause
abbrev pub values_of : Refusal → List ℕ
values_of SizeOutside = []
values_of Shut = []
values_of NoSuchPart = []
values_of NoSuchSetting = []
values_of StandsAlready = []
values_of DoesNotStand = []
values_of NoChain = []
values_of AlreadyJoined = []
values_of NoSeed = []
values_of OverflowFull = []
values_of BufferTooShort = []
values_of LastNumber = []
values_of SheetWritten = []
values_of (Malformed f) = fault_values f
values_of NotNext = []
values_of OutsideSizes = []
values_of BucketTwice = []

-- the answer of a call whose accepted value is shown by `values`
abbrev pub answer : {X : Type 0} → (X → List ℕ) → Result X Refusal → Answer
answer values (Ok x) = accepted (values x)
answer values (Err e) = (number_of e, values_of e)

-- an optional answer, as the rules have it
abbrev pub optional : {X : Type 0} → CodeOption X → Option X
optional (Some x) = some x
optional None = none
