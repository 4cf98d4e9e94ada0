-- The count of a notice's steps, and what reading it tells.
use Rattle.std.specs.Prelude.{◌≡◌, ℕ, ◌+◌, min, List, length, Ok, Err, Result}
use Rattle.shared.specs.declared.refusal.Fault.{Fault}
use Rattle.shared.specs.Notice.{Step, read_notice}
use Rattle.shared_text.specs.Events.{Event, begin_bucket, setting_at, row_a, row_b, flip, end_bucket, slot_step}
use Rattle.letters.specs.declared.Head.{Head}
use Rattle.letters.specs.declared.StepCount.{StepCount}
use Rattle.letters.specs.Letters.{trims}

abbrev pub more : StepCount → StepCount
more c = record { steps = min (c.steps + 1) 255 }

abbrev pub counted : StepCount → Event → StepCount
counted c (begin_bucket j s) = more c
counted c (setting_at i v) = c
counted c row_a = c
counted c row_b = c
counted c (flip p) = c
counted c end_bucket = c
counted c (slot_step j i v) = more c

-- `head` tells of the notice that is read of the text
pub record Headed (text : List ℕ) (head : Head) : Type 0 where
  pub steps : List Step
  pub reads : read_notice trims text ≡ Ok (head.number, steps)
  pub count : length steps ≡ head.steps

-- what reading a text answers: its notice's head, or its fault
abbrev pub ReadAs : List ℕ → Result Head Fault → Type 0
ReadAs text (Ok head) = Headed text head
ReadAs text (Err f) = read_notice trims text ≡ Err f
