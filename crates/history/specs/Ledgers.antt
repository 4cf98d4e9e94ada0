-- A book and its ledger: the slots hold what the ledger says, and each notice is a text of the notice's form.
use Rattle.std.specs.Prelude.{◌≡◌, ℕ, Bool, true, false, ◌↔◌, List}
use Rattle.std.proofs.Math.Option.{some}
use Rattle.shared.specs.declared.sizes.Sizes.{Sizes}
use Rattle.shared.specs.Answers.{accepted, refused_with}
use Rattle.shared.specs.Book.{Request, standing, tell}
use Rattle.shared.specs.Kinds.{Hash}
use Rattle.shared.specs.Ledger.{accepted_calls, stands, last_writing}
use Rattle.shared.specs.Lists.{Among}
use Rattle.shared.specs.Notice.{Setting, Kind, Step, notice_form, notice_text}
use Rattle.shared.specs.Table.{Part}
use Rattle.history.specs.History.{Story, story}
use Rattle.history.specs.Premises.{Family, LawfulKind, LawfulRequests}
use Rattle.history.specs.Progress.{notice_of}

-- the parts in a book's slots are those that stand, with the settings of their last writings; so tell answers those
pub record Holding (z : Sizes) (w : Story) : Type 0 where
  pub held : (k : Part) (v : Setting) →
      Among (k, v) (standing z w.book.slot) ↔ ((stands (accepted_calls w.fed) k ≡ true) × (last_writing (accepted_calls w.fed) k ≡ some v))
  pub told : (k : Part) (v : Setting) → stands (accepted_calls w.fed) k ≡ true → last_writing (accepted_calls w.fed) k ≡ some v → tell false z w.book k ≡ accepted v
  pub untold : (k : Part) → stands (accepted_calls w.fed) k ≡ false → tell false z w.book k ≡ refused_with 6

abbrev pub HoldingLaw : Type 0
HoldingLaw = (shut : Bool) (z : Sizes) (hash : Hash) → Family hash → (kind : Kind) (qs : List Request) → Holding z (story shut z hash kind qs)

-- a book's notice n is the text of some steps under the number n, and its form has them
abbrev pub NoticesLaw : Type 0
NoticesLaw =
    (shut : Bool) (z : Sizes) (hash : Hash) → Family hash → (kind : Kind) → LawfulKind kind → (qs : List Request) → LawfulRequests kind qs →
    (n : ℕ) (x : List ℕ) → notice_of (story shut z hash kind qs).texts n ≡ some x →
    (steps : List Step) × (x ≡ notice_text kind n steps) × ((notice_form kind).fits (n, steps) ≡ true)
