-- What the laws ask of a hash family, of a setting kind and of the settings in a book's calls.
use Rattle.std.specs.Prelude.{◌≡◌, ℕ, ◌^◌, ◌<◌, ◌≤◌, true, List, [], ◌∷◌, length, Ok, slice_index}
use Rattle.shared.specs.Book.{Call, enter, change, strike, Request}
use Rattle.shared.specs.Kinds.{Hash}
use Rattle.shared.specs.Notice.{Setting, Kind, Step, notice_form, notice_text, read_notice}
use Rattle.shared.specs.Table.{Part}

-- A hash family's numbers are below 2^32 at the seeds 0 to 319.
abbrev pub Family : Hash → Type 0
Family hash = (s : ℕ) (k : Part) → s < 320 → hash s k < 2 ^ 32

-- a setting of the kind: as many numbers as all its settings have, each at most 65,535, and the kind takes them
pub record LawfulSetting (kind : Kind) (v : Setting) : Type 0 where
  pub even : length v ≡ kind.count
  pub low : (i : ℕ) → slice_index v i < 65536
  pub own : kind.lawful v ≡ true

pub record LawfulKind (kind : Kind) : Type 0 where
  pub some : 1 ≤ kind.count
  pub few : kind.count ≤ 4
  pub blank : LawfulSetting kind kind.blank

-- the settings that a call brings are settings of the kind
abbrev pub LawfulCall : Kind → Call → Type 0
LawfulCall kind (enter k v) = LawfulSetting kind v
LawfulCall kind (change k v) = LawfulSetting kind v
LawfulCall kind (strike k) = Unit {0}

abbrev pub LawfulRequests : Kind → List Request → Type 0
LawfulRequests kind [] = Unit {0}
LawfulRequests kind (q ∷ qs) = LawfulCall kind q.call × LawfulRequests kind qs

-- a notice that its form has is read back from its text
abbrev pub ReadsBack : Kind → Type 0
ReadsBack kind = (n : ℕ) (steps : List Step) → (notice_form kind).fits (n, steps) ≡ true → read_notice kind (notice_text kind n steps) ≡ Ok (n, steps)
