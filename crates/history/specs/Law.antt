-- The history law, whole: every call is answered as the rules have it, and two controllers find equal settings for a part
-- exactly when its last writings are equal.
use Rattle.std.specs.Prelude.{◌≡◌, true, false, ◌↔◌}
use Rattle.shared.specs.Answers.{accepted, refused_with}
use Rattle.shared.specs.Notice.{Kind}
use Rattle.shared.specs.Table.{Part, find}
use Rattle.history.specs.Acceptance.{CallsJudged}
use Rattle.history.specs.Lives.{Life, table_of, finds, stands_there, last_written}
use Rattle.history.specs.Premises.{LawfulKind}
use Rattle.history.specs.Progress.{TakesJudged}

-- A shut controller refuses every find with 2; an open one answers the setting that find reaches.
abbrev pub FindsJudged : Kind → Type 0
FindsJudged kind =
    (c : Life kind) (k : Part) →
    (c.shut ≡ true → finds c k ≡ refused_with 2) × (c.shut ≡ false → finds c k ≡ accepted (find c.sizes c.hash (table_of c) k))

-- For two controllers, of one book or of two, each with its own sizes and family, and a part that stands in each book at that
-- controller's number.
abbrev pub Agree : Kind → Type 0
Agree kind = (c d : Life kind) (k : Part) → stands_there c k ≡ true → stands_there d k ≡ true → (finds c k ≡ finds d k) ↔ (last_written c k ≡ last_written d k)

pub record Law (kind : Kind) : Type 0 where
  pub calls : CallsJudged kind
  pub takes : TakesJudged kind
  pub finding : FindsJudged kind
  pub agree : Agree kind

-- for every setting kind
abbrev pub HistoryLaw : Type 0
HistoryLaw = (kind : Kind) → LawfulKind kind → Law kind
