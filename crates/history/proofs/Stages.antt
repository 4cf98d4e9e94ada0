-- The checks of a call one after the other: each name is what is left to do from that check on.
use Rattle.std.proofs.Common.{ℕ, not, eqb, List, [], ◌∷◌, map, length}
use mathlib.Core.Option.{none, some}
use Rattle.shared.specs.declared.sizes.Sizes.{Sizes}
use Rattle.shared.specs.Book.{Book, Outcome, Request, called, unless, given, told, slots, chain, placed, standing, part_of, last_number}
use Rattle.shared.specs.Graph.{joins}
use Rattle.shared.specs.Kinds.{Hash}
use Rattle.shared.specs.Lists.{at2}
use Rattle.shared.specs.Notice.{Setting, Kind, Step}
use Rattle.shared.specs.Notice.Step.{single}
use Rattle.shared.specs.Table.{Part, edge, slot_of, overflows}

module _ (z : Sizes) (hash : Hash) (kind : Kind) (b : Book) where
  module _ (q : Request) where
    abbrev pub from_call : Unit {0} → Outcome
    from_call _ = called z hash kind b (length q.buffer) q.call

    abbrev pub from_number : Unit {0} → Outcome
    from_number _ = unless (eqb b.number last_number) 12 from_call

    abbrev pub from_sheet : Unit {0} → Outcome
    from_sheet _ = unless (not (eqb q.sheet 0)) 13 from_number

  module _ (room : ℕ) (k : Part) where
    module _ (v : Setting) where
      abbrev pub before : List Part
      before = map part_of (standing z b.slot)

      abbrev pub from_entries : Book × List Step → Outcome
      from_entries r = unless (overflows z b.seed r.1) 10 (λ _. told kind room r.0 r.1)

      abbrev pub from_seeds : ℕ × List ℕ → Outcome
      from_seeds c = given (placed z hash kind.blank before b c.0 (k, v) c.1) 9 from_entries

      abbrev pub from_chain : Unit {0} → Outcome
      from_chain _ = given (chain z hash b.slot k) 7 from_seeds

      abbrev pub from_edges : Unit {0} → Outcome
      from_edges _ = unless (joins (map (edge z hash) before) (edge z hash k).0 (edge z hash k).1) 8 from_chain

      -- a change, where the part stands
      abbrev pub changed : ℕ × ℕ → Book
      changed p = slots b (at2 b.slot p.0 p.1 (some (k, v)))

      abbrev pub changed_step : ℕ × ℕ → List Step
      changed_step p = single p.0 (slot_of hash (b.seed p.0) k) v ∷ []

    -- a strike, where the part stands
    abbrev pub struck : ℕ × ℕ → Book
    struck p = slots b (at2 b.slot p.0 p.1 none)
