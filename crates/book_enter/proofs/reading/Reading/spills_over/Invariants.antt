use Rattle.std.proofs.Common.{ℕ, length}
use Rattle.shared.specs.Book.{Held, Slot}
use Rattle.shared_table.specs.Memory.{seed_of}
use Rattle.book_steps.specs.Plans.{placement_at}
use Rattle.book_enter.proofs.Spills.{Counted}
use Rattle.book_enter.proofs.reading.Reading.spills_over.Given as goal

abbrev pub invariant-loop-placing : goal.invariant-loop-placing
invariant-loop-placing g l =
    (slot : ℕ → ℕ → Slot) (h : Held) → Counted l.self.sizes (placement_at slot l.plan h) (seed_of l.self.seeds.now l.self.overflow.now) (length l.plan) l.placing-index l.used
