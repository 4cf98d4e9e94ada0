use Rattle.std.proofs.Common.{ℕ}
use Rattle.shared.specs.Book.{Held, Slot}
use Rattle.book_write.proofs.SeedStores.{Stored}
use Rattle.book_write.proofs.seeds.store_seeds.Given as goal

abbrev pub invariant-loop-placing : goal.invariant-loop-placing
invariant-loop-placing l = (slot : ℕ → ℕ → Slot) (h : Held) → Stored l.fn.sizes l.initial.seeds l.initial.overflow slot h l.plan l.placing-index l.seeds l.overflow
