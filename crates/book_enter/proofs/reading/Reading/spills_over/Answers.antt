use Rattle.std.proofs.Common.{ℕ, [], arith}
use Rattle.std.proofs.Math.Option.{none}
use Rattle.shared.specs.Book.{Slot}
use Rattle.book_enter.proofs.Spills.{counted_some, counted_few, counted_over, counted_more}
use Rattle.book_enter.proofs.reading.Reading.spills_over.Goals as goal

no_slot : ℕ → ℕ → Slot
no_slot j i = none

pub used_after-used-requires-clause-some : goal.used_after-used-requires-clause-some
used_after-used-requires-clause-some g c = counted_some no_slot ([], []) c.requires c.loop-placing-test.true c.seed_of-old.ensures (c.loop-placing.invariant no_slot ([], []))

pub used_after-used-requires-clause-few : goal.used_after-used-requires-clause-few
used_after-used-requires-clause-few g c =
    let few = counted_few no_slot ([], []) c.requires c.loop-placing-test.true c.seed_of-old.ensures (c.loop-placing.invariant no_slot ([], [])) in
    omega (arith, few, c.args.self.now.sizes.few_buckets)

pub returns-then-used-self : goal.returns-then-used-self
returns-then-used-self g c slot h =
    counted_over slot h c.requires c.loop-placing-test.true c.seed_of-old.ensures (c.loop-placing.invariant slot h) c.from.ensures c.used_after-used.ensures c.if-used-self.true

pub loop-placing-preserved : goal.loop-placing-preserved
loop-placing-preserved g c slot h =
    counted_more slot h c.requires c.loop-placing-test.true c.seed_of-old.ensures (c.loop-placing.invariant slot h) c.from.ensures c.used_after-used.ensures c.if-used-self.false
