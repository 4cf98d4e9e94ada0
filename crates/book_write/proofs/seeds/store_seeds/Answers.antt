use Rattle.std.proofs.Common.{ℕ, [], arith}
use Rattle.std.proofs.Math.Option.{none}
use Rattle.shared.specs.Book.{Slot}
use Rattle.book_write.proofs.SeedStores.{stored_room, stored_more, stored_all}
use Rattle.book_write.proofs.seeds.store_seeds.Goals as goal

no_slot : ℕ → ℕ → Slot
no_slot j i = none

pub set_seed-requires-clause-matched : goal.set_seed-requires-clause-matched
set_seed-requires-clause-matched c = (c.loop-placing.invariant no_slot ([], [])).done.sound.matched

pub set_seed-requires-clause-room : goal.set_seed-requires-clause-room
set_seed-requires-clause-room c = stored_room (c.loop-placing.invariant no_slot ([], [])) c.requires.sure c.loop-placing-test.true c.requires.overflow

pub loop-placing-preserved : goal.loop-placing-preserved
loop-placing-preserved c slot h = stored_more (c.loop-placing.invariant slot h) c.requires.sure c.loop-placing-test.true c.set_seed.ensures

pub returns : goal.returns
returns c slot h = stored_all (c.loop-placing.invariant slot h) (omega (arith, c.loop-placing-test.false))
