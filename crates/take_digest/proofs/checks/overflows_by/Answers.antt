-- The entries are counted step by step.
use Rattle.std.proofs.Common.{sym, ap, ◌∙◌}
use Rattle.shared_table.specs.Memory.{seed_of}
use Rattle.take_digest.specs.Digests.{slot_head}
use Rattle.take_digest.proofs.Counts.{turn_some, turn_over, turn_next}
use Rattle.take_digest.proofs.checks.overflows_by.Goals as goal

pub used_after-used-requires-clause-some : goal.used_after-used-requires-clause-some
used_after-used-requires-clause-some c =
    let seed = seed_of c.args.seeds.now c.args.overflow.now in
    turn_some c.args.sizes seed c.args.heads.now c.loop-head.head-index c.loop-head.used (slot_head 0) c.loop-head-test.true c.loop-head.invariant
    c.in-Some.new c.in-Some.is c.seed_of-old.result (c.seed_of-old.ensures ∙ ap seed c.from.ensures)

pub returns-then-used-sizes : goal.returns-then-used-sizes
returns-then-used-sizes c =
    let seed = seed_of c.args.seeds.now c.args.overflow.now in
    sym (turn_over c.args.sizes seed c.args.heads.now c.loop-head.head-index c.loop-head.used (slot_head 0) c.loop-head-test.true c.loop-head.invariant
    c.in-Some.new c.in-Some.is c.seed_of-old.result (c.seed_of-old.ensures ∙ ap seed c.from.ensures)
    c.used_after-used.result c.used_after-used.ensures c.if-used-sizes.true)

pub loop-head-preserved : goal.loop-head-preserved
loop-head-preserved c =
    let seed = seed_of c.args.seeds.now c.args.overflow.now in
    turn_next c.args.sizes seed c.args.heads.now c.loop-head.head-index c.loop-head.used (slot_head 0) c.loop-head-test.true c.loop-head.invariant
    c.in-Some.new c.in-Some.is c.seed_of-old.result (c.seed_of-old.ensures ∙ ap seed c.from.ensures)
    c.used_after-used.result c.used_after-used.ensures c.if-used-sizes.false
