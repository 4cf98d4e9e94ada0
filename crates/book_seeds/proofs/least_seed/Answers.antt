use Rattle.std.proofs.Common.{◌+◌, sym, ◌∙◌, arith}
use Rattle.book_slots.specs.Slots.{parts}
use Rattle.book_slots.proofs.Firsts.{first_more, first_here, first_none}
use Rattle.book_seeds.proofs.Scans.{serves}
use Rattle.book_seeds.proofs.least_seed.Goals as goal

pub returns-then-apart_under : goal.returns-then-apart_under
returns-then-apart_under g c =
    let test = serves (g.F.HashFamily.hash c.args.family.now) (parts g.P.PartKind.bytes c.args.slots.now) in
    sym (first_here test c.loop-seed.seed 256 (omega arith) (sym c.if-apart_under.ensures)) ∙ c.loop-seed.invariant

pub loop-seed-preserved : goal.loop-seed-preserved
loop-seed-preserved g c =
    let test = serves (g.F.HashFamily.hash c.args.family.now) (parts g.P.PartKind.bytes c.args.slots.now) in
    sym (first_more test c.loop-seed.seed 256 (omega arith) (sym c.if-apart_under.ensures)) ∙ c.loop-seed.invariant

-- seed 255 was the last
pub returns-else-apart_under : goal.returns-else-apart_under
returns-else-apart_under g c =
    let test = serves (g.F.HashFamily.hash c.args.family.now) (parts g.P.PartKind.bytes c.args.slots.now) in
    sym (first_none test (c.loop-seed.seed + 1) 256 (omega arith))
    ∙ sym (first_more test c.loop-seed.seed 256 (omega arith) (sym c.if-apart_under.ensures))
    ∙ c.loop-seed.invariant

pub returns : goal.returns
returns g c = absurd (omega arith)
