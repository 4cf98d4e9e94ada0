use Rattle.std.proofs.Common.{◌≡◌, ◌-◌}
use Rattle.shared.specs.Book.{seed_for}
use Rattle.shared.specs.Lists.{first_from}
use Rattle.book_slots.specs.Slots.{parts}
use Rattle.book_seeds.proofs.Scans.{serves}
use Rattle.book_seeds.proofs.least_seed.Given as goal

abbrev pub invariant-loop-seed : goal.invariant-loop-seed
invariant-loop-seed g l =
    let hash = g.F.HashFamily.hash l.family in
    let ks = parts g.P.PartKind.bytes l.slots in
    first_from (serves hash ks) l.seed (256 - l.seed) ≡ seed_for hash ks
