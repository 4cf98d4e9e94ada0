use Rattle.std.proofs.Common.{◌≡◌, ◌-◌, reverse}
use Rattle.shared.specs.Lists.{first_answer}
use Rattle.book_slots.specs.Slots.{slot_in}
use Rattle.book_chains.proofs.Ways.{through}
use Rattle.book_chains.proofs.+walk_from.Given as goal

abbrev pub decreases-walk_from : goal.decreases-walk_from
decreases-walk_from g l = l.moves

abbrev pub invariant-loop-i : goal.invariant-loop-i
invariant-loop-i g l =
    let slot = slot_in g.P.PartKind.bytes g.S.SettingKind.numbers l.shelf.slots.now in
    let way = through l.shelf.sizes (g.F.HashFamily.hash l.family) slot (l.moves - 1) l.bucket (reverse l.trail.items) in
    first_answer way l.i (4 - l.i) ≡ first_answer way 0 4
