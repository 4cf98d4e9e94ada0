use Rattle.std.proofs.Common.{◌≡◌, ◌-◌}
use Rattle.shared.specs.Lists.{first_answer}
use Rattle.book_slots.specs.Slots.{slot_in}
use Rattle.book_chains.specs.Chains.{chain_either}
use Rattle.book_chains.proofs.find_chain.Given as goal

abbrev pub invariant-loop-moves : goal.invariant-loop-moves
invariant-loop-moves g l =
    let slot = slot_in g.P.PartKind.bytes g.S.SettingKind.numbers l.shelf.slots.now in
    let both = chain_either l.shelf.sizes (g.F.HashFamily.hash l.family) slot l.places.first l.places.second in
    first_answer both l.moves (5 - l.moves) ≡ first_answer both 0 5
