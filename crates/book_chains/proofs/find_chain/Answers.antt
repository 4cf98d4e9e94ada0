use Rattle.std.proofs.Common.{ℕ, sym, ◌∙◌, ap₂, arith}
use Rattle.shared.specs.Lists.{first_answer}
use Rattle.book_slots.specs.Slots.{slot_in}
use Rattle.book_slots.proofs.Firsts.{answer-more, answer-here, answer-none}
use Rattle.book_chains.specs.Chains.{chain_either}
use Rattle.book_chains.proofs.find_chain.Goals as goal

pub returns-in-Some-clause-is : goal.returns-in-Some-clause-is
returns-in-Some-clause-is g c =
    let either = chain_either c.args.shelf.now.sizes (g.F.HashFamily.hash c.args.family.now) (slot_in g.P.PartKind.bytes g.S.SettingKind.numbers c.args.shelf.now.slots.now) in
    let p = c.places_of-places in
    sym (answer-here (either p.result.first p.result.second) c.loop-moves.moves 5 _ (omega arith) (sym c.in-Some.ensures.is))
    ∙ c.loop-moves.invariant
    ∙ ap₂ (λ (x y : ℕ). first_answer (either x y) 0 5) p.ensures.first p.ensures.second

pub loop-moves-preserved : goal.loop-moves-preserved
loop-moves-preserved g c =
    let either = chain_either c.args.shelf.now.sizes (g.F.HashFamily.hash c.args.family.now) (slot_in g.P.PartKind.bytes g.S.SettingKind.numbers c.args.shelf.now.slots.now) in
    let p = c.places_of-places.result in
    sym (answer-more (either p.first p.second) c.loop-moves.moves 5 (omega arith) (sym c.in_default.ensures.is)) ∙ c.loop-moves.invariant

pub returns-clause-is : goal.returns-clause-is
returns-clause-is g c =
    let either = chain_either c.args.shelf.now.sizes (g.F.HashFamily.hash c.args.family.now) (slot_in g.P.PartKind.bytes g.S.SettingKind.numbers c.args.shelf.now.slots.now) in
    let p = c.places_of-places in
    sym (answer-none (either p.result.first p.result.second) c.loop-moves.moves 5 (omega arith))
    ∙ c.loop-moves.invariant
    ∙ ap₂ (λ (x y : ℕ). first_answer (either x y) 0 5) p.ensures.first p.ensures.second
