use Rattle.std.proofs.Common.{◌≡◌, ℕ, reverse, ◌<◌, length, get_or, subst, ap, ◌∙◌, arith, rules}
use mathlib.Core.Option.{some}
use Rattle.shared.specs.Book.{Held, other}
use Rattle.chain_laws.specs.Plans.{seed_at, planned}
use Rattle.book_slots.specs.Slots.{held_as, slot_in}
use Rattle.book_steps.specs.Plans.{placements_of}
use Rattle.book_plan.specs.Makes.{plan_of, MadeIf}
use Rattle.book_plan.proofs.Moves.{other-is, moved_as, one_move, last_low, rest_low, move_dead, move_at, plan_more, made_next}
use Rattle.book_plan.proofs.+plan_from.Goals as goal

pub plan_from-requires : goal.plan_from-requires
plan_from-requires g t c κs within =
    let low : (k : ℕ) → k < length c.in-Some.rest.now → get_or c.in-Some.rest.now k 0 < 4 = rest_low c.args.picks.now c.in-Some.rest.now c.in-Some.field-0-0.now c.in-Some.ensures.cases.0 c.requires.picks in
    search rules

pub with_step-requires-2-clause-spot : goal.with_step-requires-2-clause-spot
with_step-requires-2-clause-spot g t c = last_low c.args.picks.now c.in-Some.rest.now _ c.in-Some.ensures.cases.0 c.requires.picks

pub returns-in_err-plan-clause-is : goal.returns-in_err-plan-clause-is
returns-in_err-plan-clause-is g t c =
    let z = c.args.shelf.now.sizes in
    let hash = g.F.HashFamily.hash c.args.family.now in
    let bytes = g.P.PartKind.bytes in
    let numbers = g.S.SettingKind.numbers in
    let slots = c.args.shelf.now.slots.now in
    let slot = slot_in bytes numbers slots in
    let j = c.args.bucket in
    let i = c.in-Some.field-0-0.now in
    let h : Held = held_as bytes numbers c.args.held in
    let q : Held = held_as bytes numbers c.in_ok-moved.moved in
    let picks = c.args.picks.now in
    let rest = c.in-Some.rest.now in
    let cut = c.in-Some.ensures.cases in
    let low : i < 4 = last_low picks rest i cut.0 c.requires.picks in
    let at : slot j i ≡ some q = moved_as bytes numbers slots j c.four.result.now i c.index-four-spot.result c.in_ok-moved.moved c.four.ensures low c.index-four-spot.is c.in_ok-moved.was in
    let next : c.other-next.result ≡ other z hash q.0 j = c.other-next.ensures ∙ other-is z hash q.0 c.places_of.result c.places_of.ensures j in
    let there = ap (λ (b : ℕ). planned z hash slot b q (reverse rest)) next in
    let first = one_move picks rest i cut.0 in
    ap (plan_of slot h) c.from_residual-in_err-plan.ensures ∙ move_dead z hash slot j i h q (reverse rest) (reverse picks) first at (c.in_err-plan.ensures.is ∙ there)

pub returns-clause-is : goal.returns-clause-is
returns-clause-is g t c =
    let z = c.args.shelf.now.sizes in
    let hash = g.F.HashFamily.hash c.args.family.now in
    let bytes = g.P.PartKind.bytes in
    let numbers = g.S.SettingKind.numbers in
    let slots = c.args.shelf.now.slots.now in
    let slot = slot_in bytes numbers slots in
    let j = c.args.bucket in
    let i = c.in-Some.field-0-0.now in
    let h : Held = held_as bytes numbers c.args.held in
    let q : Held = held_as bytes numbers c.in_ok-moved.moved in
    let picks = c.args.picks.now in
    let rest = c.in-Some.rest.now in
    let cut = c.in-Some.ensures.cases in
    let low : i < 4 = last_low picks rest i cut.0 c.requires.picks in
    let at : slot j i ≡ some q = moved_as bytes numbers slots j c.four.result.now i c.index-four-spot.result c.in_ok-moved.moved c.four.ensures low c.index-four-spot.is c.in_ok-moved.was in
    let next : c.other-next.result ≡ other z hash q.0 j = c.other-next.ensures ∙ other-is z hash q.0 c.places_of.result c.places_of.ensures j in
    let there = ap (λ (b : ℕ). planned z hash slot b q (reverse rest)) next in
    let first = one_move picks rest i cut.0 in
    let steps = c.in_ok-plan.plan.items in
    plan_more z slot j i (length rest) h q at steps c.in_ok-plan.ensures.made c.with_step-2.result (seed_at z hash slot j i h) c.with_step-2.ensures
    ∙ move_at z hash slot j i h q (reverse rest) (reverse picks) first at (placements_of slot steps q) (c.in_ok-plan.ensures.is ∙ there)

pub returns-clause-made : goal.returns-clause-made
returns-clause-made g t c =
    let z = c.args.shelf.now.sizes in
    let hash = g.F.HashFamily.hash c.args.family.now in
    let bytes = g.P.PartKind.bytes in
    let numbers = g.S.SettingKind.numbers in
    let slots = c.args.shelf.now.slots.now in
    let slot = slot_in bytes numbers slots in
    let j = c.args.bucket in
    let i = c.in-Some.field-0-0.now in
    let h : Held = held_as bytes numbers c.args.held in
    let q : Held = held_as bytes numbers c.in_ok-moved.moved in
    let picks = c.args.picks.now in
    let rest = c.in-Some.rest.now in
    let cut = c.in-Some.ensures.cases in
    let low : i < 4 = last_low picks rest i cut.0 c.requires.picks in
    let at : slot j i ≡ some q = moved_as bytes numbers slots j c.four.result.now i c.index-four-spot.result c.in_ok-moved.moved c.four.ensures low c.index-four-spot.is c.in_ok-moved.was in
    subst (λ (n : ℕ). MadeIf z slot n c.with_step-2.result) cut.1
    (made_next z slot j i (length rest) h q at c.in_ok-plan.plan.items c.in_ok-plan.ensures.made c.with_step-2.result (seed_at z hash slot j i h) c.with_step-2.ensures (omega (arith, cut.1, c.requires.few)) c.requires.into low)
