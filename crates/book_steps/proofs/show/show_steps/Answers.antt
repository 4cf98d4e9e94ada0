use Rattle.std.proofs.Common.{◌+◌, length, fold, sym, ap, ◌∙◌, arith}
use Rattle.book_slots.specs.Slots.{held_as, slot_in}
use Rattle.book_steps.specs.Plans.{shown_step}
use Rattle.book_steps.proofs.Shows.{steps, steps-more, steps-end, steps_all}
use Rattle.book_steps.proofs.show.show_steps.Goals as goal

pub loop-step-preserved : goal.loop-step-preserved
loop-step-preserved g c =
    let after = g.V.StepVisitor.after in
    let slot = slot_in g.P.PartKind.bytes g.S.SettingKind.numbers c.args.shelf.now.slots.now in
    let f = shown_step c.args.shelf.now.sizes (g.F.HashFamily.hash c.args.family.now) g.S.SettingKind.blanks slot c.args.plan.now (held_as g.P.PartKind.bytes g.S.SettingKind.numbers c.args.held) c.args.words.now in
    let n = length c.args.plan.now in
    ap (λ v. fold after v (steps after f n (c.loop-step.step + 1))) c.show_step.ensures
    ∙ sym (steps-more after f n c.loop-step.step c.loop-step.v (omega arith))
    ∙ c.loop-step.invariant

pub returns : goal.returns
returns g c =
    let after = g.V.StepVisitor.after in
    let slot = slot_in g.P.PartKind.bytes g.S.SettingKind.numbers c.args.shelf.now.slots.now in
    let f = shown_step c.args.shelf.now.sizes (g.F.HashFamily.hash c.args.family.now) g.S.SettingKind.blanks slot c.args.plan.now (held_as g.P.PartKind.bytes g.S.SettingKind.numbers c.args.held) c.args.words.now in
    let n = length c.args.plan.now in
    sym (steps-end after f n c.loop-step.step c.loop-step.v (omega arith)) ∙ c.loop-step.invariant ∙ steps_all after f n c.args.v.now
