use Rattle.std.proofs.Common.{[], ◌∷◌, map, length, ap, ◌∙◌, arith}
use Rattle.shared.specs.Book.{Held, value_at}
use Rattle.chain_laws.specs.Plans.{filled}
use Rattle.book_slots.specs.Slots.{slot_in}
use Rattle.book_steps.specs.Plans.{flagged_from, placing_at, shown_step}
use Rattle.book_steps.proofs.Shows.{step-pieces, row-a, row-b}
use Rattle.book_steps.proofs.show.show_step.Goals as goal

pub returns : goal.returns
unfolding shown_step
returns g c =
    let p = placing_at c.args.plan.now c.args.step in
    let words = c.args.words.now in
    let z = c.args.shelf.now.sizes in
    let slot = slot_in g.P.PartKind.bytes g.S.SettingKind.numbers c.args.shelf.now.slots.now in
    let hash = g.F.HashFamily.hash c.args.family.now in
    step-pieces g.V.StepVisitor.after _ _ _ _ _ _ _ _ p.bucket p.seed _ _ _ _ _ _ _
    c.begin_bucket.ensures c.from.ensures c.show_settings.ensures
    (ap (λ (h : Held). map (value_at hash g.S.SettingKind.blanks p.seed (filled slot p.bucket p.spot h)) (0 ∷ 1 ∷ 2 ∷ 3 ∷ [])) c.arriving-coming.ensures)
    c.row.ensures c.show_row.ensures (ap (λ (ws : _). flagged_from ws c.args.step 0 (length ws)) c.split_at.ensures.front ∙ row-a words c.args.step z.a (omega (arith, c.requires.words)))
    c.row-2.ensures c.show_row-2.ensures (ap (λ (ws : _). flagged_from ws c.args.step 0 (length ws)) c.split_at.ensures.back ∙ row-b words c.args.step z.a z.b c.requires.words) c.end_bucket.ensures
