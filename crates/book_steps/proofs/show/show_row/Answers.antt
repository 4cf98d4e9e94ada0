use Rattle.std.proofs.Common.{◌+◌, fold, sym, ap, ◌∙◌}
use Rattle.book_steps.proofs.Shows.{rest, row-flip, row-pass}
use Rattle.book_steps.proofs.show.show_row.Goals as goal
use Rattle.book_steps.proofs.show.show_row.Goals.{then-turned_by, else-turned_by}

pub loop-place-preserved : goal.loop-place-preserved
loop-place-preserved g c =
    let after = g.V.StepVisitor.after in
    let words = c.args.words.now in
    let place = c.loop-place.place in
    let on = rest after words c.args.step (place + 1) in
    elim c.if-turned_by.branch [
      | then-turned_by w ↦
          ap (λ v. fold after v on) (w.v-is ∙ w.flip.ensures)
          ∙ sym (row-flip after words c.args.step place c.loop-place.v c.loop-place-test.true (sym w.if-turned_by.true ∙ c.turned_by.ensures))
      | else-turned_by w ↦
          ap (λ v. fold after v on) w.v-is
          ∙ sym (row-pass after words c.args.step place c.loop-place.v c.loop-place-test.true (sym w.if-turned_by.false ∙ c.turned_by.ensures))
    ]
    ∙ c.loop-place.invariant
