use Rattle.std.proofs.Common.{◌≡◌, fold, map}
use Rattle.shared.specs.Book.{held_in, value_at}
use Rattle.book_slots.specs.Slots.{viewed}
use Rattle.book_steps.proofs.Shows.{settings}
use Rattle.book_steps.proofs.show.show_settings.Given as goal

abbrev pub invariant-loop-place : goal.invariant-loop-place
invariant-loop-place g l =
    let after = g.V.StepVisitor.after in
    let f = value_at (g.F.HashFamily.hash l.family) g.S.SettingKind.blanks l.placing.seed (held_in (map (viewed g.P.PartKind.bytes g.S.SettingKind.numbers) l.four)) in
    fold after l.v (settings after f l.place) ≡ fold after l.initial.v (settings after f 0)
