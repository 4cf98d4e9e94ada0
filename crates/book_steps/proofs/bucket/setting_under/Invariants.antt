use Rattle.std.proofs.Common.{◌≡◌, List, map, drop}
use Rattle.std.specs.Prelude.{Option}
use Rattle.shared.specs.Book.{held_in, value_at}
use Rattle.book_slots.specs.declared.Held.{Held}
use Rattle.book_slots.specs.Slots.{viewed}
use Rattle.book_steps.proofs.bucket.setting_under.Given as goal

abbrev pub invariant-loop-slot : goal.invariant-loop-slot
invariant-loop-slot g l =
    let found = λ (xs : List (Option (Held g.row.P.Denot g.row.S.Denot))). value_at (g.F.HashFamily.hash l.family) g.S.SettingKind.blanks l.seed (held_in (map (viewed g.P.PartKind.bytes g.S.SettingKind.numbers) xs)) l.place in
    found (drop l.slot-index l.four) ≡ found l.four
