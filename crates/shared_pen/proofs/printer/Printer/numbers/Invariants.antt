use Rattle.std.proofs.Common.{◌≡◌, drop}
use Rattle.shared_pen.specs.Pens.{behind_spaces}
use Rattle.shared_pen.specs.Prints.{put}
use Rattle.shared_pen.proofs.printer.Printer.numbers.Given as goal

-- the numbers from i on are still to come
abbrev pub invariant-loop-i : goal.invariant-loop-i
invariant-loop-i g l =
    let vs = g.S.SettingKind.numbers l.setting in
    put g.K.Sink.each l.self (behind_spaces (drop l.i vs)) ≡ put g.K.Sink.each l.initial.self (behind_spaces (drop 1 vs))
