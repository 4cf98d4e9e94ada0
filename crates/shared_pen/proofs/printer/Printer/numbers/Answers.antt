use Rattle.std.proofs.Common.{arith}
use Rattle.shared_pen.proofs.Inks.{settings}
use Rattle.shared_pen.proofs.printer.Printer.numbers.Goals as goal

pub loop-i-preserved : goal.loop-i-preserved
loop-i-preserved g c = let even = g.met.S.SettingKind.even c.args.setting in grind (arith, settings, even)

pub returns : goal.returns
returns g c =
    let even = g.met.S.SettingKind.even c.args.setting in
    let some = g.met.S.SettingKind.some in
    grind (arith, settings, even, some)
