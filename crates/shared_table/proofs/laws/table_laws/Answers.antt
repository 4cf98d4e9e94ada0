-- Each law, of the setting kind's numbers and blank.
use Rattle.shared_table.proofs.Fresh.{cleared-fresh}
use Rattle.shared_table.proofs.Passing.{events_apply}
use Rattle.shared_table.proofs.SeedWrites.{sound_after}
use Rattle.shared_table.proofs.Views.{seed_shown, setting_shown, flip_a_shown, flip_b_shown, four-shown}
use Rattle.shared_table.proofs.laws.table_laws.Goals as goal

pub returns : goal.returns
returns g c =
    let numbers = g.S.SettingKind.numbers in
    let blank = g.S.SettingKind.blanks in
    record {
      seeds = seed_shown numbers blank;
      settings = setting_shown numbers blank;
      flips_a = flip_a_shown numbers blank;
      flips_b = flip_b_shown numbers blank;
      sound = sound_after;
      fresh = cleared-fresh numbers blank;
      four = four-shown numbers blank;
      events = events_apply;
    }
