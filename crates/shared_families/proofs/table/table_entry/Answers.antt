use Rattle.std.proofs.Common.{rules}
use Rattle.shared_families.proofs.Entries.{rule, permutes}
use Rattle.shared_families.proofs.table.table_entry.Goals as goal

pub returns : goal.returns
returns c = record { rule = rule c.args.i (search rules); once = permutes }
