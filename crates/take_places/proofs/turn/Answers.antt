-- A place past the end is no place of the row.
use Rattle.std.proofs.Common.{sym, arith}
use Rattle.take_places.proofs.Turned.{flip_past}
use Rattle.take_places.proofs.turn.Goals as goal

pub returns-else-place-row : goal.returns-else-place-row
returns-else-place-row c = sym (flip_past c.args.row.now c.args.place (omega arith))
