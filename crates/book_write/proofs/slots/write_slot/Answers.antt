use Rattle.std.proofs.Common.{arith}
use Rattle.book_write.proofs.SlotWrites.{slot_set}
use Rattle.book_write.proofs.slots.write_slot.Goals as goal

pub returns-clause-shown : goal.returns-clause-shown
returns-clause-shown g c = slot_set g.P.PartKind.bytes g.S.SettingKind.numbers c.args.slots.now c.args.bucket c.args.spot c.args.slot c.requires.spot (omega arith)
