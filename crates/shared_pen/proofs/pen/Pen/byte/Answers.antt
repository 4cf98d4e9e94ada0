use Rattle.std.proofs.Common.{sym}
use Rattle.shared_pen.proofs.Inks.{byte_full, byte_over, byte_room}
use Rattle.shared_pen.proofs.pen.Pen.byte.Goals as goal

pub returns-in_default : goal.returns-in_default
returns-in_default c = sym (byte_full c.args.self.now c.args.byte c.in_default.is)

pub returns-then-at-self : goal.returns-then-at-self
returns-then-at-self c = sym (byte_over c.args.self.now c.args.byte c.in-Some.at c.in-Some.is c.if-at-self.true)

pub returns : goal.returns
returns c = sym (byte_room c.args.self.now c.args.byte c.in-Some.at c.in-Some.is c.if-at-self.false)
