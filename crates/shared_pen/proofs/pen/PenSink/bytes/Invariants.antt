use Rattle.std.proofs.Common.{◌≡◌, take}
use Rattle.shared_pen.specs.Inks.{inked}
use Rattle.shared_pen.proofs.pen.PenSink.bytes.Given as goal

abbrev pub invariant-loop-byte : goal.invariant-loop-byte
invariant-loop-byte l = l.self ≡ inked l.initial.self (take l.byte-index l.text)
