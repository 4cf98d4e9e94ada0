use Rattle.std.proofs.Common.{◌≡◌, take, fold}
use Rattle.shared_families.proofs.absorb.absorb_all.Given as goal

abbrev pub invariant-loop-byte : goal.invariant-loop-byte
invariant-loop-byte g l = l.state ≡ fold g.A.Absorb.step l.initial.state (take l.byte-index l.bytes)
