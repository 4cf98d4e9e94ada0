use Rattle.shared_pen.proofs.Written.{ink_joined, ink_fits, ink_over, ink_full, ink_events, ink_notice, ink_finished}
use Rattle.shared_pen.proofs.pen_laws.Goals as goal

pub returns : goal.returns
returns c = record { joined = ink_joined; fits = ink_fits; over = ink_over; full = ink_full; events = ink_events; notice = ink_notice; finished = ink_finished }
