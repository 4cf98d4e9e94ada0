use Rattle.shared_pen.proofs.Lines.{in_events}
use Rattle.shared_pen.proofs.notice_in_events.Goals as goal

pub returns : goal.returns
returns c = in_events
