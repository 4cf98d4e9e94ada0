use Rattle.shared_pen.proofs.Measured.{rule_exact, rule_joined, rule_events, rule_notice, rule_finished}
use Rattle.shared_pen.proofs.Rules.{ruled, ruled_some, ruled_event_is}
use Rattle.shared_pen.proofs.ruler_laws.Goals as goal

pub returns : goal.returns
returns c = record { exact = rule_exact; bytes = ruled; text = ruled_some; event = ruled_event_is; joined = rule_joined; events = rule_events; notice = rule_notice; finished = rule_finished }
