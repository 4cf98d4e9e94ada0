use Rattle.shared_pen.proofs.Printed.{print_events, print_notice}
use Rattle.shared_pen.proofs.printer_laws.Goals as goal

pub returns : goal.returns
returns g c = record { events = print_events g.K.Sink.each; notice = print_notice g.K.Sink.each }
