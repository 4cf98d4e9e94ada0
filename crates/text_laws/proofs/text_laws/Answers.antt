use Rattle.text_laws.proofs.Faithful.{faithful, faults_first}
use Rattle.text_laws.proofs.text_laws.Goals as goal

pub returns : goal.returns
returns c = record { faithful = faithful; first = faults_first }
