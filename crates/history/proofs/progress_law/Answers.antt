use Rattle.text_laws.proofs.Faithful.{faithful}
use Rattle.history.proofs.Progress.{catches_up}
use Rattle.history.proofs.progress_law.Goals as goal

pub returns : goal.returns
returns c = λ kind ok. catches_up kind ok (faithful kind).back
