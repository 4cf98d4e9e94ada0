use Rattle.text_laws.proofs.Faithful.{faithful}
use Rattle.history.proofs.Midway.{found_midway}
use Rattle.history.proofs.midway_law.Goals as goal

pub returns : goal.returns
returns c = λ kind ok. found_midway kind ok (faithful kind).back
