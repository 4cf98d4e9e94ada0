use Rattle.text_laws.proofs.Faithful.{form_laws}
use Rattle.text_laws.proofs.form_laws.Goals as goal

pub returns : goal.returns
returns g c = form_laws _ _
