use Rattle.chain_laws.proofs.Plans.{stands, spilled, plays}
use Rattle.chain_laws.proofs.plan_laws.Goals as goal

pub returns : goal.returns
returns c = record { steps = stands; entries = spilled; book = plays }
