use Rattle.history.proofs.Holdings.{holding-law, notices_law}
use Rattle.history.proofs.ledger_laws.Goals as goal

pub returns : goal.returns
returns c = record { holding = holding-law; notices = notices_law }
