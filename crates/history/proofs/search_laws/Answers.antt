use Rattle.history.proofs.Least.{chain-law}
use Rattle.history.proofs.Searches.{seed_law, flip_law}
use Rattle.history.proofs.search_laws.Goals as goal

pub returns : goal.returns
returns c = record { seed = seed_law; chain = chain-law; flips = flip_law }
