use Rattle.book_flips.proofs.Words.{flag_read}
use Rattle.book_flips.proofs.turned_by.Goals as goal

pub returns : goal.returns
returns c = flag_read c.args.word c.args.step
