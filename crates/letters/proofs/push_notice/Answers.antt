use Rattle.letters.proofs.Forms.{finished_some}
use Rattle.letters.proofs.push_notice.Goals as goal

pub unwrap-len-requires : goal.unwrap-len-requires
unwrap-len-requires c = finished_some c.args.text.now c.args.room.now c.rewrite.new.room c.args.head c.requires.head c.requires.room c.rewrite.result c.rewrite.ensures
