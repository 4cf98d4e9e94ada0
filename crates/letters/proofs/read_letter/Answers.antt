use Rattle.std.proofs.Common.{◌≡◌, Err, sym, subst, rules}
use Rattle.letters.proofs.Rewrites.{read_fault, head_read}
use Rattle.letters.specs.Counts.{counted, ReadAs}
use Rattle.letters.specs.Letters.{trims}
use Rattle.shared.specs.Notice.{read_notice}
use Rattle.letters.proofs.read_letter.Goals as goal

pub returns : goal.returns
returns c = head_read c.args.text.now c.in_ok-number.number c.default-count.result c.walk_notice.new.v (search rules) c.in_ok-number.ensures

pub returns-in_err-number : goal.returns-in_err-number
returns-in_err-number c =
    let fault = c.in_err-number.field-0.0 in
    let same : c.from_residual.result ≡ Err fault = search rules in
    subst (ReadAs c.args.text.now) (sym same) (read_fault counted c.default-count.result fault (read_notice trims c.args.text.now) c.in_err-number.ensures)
