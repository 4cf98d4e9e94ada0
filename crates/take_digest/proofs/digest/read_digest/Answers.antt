-- What the pass answered, as what reading answers.
use Rattle.std.proofs.Common.{Ok, Err, sym, ap, ◌∙◌, subst}
use Rattle.std.proofs.lemmas.Result.{err_from_is_err_and}
use Rattle.shared_notice.specs.Walks.{kind_of}
use Rattle.take_digest.specs.Shows.{DigestRead}
use Rattle.take_digest.proofs.Readings.{digest_read}
use Rattle.take_digest.proofs.digest.read_digest.Goals as goal

pub returns-in_err-number : goal.returns-in_err-number
returns-in_err-number g c =
    let p = err_from_is_err_and c.from_residual.result c.from_residual.ensures.1 in
    let kind = kind_of g.S.SettingKind.count g.S.SettingKind.lawful g.S.SettingKind.blanks in
    subst (DigestRead kind c.args.sizes c.args.text.now) (sym (p.1 ∙ ap Err p.2))
    (digest_read kind c.args.sizes c.args.text.now c.new-digest.result c.walk_notice.new.v (Err c.in_err-number.field-0.0) c.new-digest.ensures c.in_err-number.ensures)

pub returns : goal.returns
returns g c =
    digest_read (kind_of g.S.SettingKind.count g.S.SettingKind.lawful g.S.SettingKind.blanks) c.args.sizes c.args.text.now
    c.new-digest.result c.walk_notice.new.v (Ok c.in_ok-number.number) c.new-digest.ensures c.in_ok-number.ensures
