-- The rows after the pass.
use Rattle.std.proofs.Common.{◌∙◌, rules}
use Rattle.shared.specs.Notice.{read_notice}
use Rattle.shared_notice.specs.Walks.{kind_of}
use Rattle.take_places.proofs.Turned.{rows_turned}
use Rattle.take_places.proofs.flip_places.Goals as goal

pub returns-clause-a_turned : goal.returns-clause-a_turned
returns-clause-a_turned g c = λ n steps e.
    let turned = rows_turned _ c.walk_notice.new.v c.walk_notice.result
    (read_notice (kind_of g.S.SettingKind.count g.S.SettingKind.lawful g.S.SettingKind.blanks) c.args.text.now) n steps c.walk_notice.ensures e in
    let lent = turned.0 in
    search (rules, lent) ∙ turned.2

pub returns-clause-b_turned : goal.returns-clause-b_turned
returns-clause-b_turned g c = λ n steps e.
    let turned = rows_turned _ c.walk_notice.new.v c.walk_notice.result
    (read_notice (kind_of g.S.SettingKind.count g.S.SettingKind.lawful g.S.SettingKind.blanks) c.args.text.now) n steps c.walk_notice.ensures e in
    let lent = turned.1 in
    search (rules, lent) ∙ turned.3
