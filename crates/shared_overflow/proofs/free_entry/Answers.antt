-- The bucket's own entry is emptied, or there is none.
use Rattle.std.proofs.Common.{sym, ◌∙◌, rules}
use Rattle.shared_overflow.specs.Overflow.{unused, mine}
use Rattle.shared_overflow.proofs.Writes.{placed, unplaced, none_pass, free_at, free_none}
use Rattle.shared_overflow.proofs.free_entry.Goals as goal

pub returns-in-Some : goal.returns-in-Some
returns-in-Some c =
    let es = c.args.entries.now in
    let j = c.args.bucket in
    let found = c.own_entry.ensures.is in
    let at = placed (mine j) es unused c.in-Some.own (sym found ∙ c.in-Some.is) in
    free_at es c.in-Some.own _ unused at.1 j (search rules) c.requires at.2

pub returns-in_default : goal.returns-in_default
returns-in_default c =
    let es = c.args.entries.now in
    let j = c.args.bucket in
    let lost = c.own_entry.ensures.is in
    free_none es j (none_pass (mine j) es (unplaced (mine j) es (sym lost ∙ c.in_default.is)))
