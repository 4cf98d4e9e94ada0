use Rattle.std.proofs.Common.{◌≡◌, ap, ◌∙◌, true, rules}
use Rattle.shared_kinds.specs.Parts.{is_part_number}
use Rattle.shared_kinds.proofs.Parts.{take-copied, clear_behind}
use Rattle.shared_kinds.proofs.part_number.PartNumberTryFromRefSliceU8.try_from.Goals as goal

pub invariant_of-result-clause-allowed : goal.invariant_of-result-clause-allowed
invariant_of-result-clause-allowed c =
    let lawful : is_part_number c.args.text.now ≡ true = search rules in
    ap is_part_number (take-copied c.args.text.now _ c.copy_from_slice.ensures.after _) ∙ lawful

pub invariant_of-result-clause-clear : goal.invariant_of-result-clause-clear
invariant_of-result-clause-clear c = clear_behind c.args.text.now _ c.copy_from_slice.ensures.after 16 0
