-- A find in memory that fits, of a text that is a part number.
use Rattle.std.proofs.Common.{◌≡◌, ℕ, List, true, [], ◌∷◌, take, sym, ap, ◌∙◌, rules, lit<}
use Rattle.std.proofs.lemmas.Bool.{cond-true}
use Rattle.shared.specs.declared.sizes.Sizes.{Sizes}
use Rattle.shared.specs.Answers.{accepted}
use Rattle.shared.specs.Table.{find}
use Rattle.shared_families.specs.Hashes.{fnv}
use Rattle.shared_kinds.specs.declared.set_number.SetNumber.{SetNumber}
use Rattle.shared_kinds.specs.Parts.{is_part_number}
use Rattle.shared_table.specs.Memory.{Memory, memory, fits, view}
use Rattle.shared_table.specs.Tables.{sizes_and_memory}
use Rattle.bench_find.specs.Calls.{numbers_of}
use Rattle.bench_find.proofs.Codes.{made}
use Rattle.bench_find.proofs.find_at.Goals as goal

pub returns : goal.returns
returns c =
    let text = c.args.text.now in
    let z = c.args.sizes in
    let m = memory c.args.settings.now c.args.row_a.now c.args.row_b.now c.args.seeds.now c.args.overflow.now 0 in
    let bytes = take c.in_ok-part.part.len c.in_ok-part.part.cells in
    let reached : Sizes × Memory SetNumber → List ℕ → List ℕ = λ x. find x.0 fnv (view numbers_of (0 ∷ []) x.0 x.1) in
    let fit : fits z m ≡ true = search rules in
    let same : sizes_and_memory c.in_ok-table.table ≡ (z, m) = search rules in
    let part = made (is_part_number text) 3 bytes text (lit< tt) c.in_ok-part.ensures in
    ap accepted (c.find.ensures 0 ∙ ap (λ x. reached x bytes) same ∙ ap (reached (z, m)) part.1)
    ∙ sym (cond-true (fits z m) _ _ fit ∙ cond-true (is_part_number text) _ _ part.0)
