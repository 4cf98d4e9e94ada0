-- The first entry that is the bucket's, or none.
use Rattle.std.proofs.Common.{rules, tests, ◌≡◌, ap, ◌∙◌}
use Rattle.std.specs.Option.{option_map, option_map_or}
use Rattle.std.proofs.lemmas.Iterator.{YieldsList-from_slice}
use Rattle.std.proofs.lemmas.Iterator.Search.{find_from_yields_List}
use Rattle.shared_overflow.specs.declared.Entry.{Entry}
use Rattle.shared_overflow.specs.Overflow.{mine}
use Rattle.shared_overflow.proofs.seed_in.Goals as goal

pub returns : goal.returns
returns c =
    let found = find_from_yields_List (mine c.args.bucket) _ _ c.find.result c.find.ensures.ran (YieldsList-from_slice c.args.entries.now cc) (λ x b q k. search (rules, tests)) in
    let seed : c.map_or.result ≡ option_map_or (λ (e : Entry). e.seed) (option_map (λ x. x.now) c.find.result) 0 = search rules in
    seed ∙ ap (λ o. option_map_or (λ (e : Entry). e.seed) o 0) found
