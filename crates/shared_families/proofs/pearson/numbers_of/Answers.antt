use Rattle.std.proofs.Common.{◌≡◌, ℕ, ◌<◌, List, [], map, length, get_or, sym, ◌∙◌, rules, arith}
use Rattle.std.proofs.lemmas.List.{ext_get_or, get_or-map, length-map}
use Rattle.shared_families.specs.Lanes.{lanes_number}
use Rattle.shared_families.proofs.pearson.numbers_of.Goals as goal

-- a list whose every element is f of the other's
mapped : {X Y : Type 0} (f : X → Y) (d : X) (e : Y) (xs : List X) (ys : List Y) → length ys ≡ length xs → ((i : ℕ) → i < length xs → get_or ys i e ≡ f (get_or xs i d)) → ys ≡ map f xs
mapped f d e xs ys long each =
    ext_get_or e ys (map f xs) (long ∙ sym (length-map xs f)) (λ i h. each i (omega arith) ∙ sym (get_or-map f xs i d e (omega arith)))

pub returns : goal.returns
returns c =
    let n : length c.args.four ≡ 4 = search rules in
    mapped lanes_number (record { first = 0; second = 0; third = 0; fourth = 0 }) 0 c.args.four c.map.result (search rules) (λ i h.
    let given = c.map.ensures.items.at i (record { first = 0; second = 0; third = 0; fourth = 0 }) 0 (omega arith) in search rules)
