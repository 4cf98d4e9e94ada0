use Rattle.std.proofs.Common.{◌≡◌, ℕ, ◌++◌, List, OnOk, vec_items, subst, arith}
use Rattle.letters.proofs.Prints.{number-decimal, OnOk-same}
use Rattle.letters.proofs.push_number.Goals as goal

pub returns : goal.returns
returns c =
    OnOk-same _ c.write-printed.result c.map_err.result c.map_err.ensures.variant
    (subst (λ (l : List ℕ). OnOk c.write-printed.result (vec_items c.write-printed.new.self ≡ vec_items c.args.out.now ++ l))
    (number-decimal c.args.n (omega arith)) c.write-printed.ensures.bytes)
