-- The places behind the items stay blank when one more is written.
use Rattle.std.proofs.Common.{◌≡◌, ℕ, ◌+◌, ◌-◌, List, drop, replicate, slice_set, sym, ap, ◌∙◌, arith}
use Rattle.std.proofs.lemmas.List.{drop-drop, drop-set-lt, drop-replicate}

pub still_blank : {T : Type 0} (n cap : ℕ) (b : T) (xs : List T) (x : T) → drop n xs ≡ replicate (cap - n) b → drop (n + 1) (slice_set xs n x) ≡ replicate (cap - (n + 1)) b
still_blank n cap b xs x blank =
    let e : cap - n - 1 ≡ cap - (n + 1) = omega arith in
    drop-set-lt (n + 1) xs n x (omega arith) ∙ sym (drop-drop 1 n xs) ∙ ap (drop 1) blank ∙ drop-replicate 1 (cap - n) b ∙ ap (λ k. replicate k b) e
