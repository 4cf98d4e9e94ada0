-- What a whole pass answers.
use Rattle.std.proofs.Common.{◌≡◌, ℕ, List, Ok, Err, fold, Result, sym, refl, ap, ◌∙◌}
use Rattle.shared.specs.declared.refusal.Fault.{Fault}
use Rattle.shared.specs.Forms.{and_then}
use Rattle.shared.specs.Notice.{Step, Notice}
use Rattle.shared_text.specs.Events.{Event, events_of}
use Rattle.shared_notice.specs.Walks.{passed, with_number, notice_number}

number_told : {V : Type 0} (w : V) (r : Result ℕ Fault) → and_then (with_number w r) (λ x. Ok x.0) ≡ r
number_told w (Ok n) = refl
number_told w (Err d) = refl

number_passed : {V : Type 0} (after : V → Event → V) (v : V) (m : Result Notice Fault) → and_then (passed after v m) (λ x. Ok x.0) ≡ notice_number m
number_passed after v (Ok m) = refl
number_passed after v (Err d) = refl

-- the answer, whatever the pass is
pub pass_number : {V : Type 0} (after : V → Event → V) (v w : V) (r : Result ℕ Fault) (m : Result Notice Fault) → with_number w r ≡ passed after v m → r ≡ notice_number m
pass_number after v w r m e = sym (number_told w r) ∙ ap (λ z. and_then z (λ x. Ok x.0)) e ∙ number_passed after v m

ok_same : {X E : Type 0} (x y : X) → ◌≡◌ {A = Result X E} (Ok x) (Ok y) → x ≡ y
ok_same x y e = cc

-- of a notice the pass has seen its steps
pub pass_seen : {V : Type 0} (after : V → Event → V) (v w : V) (r : Result ℕ Fault) (m : Result Notice Fault) (n : ℕ) (steps : List Step) → with_number w r ≡ passed after v m → m ≡ Ok (n, steps) → (r ≡ Ok n) × (w ≡ fold after v (events_of steps))
pass_seen after v w r m n steps e f =
    let p = pass_number after v w r m e ∙ ap notice_number f in
    (p, ap (λ x. x.1) (ok_same (n, w) (n, fold after v (events_of steps)) (sym (ap (with_number w) p) ∙ e ∙ ap (passed after v) f)))
