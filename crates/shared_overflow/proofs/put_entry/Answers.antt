-- The entry goes over the bucket's own, or over an unused one.
use Rattle.std.proofs.Common.{◌≡◌, ℕ, ◌≤◌, Bool, true, not, get_or, sym, refl, ap, ◌∙◌, inl, inr, rules, tests, arith}
use Rattle.std.proofs.lemmas.Iterator.{YieldsList-from_slice}
use Rattle.std.proofs.lemmas.Iterator.Search.{position_from_yields_List}
use Rattle.std.proofs.lemmas.Bool.{not-true}
use Rattle.std.proofs.lemmas.List.Sums.{get_or-le-sum_by}
use Rattle.shared_overflow.specs.Overflow.{unused, mine, one, times}
use Rattle.shared_overflow.proofs.Writes.{placed, unplaced, none_pass, all_used, put-at, unused-mine}
use Rattle.shared_overflow.proofs.put_entry.Goals as goal

least : (b : Bool) (n : ℕ) → b ≡ true → one b ≤ n → n ≤ 1 → n ≡ one b
least b n e l h = omega (arith, ap one e)

pub returns-in-Some : goal.returns-in-Some
returns-in-Some c =
    let es = c.args.entries.now in
    let j = c.args.bucket in
    let own = c.in-Some.own in
    let found = c.own_entry.ensures.is in
    let at = placed (mine j) es unused own (sym found ∙ c.in-Some.is) in
    put-at es own _ unused at.1 j c.args.seed refl (omega (arith, at.0))
    (least _ (times es j) at.2 (get_or-le-sum_by (λ e. one (mine j e)) es own unused at.1) c.requires.once) (inl at.2)

pub returns-in-Some-position : goal.returns-in-Some-position
returns-in-Some-position c =
    let es = c.args.entries.now in
    let j = c.args.bucket in
    let free = c.in-Some-position.free in
    let lost = c.own_entry.ensures.is in
    let found = position_from_yields_List (λ e. not e.used) _ _ c.position.result c.position.ensures.ran (YieldsList-from_slice es cc) (λ x b q k. search (rules, tests)) in
    let far = unplaced (mine j) es (sym lost ∙ c.in_default.is) in
    let at = placed (λ e. not e.used) es unused free (sym found ∙ c.in-Some-position.is) in
    let u = not-true (get_or es free unused).used at.2 in
    put-at es free _ unused at.1 j c.args.seed refl (omega (arith, at.1, far))
    (none_pass (mine j) es far ∙ sym (ap one (unused-mine j (get_or es free unused) u))) (inr u)

pub returns-in_default-position : goal.returns-in_default-position
returns-in_default-position c =
    let es = c.args.entries.now in
    let j = c.args.bucket in
    let lost = c.own_entry.ensures.is in
    let full = position_from_yields_List (λ e. not e.used) _ _ c.position.result c.position.ensures.ran (YieldsList-from_slice es cc) (λ x b q k. search (rules, tests)) in
    let none = none_pass (mine j) es (unplaced (mine j) es (sym lost ∙ c.in_default.is)) in
    let all = all_used es (none_pass (λ e. not e.used) es (unplaced (λ e. not e.used) es (sym full ∙ c.in_default-position.is))) in
    absurd (omega (arith, c.requires.room none, all))
