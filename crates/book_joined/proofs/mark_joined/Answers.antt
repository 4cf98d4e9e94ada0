use Rattle.std.proofs.Common.{◌≡◌, ℕ, ◌<◌, List, length, get_or, refl, inl, inr, arith, length-set}
use lib.ListN.{get_or-eq_default}
use Rattle.std.proofs.lemmas.Bool.{cases_lt}
use Rattle.book_joined.proofs.Spreads.{first_good, first_binary, total-most, ended}
use Rattle.book_joined.proofs.mark_joined.Goals as goal

-- all is 0, also past the end
zeros : (m : List ℕ) → ((k : ℕ) → k < length m → get_or m k 0 ≡ 0) → (k : ℕ) → get_or m k 0 ≡ 0
zeros m h k = elim (cases_lt k (length m)) [ inl l ↦ h k l | inr l ↦ get_or-eq_default m 0 l ]

pub loop-init : goal.loop-init
loop-init c =
    let m = c.fill.new.self in
    let none = zeros m (λ k l. c.fill.ensures.clones k 0 (omega arith) refl) in
    record { binary = first_binary m c.args.start none (omega arith); good = first_good _ m c.args.start none (omega arith) }

pub loop-smaller : goal.loop-smaller
loop-smaller c =
    let most = total-most c.round.new.marks c.round.ensures.binary in
    omega (arith, c.round.ensures.count, length-set c.fill.new.self c.args.start 1)

pub returns : goal.returns
returns c p h =
    let none : c.round.result ≡ 0 = omega arith in
    ended c.args.ends.now c.round.new.marks c.args.start c.round.ensures.binary (c.round.ensures.good c.args.start c.loop.invariant.good) (c.round.ensures.even none) p
