use Rattle.std.proofs.Common.{ℕ, ◌-◌, ◌<◌, ◌≤◌, [], ◌∷◌, ◌++◌, length, reverse, sym, ap, ◌∙◌, arith}
use mathlib.Core.Option.{Option, some}
use Rattle.shared.specs.Book.{walk}
use Rattle.shared.specs.Lists.{◌then◌}
use Rattle.book_slots.specs.Slots.{slot_in}
use Rattle.book_slots.proofs.Firsts.{answer-more, answer-here, answer-none}
use Rattle.book_chains.specs.Paths.{path_of}
use Rattle.book_chains.proofs.Ways.{through, walk-some, walk-none, through-none, through-dead, through-live, goes, four-at, picks_more}
use Rattle.book_chains.proofs.+walk_from.Goals as goal
use Rattle.book_chains.proofs.+walk_from.Goals.{in-Some+in_default-walk_from, in_default}

pub returns-in_err-lowest_empty-clause-is : goal.returns-in_err-lowest_empty-clause-is
returns-in_err-lowest_empty-clause-is g t c =
    let slot = slot_in g.P.PartKind.bytes g.S.SettingKind.numbers c.args.shelf.now.slots.now in
    ap path_of c.from_residual.ensures
    ∙ ap (λ (x : Option ℕ). x then (λ i. some [])) c.in_err-lowest_empty.ensures.is
    ∙ sym (walk-none c.args.shelf.now.sizes (g.F.HashFamily.hash c.args.family.now) slot c.args.moves c.args.bucket (reverse c.args.trail.now.items) c.if-moves-eq0.true)

pub returns-then-moves-eq0-clause-is : goal.returns-then-moves-eq0-clause-is
returns-then-moves-eq0-clause-is g t c =
    let slot = slot_in g.P.PartKind.bytes g.S.SettingKind.numbers c.args.shelf.now.slots.now in
    ap (λ l. some (reverse l)) c.new.ensures
    ∙ ap (λ (x : Option ℕ). x then (λ i. some [])) c.in_ok-lowest_empty.ensures.is
    ∙ sym (walk-none c.args.shelf.now.sizes (g.F.HashFamily.hash c.args.family.now) slot c.args.moves c.args.bucket (reverse c.args.trail.now.items) c.if-moves-eq0.true)

pub returns-in-Some-walk_from-clause-is : goal.returns-in-Some-walk_from-clause-is
returns-in-Some-walk_from-clause-is g t c =
    let pos : 0 < c.args.moves = omega (arith, c.if-moves-eq0.false) in
    let few : c.loop-i.i < 4 = omega (arith, ap length c.four-slot-items.ensures, c.loop-i-test.true) in
    let z = c.args.shelf.now.sizes in
    let hash = g.F.HashFamily.hash c.args.family.now in
    let bytes = g.P.PartKind.bytes in
    let numbers = g.S.SettingKind.numbers in
    let xs = c.args.shelf.now.slots.now in
    let slot = slot_in bytes numbers xs in
    let m = c.args.moves in
    let j = c.args.bucket in
    let i = c.loop-i.i in
    let trail = c.args.trail.now.items in
    let next = goes z hash slot j i _ _ trail _ (four-at bytes numbers xs j i c.slot-item.result _ c.four-slot-items.ensures few c.slot-item.is) c.deref.ensures.0 c.in-Some.ensures.is in
    let rest = c.in-Some-walk_from.ensures.is ∙ ap (λ l. walk z hash slot (m - 1) c.in-Some.next (reverse l)) c.push.ensures.items in
    ap (λ l. some (reverse l)) c.push-in-Some-walk_from.ensures.items
    ∙ sym (answer-here (through z hash slot (m - 1) j (reverse trail)) i 4 _ few (through-live z hash slot (m - 1) j trail i c.in-Some.next c.in-Some-walk_from.slots.items next rest))
    ∙ c.loop-i.invariant
    ∙ sym (walk-some z hash slot m j (reverse trail) pos)

pub returns-in-Some-walk_from-clause-low : goal.returns-in-Some-walk_from-clause-low
returns-in-Some-walk_from-clause-low g t c =
    picks_more c.in-Some-walk_from.slots.items _ c.args.moves c.loop-i.i (omega (arith, c.if-moves-eq0.false)) (omega (arith, ap length c.four-slot-items.ensures, c.loop-i-test.true)) c.push-in-Some-walk_from.ensures.items c.in-Some-walk_from.ensures.low

pub loop-i-preserved : goal.loop-i-preserved
loop-i-preserved g t c =
    let few : c.loop-i.i < 4 = omega (arith, ap length c.four-slot-items.ensures, c.loop-i-test.true) in
    let z = c.args.shelf.now.sizes in
    let hash = g.F.HashFamily.hash c.args.family.now in
    let bytes = g.P.PartKind.bytes in
    let numbers = g.S.SettingKind.numbers in
    let xs = c.args.shelf.now.slots.now in
    let slot = slot_in bytes numbers xs in
    let m = c.args.moves - 1 in
    let j = c.args.bucket in
    let i = c.loop-i.i in
    let trail = c.args.trail.now.items in
    let read = four-at bytes numbers xs j i c.slot-item.result _ c.four-slot-items.ensures few c.slot-item.is in
    let seen = c.deref.ensures.0 in
    let more = answer-more (through z hash slot m j (reverse trail)) i 4 few in
    elim c.match-next_bucket.branch [
      | in-Some+in_default-walk_from w ↦
          let o = w.in-Some.next in
          let rest = w.in_default-walk_from.ensures.is ∙ ap (λ l. walk z hash slot m o (reverse l)) w.push.ensures.items in
          sym (more (through-dead z hash slot m j trail i o (goes z hash slot j i _ _ trail _ read seen w.in-Some.ensures.is) rest)) ∙ c.loop-i.invariant
      | in_default w ↦ sym (more (through-none z hash slot m j trail i (goes z hash slot j i _ _ trail _ read seen w.in_default.ensures.is))) ∙ c.loop-i.invariant
    ]

pub returns-clause-is : goal.returns-clause-is
returns-clause-is g t c =
    let pos : 0 < c.args.moves = omega (arith, c.if-moves-eq0.false) in
    let last : 4 ≤ c.loop-i.i = omega (arith, ap length c.four-slot-items.ensures, c.loop-i-test.false) in
    let z = c.args.shelf.now.sizes in
    let hash = g.F.HashFamily.hash c.args.family.now in
    let slot = slot_in g.P.PartKind.bytes g.S.SettingKind.numbers c.args.shelf.now.slots.now in
    let seen = reverse c.args.trail.now.items in
    sym (answer-none (through z hash slot (c.args.moves - 1) c.args.bucket seen) c.loop-i.i 4 last)
    ∙ c.loop-i.invariant
    ∙ sym (walk-some z hash slot c.args.moves c.args.bucket seen pos)
