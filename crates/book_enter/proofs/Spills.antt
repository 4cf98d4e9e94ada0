-- How many overflow entries are used after each placement.
use Rattle.std.proofs.Common.{◌≡◌, ℕ, zero, suc, ◌+◌, ◌-◌, ◌<◌, ◌≤◌, Bool, true, false, cond, ◌||◌, ltb, List, [], ◌∷◌, ◌++◌, map, length, sym, refl, ap, ◌∙◌, arith}
use Rattle.std.proofs.lemmas.Bool.{lt-ltb, le-ltb, or_parts}
use Rattle.shared.specs.declared.sizes.Sizes.{Sizes}
use Rattle.shared.specs.Lists.{at, up_from}
use Rattle.shared.specs.Table.{entries, entries_used, too_many}
use Rattle.shared_overflow.specs.Overflow.{one}
use Rattle.shared_table.proofs.SeedWrites.{entries_at}
use Rattle.chain_laws.specs.Plans.{Placement, seeds_after, spills}
use Rattle.shared.specs.Book.{Held, Slot}
use Rattle.book_steps.specs.declared.plan.Placing.{Placing}
use Rattle.book_steps.specs.Plans.{placing_at, placement_at, placements_of}
use Rattle.book_enter.specs.Enters.{Sure}
use Rattle.chain_laws.proofs.Ranges.{up_more, map_last}
use Rattle.chain_laws.proofs.Tools.{at_other}

seeds_more : (ps : List Placement) (p : Placement) (seed : ℕ → ℕ) → seeds_after seed (ps ++ (p ∷ [])) ≡ at (seeds_after seed ps) p.into p.seed
seeds_more [] p seed = refl
seeds_more (q ∷ ps) p seed = seeds_more ps p (at seed q.into q.seed)

few : (b : Bool) → cond b 1 0 ≤ 1
few true = omega arith
few false = omega arith

pub entries-few : (f : ℕ → ℕ) (i n : ℕ) → entries f (up_from i n) ≤ n
entries-few f i zero = omega arith
entries-few f i (suc n) = omega (arith, few (ltb 30 (f i)), entries-few f (suc i) n)

module _ (z : Sizes) (p : ℕ → Placement) (seed : ℕ → ℕ) (n : ℕ) where
  -- the seeds after the first i
  abbrev pub upto : ℕ → ℕ → ℕ
  upto i = seeds_after seed (map p (up_from 0 i))

  pub upto-more : (i : ℕ) → upto (i + 1) ≡ at (upto i) (p i).into (p i).seed
  upto-more i = ap (seeds_after seed) (map_last p i) ∙ seeds_more (map p (up_from 0 i)) (p i) seed

  -- a bucket that none of them is for has its seed
  kept_at : (j i m : ℕ) (f : ℕ → ℕ) → ((k : ℕ) → i ≤ k → k < i + m → (p k).into ≡ j → ⊥) → seeds_after f (map p (up_from i m)) j ≡ f j
  kept_at j i zero f h = refl
  kept_at j i (suc m) f h =
      kept_at j (suc i) m (at f (p i).into (p i).seed) (λ k a b. h k (omega arith) (omega arith)) ∙ at_other f (p i).into (p i).seed j (λ e. h i (omega arith) (omega arith) (sym e))

  pub upto-kept : (i : ℕ) → ((k : ℕ) → k < i → (p k).into ≡ (p i).into → ⊥) → upto i (p i).into ≡ seed (p i).into
  upto-kept i h = kept_at (p i).into 0 i seed (λ k a b. h k (omega arith))

  -- the entries used after one more
  pub used_more : (i used next old : ℕ) → (p i).into < z.buckets → ((k : ℕ) → k < i → (p k).into ≡ (p i).into → ⊥) → old ≡ seed (p i).into → used ≡ entries_used z (upto i)
      → next + one (ltb 30 old) ≡ used + one (ltb 30 (p i).seed) → next ≡ entries_used z (upto (i + 1))
  used_more i used next old lj apart e u step =
      let now = entries_at (upto i) (p i).into (p i).seed 0 z.buckets (omega arith) (omega arith) in
      let same : one (ltb 30 (upto i (p i).into)) ≡ one (ltb 30 old) = ap (λ (s : ℕ). one (ltb 30 s)) (upto-kept i apart ∙ sym e) in
      let here : entries_used z (upto (i + 1)) ≡ entries_used z (at (upto i) (p i).into (p i).seed) = ap (entries_used z) (upto-more i) in
      omega arith

  -- a bucket with a seed over 30 uses one of them
  pub used_some : (i used old : ℕ) → (p i).into < z.buckets → ((k : ℕ) → k < i → (p k).into ≡ (p i).into → ⊥) → old ≡ seed (p i).into → used ≡ entries_used z (upto i) → one (ltb 30 old) ≤ used
  used_some i used old lj apart e u =
      let now = entries_at (upto i) (p i).into 0 0 z.buckets (omega arith) (omega arith) in
      let same : one (ltb 30 (upto i (p i).into)) ≡ one (ltb 30 old) = ap (λ (s : ℕ). one (ltb 30 s)) (upto-kept i apart ∙ sym e) in
      omega arith

  -- the test of the rest
  abbrev pub rest_over : ℕ → Bool
  rest_over i = spills z (upto i) (map p (up_from i (n - i)))

  rest_at : (i : ℕ) → i < n → rest_over i ≡ (too_many z (upto (i + 1)) || rest_over (i + 1))
  rest_at i h =
      ap (λ (l : List ℕ). spills z (upto i) (map p l)) (up_more i n h)
      ∙ ap (λ (f : ℕ → ℕ). too_many z f || spills z f (map p (up_from (i + 1) (n - (i + 1))))) (sym (upto-more i))

  rest_over_lem : (i used : ℕ) → i < n → used ≡ entries_used z (upto (i + 1)) → z.overflow < used → rest_over i ≡ true
  rest_over_lem i used h u over = rest_at i h ∙ ap (λ (b : Bool). b || rest_over (i + 1)) (lt-ltb z.overflow (entries_used z (upto (i + 1))) (omega arith))

  rest-fits : (i used : ℕ) → i < n → used ≡ entries_used z (upto (i + 1)) → used ≤ z.overflow → rest_over i ≡ rest_over (i + 1)
  rest-fits i used h u few = rest_at i h ∙ ap (λ (b : Bool). b || rest_over (i + 1)) (le-ltb z.overflow (entries_used z (upto (i + 1))) (omega arith))

  -- what fits to the end fits after the next
  pub rest-next : (i : ℕ) → i < n → rest_over i ≡ false → (too_many z (upto (i + 1)) ≡ false) × (rest_over (i + 1) ≡ false)
  rest-next i h e = or_parts (too_many z (upto (i + 1))) (rest_over (i + 1)) (sym (rest_at i h) ∙ e)

  -- before step i so many entries are used, and the rest of the steps tells whether any is over
  pub record Counted (i used : ℕ) : Type 0 where
    pub entries : used ≡ entries_used z (upto i)
    pub rest : rest_over i ≡ spills z seed (map p (up_from 0 n))

-- step i of a plan, into a bucket whose seed was `old`
module _ (slot : ℕ → ℕ → Slot) (h : Held) {z : Sizes} {plan : List Placing} {seed : ℕ → ℕ} {i used old : ℕ} (sure : Sure z plan) (few : i < length plan) (is : old ≡ seed (placing_at plan i).bucket)
    (c : Counted z (placement_at slot plan h) seed (length plan) i used) where
  pub counted_some : one (ltb 30 old) ≤ used
  counted_some = used_some z (placement_at slot plan h) seed (length plan) i used old (sure.fit.into i few) (λ k l. sure.apart k i l few) is c.entries

  pub counted_few : used ≤ z.buckets
  counted_few = omega (arith, c.entries, entries-few (upto z (placement_at slot plan h) seed (length plan) i) 0 z.buckets)

  module _ {next new : ℕ} (to : new ≡ (placing_at plan i).seed) (step : next + one (ltb 30 old) ≡ used + one (ltb 30 new)) where
    counted_next : next ≡ entries_used z (upto z (placement_at slot plan h) seed (length plan) (i + 1))
    counted_next =
        used_more z (placement_at slot plan h) seed (length plan) i used next old (sure.fit.into i few) (λ k l. sure.apart k i l few) is c.entries (step ∙ ap (λ (s : ℕ). used + one (ltb 30 s)) to)

    pub counted_over : z.overflow < next → true ≡ spills z seed (placements_of slot plan h)
    counted_over over = sym (rest_over_lem z (placement_at slot plan h) seed (length plan) i next few counted_next over) ∙ c.rest

    pub counted_more : next ≤ z.overflow → Counted z (placement_at slot plan h) seed (length plan) (i + 1) next
    counted_more fits = record { entries = counted_next; rest = sym (rest-fits z (placement_at slot plan h) seed (length plan) i next few counted_next fits) ∙ c.rest }
