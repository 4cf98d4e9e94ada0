-- With the words of a plan's turns, the steps that are shown are the plan's.
use Rattle.std.proofs.Common.{◌≡◌, ℕ, zero, suc, ◌+◌, ◌-◌, ◌/◌, ◌%◌, ◌^◌, ◌<◌, ◌≤◌, Bool, true, false, cond, not, eqb, ltb, leb, List, [], ◌∷◌, ◌++◌, map, length, get_or, sym, refl, ap, ◌∙◌, ap₂, arith}
use Rattle.std.proofs.lemmas.Bool.{lt-ltb, le-ltb, le-leb, lt-leb}
use Rattle.shared.specs.declared.sizes.Sizes.{Sizes}
use Rattle.shared.specs.Book.{Held, Slot, turned, places}
use Rattle.shared.specs.Graph.{Edge, joins, ◌⊕◌, bit_of, flipped, without}
use Rattle.shared.specs.Kinds.{Hash}
use Rattle.shared.specs.Lists.{memb, up_from, kept, same_list}
use Rattle.shared.specs.Notice.{Setting, Step, bucket}
use Rattle.shared.specs.Table.{Part, h0, edge}
use Rattle.chain_laws.specs.Plans.{Placement, step_over, steps_over, turns}
use Rattle.chain_laws.proofs.Ranges.{up_append, map-up}
use Rattle.chain_laws.proofs.Tools.{kept-up}
use Rattle.book_flips.specs.Words.{Words}
use Rattle.book_flips.proofs.Words.{word_turned}
use Rattle.book_steps.specs.declared.plan.Placing.{Placing}
use Rattle.book_steps.specs.Plans.{placement_at, placements_of, flagged, flagged_from, values_at, shown_step, shown_steps}

kept_append : {A : Type 0} (t : A → Bool) (xs ys : List A) → kept t (xs ++ ys) ≡ kept t xs ++ kept t ys
kept_append t [] ys = refl
kept_append t (x ∷ xs) ys = go (t x) (kept_append t xs ys)
  where
    go : (b : Bool) → kept t (xs ++ ys) ≡ kept t xs ++ kept t ys → cond b (x ∷ kept t (xs ++ ys)) (kept t (xs ++ ys)) ≡ cond b (x ∷ kept t xs) (kept t xs) ++ kept t ys
    go true e = ap (λ (l : List _). x ∷ l) e
    go false e = e

-- a test on a range
kept_same : (s t : ℕ → Bool) (i n : ℕ) → ((k : ℕ) → i ≤ k → k < i + n → s k ≡ t k) → kept s (up_from i n) ≡ kept t (up_from i n)
kept_same s t i zero h = refl
kept_same s t i (suc n) h = ap₂ (λ (b : Bool) (l : List ℕ). cond b (i ∷ l) l) (h i (omega arith) (omega arith)) (kept_same s t (suc i) n (λ k a b. h k (omega arith) (omega arith)))

kept-none : (i n : ℕ) → kept (λ k. false) (up_from i n) ≡ []
kept-none i zero = refl
kept-none i (suc n) = kept-none (suc i) n

-- the ones of a range that pass both tests
kept-both : (s t : ℕ → Bool) (i n : ℕ) (b : Bool) → ((k : ℕ) → i ≤ k → k < i + n → s k ≡ b) → kept s (kept t (up_from i n)) ≡ cond b (kept t (up_from i n)) []
kept-both s t i zero true h = refl
kept-both s t i zero false h = refl
kept-both s t i (suc n) b h = go (t i) (kept-both s t (suc i) n b (λ k p q. h k (omega arith) (omega arith))) (h i (omega arith) (omega arith))
  where
    one : (b : Bool) (ys : List ℕ) → kept s ys ≡ cond b ys [] → s i ≡ b → cond (s i) (i ∷ kept s ys) (kept s ys) ≡ cond b (i ∷ ys) []
    one true ys e f = ap₂ (λ (c : Bool) (l : List ℕ). cond c (i ∷ l) l) f e
    one false ys e f = ap₂ (λ (c : Bool) (l : List ℕ). cond c (i ∷ l) l) f e

    go : (c : Bool) → kept s (kept t (up_from (suc i) n)) ≡ cond b (kept t (up_from (suc i) n)) [] → s i ≡ b
        → kept s (cond c (i ∷ kept t (up_from (suc i) n)) (kept t (up_from (suc i) n))) ≡ cond b (cond c (i ∷ kept t (up_from (suc i) n)) (kept t (up_from (suc i) n))) []
    go true e f = one b (kept t (up_from (suc i) n)) e f
    go false e f = e

append-none : {A : Type 0} (xs : List A) → xs ++ [] ≡ xs
append-none [] = refl
append-none (x ∷ xs) = ap (λ (l : List _). x ∷ l) (append-none xs)

module _ (a b : ℕ) (t : ℕ → Bool) where
  in_two : kept t (up_from 0 (a + b)) ≡ kept t (up_from 0 a) ++ kept t (up_from a b)
  in_two = let z : 0 + a ≡ a = omega arith in ap (kept t) (up_append 0 a b ∙ ap (λ (k : ℕ). up_from 0 a ++ up_from k b) z) ∙ kept_append t (up_from 0 a) (up_from a b)

  -- the first of the range, and the rest
  low_part : kept (λ q. ltb q a) (kept t (up_from 0 (a + b))) ≡ kept t (up_from 0 a)
  low_part =
      ap (kept (λ q. ltb q a)) in_two
      ∙ kept_append (λ q. ltb q a) (kept t (up_from 0 a)) (kept t (up_from a b))
      ∙ ap₂ (λ (l m : List ℕ). l ++ m) (kept-both (λ q. ltb q a) t 0 a true (λ k p q. lt-ltb k a (omega arith))) (kept-both (λ q. ltb q a) t a b false (λ k p q. le-ltb k a p))
      ∙ append-none (kept t (up_from 0 a))

  high_part : kept (λ q. leb a q) (kept t (up_from 0 (a + b))) ≡ kept t (up_from a b)
  high_part =
      ap (kept (λ q. leb a q)) in_two
      ∙ kept_append (λ q. leb a q) (kept t (up_from 0 a)) (kept t (up_from a b))
      ∙ ap₂ (λ (l m : List ℕ). l ++ m) (kept-both (λ q. leb a q) t 0 a false (λ k p q. lt-leb a k (omega arith))) (kept-both (λ q. leb a q) t a b true (λ k p q. le-leb a k p))

minus_none : (xs : List ℕ) → map (λ p. p - 0) xs ≡ xs
minus_none [] = refl
minus_none (x ∷ xs) = let e : x - 0 ≡ x = omega arith in ap₂ (λ (y : ℕ) (l : List ℕ). y ∷ l) e (minus_none xs)

-- places that are those of a range which pass some test
abbrev pub Ranged : ℕ → List ℕ → Type 0
Ranged n ts = (t : ℕ → Bool) × (ts ≡ kept t (up_from 0 n))

module _ (z : Sizes) (hash : Hash) (blank : Setting) (before : List Part) where
  turned-ranged : (row : ℕ → Bool) (j : ℕ) (k : Part) → Ranged (z.a + z.b) (turned z hash blank before row j k)
  turned-ranged row j k = go (bit_of row (edge z hash k) ⊕ not (eqb (h0 z hash k) j))
    where
      es : List Edge
      es = map (edge z hash) (without same_list k before)

      go : (b : Bool) → Ranged (z.a + z.b) (cond b (places z hash es (edge z hash k).1) [])
      go true = (joins es (edge z hash k).1, refl)
      go false = ((λ q. false), sym (kept-none 0 (z.a + z.b)))

  pub turns-ranged : (ps : List Placement) (row : ℕ → Bool) (k : ℕ) → Ranged (z.a + z.b) (get_or (turns z hash blank before row ps) k [])
  turns-ranged [] row k = ((λ q. false), sym (kept-none 0 (z.a + z.b)))
  turns-ranged (p ∷ ps) row zero = turned-ranged row p.into p.held.0
  turns-ranged (p ∷ ps) row (suc k) = turns-ranged ps (flipped (λ w. memb w (turned z hash blank before row p.into p.held.0)) row) k

-- the rules' steps, step by step
later : (ts : List ℕ) (tss : List (List ℕ)) (i k : ℕ) → suc i ≤ k → get_or tss (k - suc i) [] ≡ get_or (ts ∷ tss) (k - i) []
later ts tss i k h = let e : k - i ≡ suc (k - suc i) = omega arith in sym (ap (λ (m : ℕ). get_or (ts ∷ tss) m []) e)

module _ (z : Sizes) (hash : Hash) (blank : Setting) (slot : ℕ → ℕ → Slot) where
  steps-at : (p : ℕ → Placement) (i n : ℕ) (tss : List (List ℕ)) → length tss ≡ n → steps_over z hash blank slot (map p (up_from i n)) tss ≡ map (λ k. step_over z hash blank slot (p k) (get_or tss (k - i) [])) (up_from i n)
  steps-at p i zero tss e = refl
  steps-at p i (suc n) [] e = absurd (omega arith)
  steps-at p i (suc n) (ts ∷ tss) e =
      let first : i - i ≡ 0 = omega arith in
      ap₂ (λ (s : Step) (l : List Step). s ∷ l)
      (sym (ap (λ (m : ℕ). step_over z hash blank slot (p i) (get_or (ts ∷ tss) m [])) first))
      (steps-at p (suc i) n tss (omega arith) ∙ map-up _ _ (suc i) n (λ k a b. ap (step_over z hash blank slot (p k)) (later ts tss i k a)))

  module _ (plan : List Placing) (h : Held) (words : List ℕ) (row : ℕ → Bool) (tss : List (List ℕ)) (own : Words (z.a + z.b) row tss words) (ranged : (k : ℕ) → Ranged (z.a + z.b) (get_or tss k [])) where
    -- a flag tells what the step's places are
    flag_is : (k p : ℕ) → k < length tss → p < z.a + z.b → flagged words k p ≡ (ranged k).0 p
    flag_is k p few h =
        ap (λ (w : ℕ). eqb (w / 2 / 2 ^ k % 2) 1) (own p h)
        ∙ word_turned row tss k p few
        ∙ ap (memb p) (ranged k).1
        ∙ kept-up (ranged k).0 p (z.a + z.b) h

    low_flags : (k : ℕ) → k < length tss → flagged_from words k 0 z.a ≡ kept (λ q. ltb q z.a) (get_or tss k [])
    low_flags k few =
        minus_none (kept (flagged words k) (up_from 0 z.a))
        ∙ kept_same (flagged words k) (ranged k).0 0 z.a (λ p a b. flag_is k p few (omega arith))
        ∙ sym (ap (kept (λ q. ltb q z.a)) (ranged k).1 ∙ low_part z.a z.b (ranged k).0)

    high_flags : (k : ℕ) → k < length tss → flagged_from words k z.a z.b ≡ map (λ q. q - z.a) (kept (λ q. leb z.a q) (get_or tss k []))
    high_flags k few =
        ap (map (λ q. q - z.a))
        (kept_same (flagged words k) (ranged k).0 z.a z.b (λ p a b. flag_is k p few b)
        ∙ sym (ap (kept (λ q. leb z.a q)) (ranged k).1 ∙ high_part z.a z.b (ranged k).0))

    step-at : (k : ℕ) → k < length tss → shown_step z hash blank slot plan h words k ≡ step_over z hash blank slot (placement_at slot plan h k) (get_or tss k [])
    unfolding shown_step
    step-at k few =
        let p = placement_at slot plan h k in
        ap₂ (λ (pa pb : List ℕ). bucket p.into p.seed (map (values_at z hash blank slot plan h words k) (0 ∷ 1 ∷ 2 ∷ 3 ∷ [])) pa pb) (low_flags k few) (high_flags k few)

    -- the steps that are shown are those of the placements with their turns
    pub steps-shown : length tss ≡ length plan → shown_steps z hash blank slot plan h words ≡ steps_over z hash blank slot (placements_of slot plan h) tss
    steps-shown e =
        map-up (shown_step z hash blank slot plan h words) (λ k. step_over z hash blank slot (placement_at slot plan h k) (get_or tss (k - 0) [])) 0 (length plan)
        (λ k a b. let s : k ≡ k - 0 = omega arith in step-at k (omega arith) ∙ ap (λ (m : ℕ). step_over z hash blank slot (placement_at slot plan h k) (get_or tss m [])) s)
        ∙ sym (steps-at (placement_at slot plan h) 0 (length plan) tss e)
