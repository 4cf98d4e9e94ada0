-- A plan with one step more.
use Rattle.std.proofs.Common.{◌≡◌, ℕ, ◌+◌, ◌<◌, eqb, ◌⊎◌, List, [], ◌∷◌, ◌++◌, map, length, sym, refl, ap, ◌∙◌, subst, ap₂, inl, inr, arith, length-append}
use mathlib.Core.Option.{some}
use Rattle.std.proofs.Math.ListN.{get_or-append}
use Rattle.std.proofs.Math.Seq.{get_or-append_seam}
use Rattle.std.proofs.lemmas.Bool.{cases_eq, eq-eqb, ne_eqb, cond-true, cond-false}
use Rattle.shared.specs.declared.sizes.Sizes.{Sizes}
use Rattle.shared.specs.Book.{Held, Slot}
use Rattle.shared.specs.Lists.{up_from}
use Rattle.chain_laws.specs.Plans.{Placement, placement}
use Rattle.chain_laws.proofs.Ranges.{map-up, map_last}
use Rattle.book_steps.specs.declared.plan.Placing.{Placing}
use Rattle.book_steps.specs.Plans.{Fit, placing_at, held_or, held_at, placement_at, placements_of}
use Rattle.book_plan.specs.Makes.{placing, Whole, Made}

-- a step for a bucket and a slot that exist
abbrev Inside : Sizes → Placing → Type 0
Inside z p = (p.bucket < z.buckets) × (p.spot < 4)

module _ (slot : ℕ → ℕ → Slot) (ps : List Placing) (j i s : ℕ) where
  abbrev longer : List Placing
  longer = ps ++ (placing j i s ∷ [])

  length-longer : length longer ≡ length ps + 1
  length-longer = length-append ps (placing j i s ∷ [])

  at-last : (k : ℕ) → k ≡ length ps → placing_at longer k ≡ placing j i s
  at-last k e = ap (placing_at longer) e ∙ get_or-append_seam ps (placing j i s) [] _

  at-earlier : (k : ℕ) → k < length ps → placing_at longer k ≡ placing_at ps k
  at-earlier k l = get_or-append ps (placing j i s ∷ []) _ k l

  module _ (h g : Held) (e : slot j i ≡ some g) (w : Whole slot ps) where
    -- an earlier step stays, where the part g that it brings is the one in the new step's slot
    held_stays : (k : ℕ) → k < length ps → held_at slot longer h k ≡ held_at slot ps g k
    held_stays k l =
        cond-false (eqb (k + 1) (length longer)) h _ (ne_eqb (k + 1) (length longer) (λ x. omega (arith, length-longer)))
        ∙ go (cases_eq (k + 1) (length ps))
      where
        go : (k + 1 ≡ length ps) ⊎ (k + 1 ≡ length ps → ⊥) → held_or h (slot (placing_at longer (k + 1)).bucket (placing_at longer (k + 1)).spot) ≡ held_at slot ps g k
        go (inl x) =
            ap (λ (p : Placing). held_or h (slot p.bucket p.spot)) (at-last (k + 1) x)
            ∙ ap (held_or h) e
            ∙ sym (cond-true (eqb (k + 1) (length ps)) g _ (eq-eqb (k + 1) (length ps) x))
        go (inr n) =
            let next = w k (omega arith) in
            ap (λ (p : Placing). held_or h (slot p.bucket p.spot)) (at-earlier (k + 1) (omega arith))
            ∙ ap (held_or h) next.1
            ∙ sym (cond-false (eqb (k + 1) (length ps)) g _ (ne_eqb (k + 1) (length ps) n) ∙ ap (held_or g) next.1)

    kept_at : (k : ℕ) → k < length ps → placement_at slot longer h k ≡ placement_at slot ps g k
    kept_at k l = ap₂ (λ (p : Placing) (x : Held). placement p.bucket p.spot x p.seed) (at-earlier k l) (held_stays k l)

    last_at : placement_at slot longer h (length ps) ≡ placement j i h s
    last_at =
        ap₂ (λ (p : Placing) (x : Held). placement p.bucket p.spot x p.seed) (at-last (length ps) refl)
        (cond-true (eqb (length ps + 1) (length longer)) h _ (eq-eqb (length ps + 1) (length longer) (sym length-longer)))

    pub placements_more : placements_of slot longer h ≡ placements_of slot ps g ++ (placement j i h s ∷ [])
    placements_more =
        let f = placement_at slot longer h in
        ap (λ (n : ℕ). map f (up_from 0 n)) length-longer
        ∙ map_last f (length ps)
        ∙ ap₂ (λ (l : List Placement) (x : Placement). l ++ (x ∷ [])) (map-up f (placement_at slot ps g) 0 (length ps) (λ k a b. kept_at k (omega arith))) last_at

    whole-longer : Whole slot longer
    whole-longer k l = go (cases_eq (k + 1) (length ps))
      where
        go : (k + 1 ≡ length ps) ⊎ (k + 1 ≡ length ps → ⊥) → (q : Held) × (slot (placing_at longer (k + 1)).bucket (placing_at longer (k + 1)).spot ≡ some q)
        go (inl x) = (g, ap (λ (p : Placing). slot p.bucket p.spot) (at-last (k + 1) x) ∙ e)
        go (inr n) = let next = w k (omega (arith, length-longer)) in (next.0, ap (λ (p : Placing). slot p.bucket p.spot) (at-earlier (k + 1) (omega (arith, length-longer))) ∙ next.1)

  fit-longer : (z : Sizes) → length ps < 5 → j < z.buckets → i < 4 → ((k : ℕ) → k < length ps → Inside z (placing_at ps k)) → Fit z longer
  fit-longer z few lj li before = record {
    some = omega (arith, length-longer);
    few = omega (arith, length-longer);
    into = λ k l. (each k l (cases_eq k (length ps))).0;
    spot = λ k l. (each k l (cases_eq k (length ps))).1;
  }
    where
      each : (k : ℕ) → k < length longer → (k ≡ length ps) ⊎ (k ≡ length ps → ⊥) → Inside z (placing_at longer k)
      each k l (inl e) = subst (Inside z) (sym (at-last k e)) (lj, li)
      each k l (inr n) = let b : k < length ps = omega (arith, length-longer) in subst (Inside z) (sym (at-earlier k b)) (before k b)

  pub made_more : (z : Sizes) (m : ℕ) (g : Held) → slot j i ≡ some g → m < 4 → j < z.buckets → i < 4 → Made z slot m ps → Made z slot (m + 1) longer
  made_more z m g e few lj li made = record {
    fit = fit-longer z (omega (arith, made.moves)) lj li (λ k l. (made.fit.into k l, made.fit.spot k l));
    whole = whole-longer g g e made.whole;
    moves = omega (arith, length-longer, made.moves);
  }

pub made_one : (slot : ℕ → ℕ → Slot) (z : Sizes) (j i s : ℕ) → j < z.buckets → i < 4 → Made z slot 0 (placing j i s ∷ [])
made_one slot z j i s lj li = record {
  fit = fit-longer slot [] j i s z (omega arith) lj li (λ k l. absurd (omega arith));
  whole = λ k l. absurd (omega arith);
  moves = refl;
}
