-- The overflow entries that are used after each step.
use Rattle.std.proofs.Common.{◌≡◌, ℕ, ◌≤◌, true, false, ◌⊎◌, List, [], ◌∷◌, ◌++◌, sym, refl, ap, ◌∙◌, subst, inl, inr, zero-add, arith}
use Rattle.std.proofs.lemmas.Bool.{both_ways, or_cases, or_parts, ltb-true, ltb-false}
use Rattle.shared.specs.declared.sizes.Sizes.{Sizes}
use Rattle.shared.specs.Lists.{up_from, at}
use Rattle.shared.specs.Notice.{Setting, Step}
use Rattle.shared.specs.Notice.Step.{bucket, single}
use Rattle.shared.specs.Table.{Table, entries, entries_used, too_many, overflows, applied, applied_all}
use Rattle.history.specs.Acceptance.{seeds_after, Overfull}
use Rattle.chain_laws.proofs.Tools.{same_head, same_tail, no_cons}

-- the table's seeds after some steps
pub applied-seeds : (z : Sizes) (blank : Setting) (t : Table) (ss : List Step) → (applied_all z blank t ss).seed ≡ seeds_after t.seed ss
applied-seeds z blank t [] = refl
applied-seeds z blank t (bucket j s vs pa pb ∷ ss) = applied-seeds z blank (applied z blank t (bucket j s vs pa pb)) ss
applied-seeds z blank t (single j i v ∷ ss) = applied-seeds z blank (applied z blank t (single j i v)) ss

-- a table just opened uses none
no_entries : (js : List ℕ) → entries (λ j. 0) js ≡ 0
no_entries [] = refl
no_entries (j ∷ js) = zero-add (entries (λ j. 0) js) ∙ no_entries js

pub fresh_entries : (z : Sizes) → entries_used z (λ j. 0) ≤ z.overflow
fresh_entries z = let e = no_entries (up_from 0 z.buckets) in omega arith

module _ (z : Sizes) where
  pub over-found : (seed : ℕ → ℕ) (ss : List Step) → overflows z seed ss ≡ true → Overfull z seed ss
  over-found seed [] e = absurd (both_ways false refl e)
  over-found seed (bucket j s vs pa pb ∷ ss) e = go (over-found (at seed j s) ss) (or_cases (too_many z (at seed j s)) (overflows z (at seed j s) ss) e)
    where
      go : (overflows z (at seed j s) ss ≡ true → Overfull z (at seed j s) ss) → (too_many z (at seed j s) ≡ true) ⊎ (overflows z (at seed j s) ss ≡ true) → Overfull z seed (bucket j s vs pa pb ∷ ss)
      go ih (inl q) = (bucket j s vs pa pb ∷ [], ss, refl, ltb-true z.overflow (entries_used z (at seed j s)) q)
      go ih (inr q) = let r = ih q in (bucket j s vs pa pb ∷ r.0, r.1, ap (λ (l : List Step). bucket j s vs pa pb ∷ l) r.2, r.3)
  over-found seed (single j i v ∷ ss) e =
      let r = over-found seed ss e in
      (single j i v ∷ r.0, r.1, ap (λ (l : List Step). single j i v ∷ l) r.2, r.3)

  -- within the entries before and after each step
  pub room_after : (seed : ℕ → ℕ) (ss : List Step) → entries_used z seed ≤ z.overflow → overflows z seed ss ≡ false → (xs ys : List Step) → xs ++ ys ≡ ss → entries_used z (seeds_after seed xs) ≤ z.overflow
  room_after seed ss h e [] ys q = h
  room_after seed [] h e (x ∷ xs) ys q = absurd (no_cons q)
  room_after seed (bucket j s vs pa pb ∷ ss) h e (x ∷ xs) ys q =
      let p = or_parts (too_many z (at seed j s)) (overflows z (at seed j s) ss) e in
      subst (λ (y : Step). entries_used z (seeds_after seed (y ∷ xs)) ≤ z.overflow) (sym (same_head q))
      (room_after (at seed j s) ss (ltb-false z.overflow (entries_used z (at seed j s)) p.0) p.1 xs ys (same_tail q))
  room_after seed (single j i v ∷ ss) h e (x ∷ xs) ys q =
      subst (λ (y : Step). entries_used z (seeds_after seed (y ∷ xs)) ≤ z.overflow) (sym (same_head q)) (room_after seed ss h e xs ys (same_tail q))
