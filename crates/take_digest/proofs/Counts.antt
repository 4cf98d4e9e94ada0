-- How many overflow entries are used, step by step.
use Rattle.std.proofs.Common.{◌≡◌, ℕ, ◌+◌, ◌<◌, ◌≤◌, Bool, true, false, not, ◌&&◌, ◌||◌, eqb, ltb, ◌≢◌, List, [], ◌∷◌, map, length, get_or, drop, Some, Option, sym, refl, ap, ◌∙◌, subst, arith}
use Rattle.std.proofs.lemmas.List.{at_drop_more}
use Rattle.std.proofs.lemmas.Bool.{ltb-true, lt-ltb, le-ltb, eq-eqb, ne_eqb, and_parts, not-true, both_ways, or_right, or_left, cond-false}
use Rattle.shared.specs.declared.sizes.Sizes.{Sizes}
use Rattle.shared.specs.Lists.{at, memb, apart, all_below}
use Rattle.shared.specs.Notice.{Step, bucket, single}
use Rattle.shared.specs.Table.{entries_used, too_many, overflows, buckets_of}
use Rattle.shared_overflow.specs.Overflow.{one}
use Rattle.shared_table.proofs.SeedWrites.{entries_at}
use Rattle.take_digest.specs.declared.digest.Head.{Head}
use Rattle.take_digest.specs.Heads.{head_bucket, gives, given, overflows_by}
use Rattle.take_digest.specs.Shows.{heads_of}

module _ (z : Sizes) (seed0 : ℕ → ℕ) (hs : List Head) where
  -- what is known before the heads that are left: the seeds so far, which decide with them, and the entries that those use
  pub record Counted (left : List Head) (used : ℕ) : Type 0 where
    pub seed : ℕ → ℕ
    pub decides : overflows_by z seed left ≡ overflows_by z seed0 hs
    pub count : used ≡ entries_used z seed
    pub few : used ≤ z.overflow
    pub same : (k : ℕ) → memb k (map head_bucket left) ≡ true → seed k ≡ seed0 k
    pub once : apart (map head_bucket left) ≡ true
    pub inside : all_below z.buckets (map head_bucket left) ≡ true

  module _ (x : Head) (xs : List Head) (used : ℕ) (c : Counted (x ∷ xs) used) where
    head_low : x.bucket < z.buckets
    head_low = ltb-true x.bucket z.buckets (and_parts (ltb x.bucket z.buckets) (all_below z.buckets (map head_bucket xs)) c.inside).0

    -- the rest decides with the seeds after x
    after : (o : Option ℕ) → x.seed ≡ o → ((gives o && too_many z (given c.seed x.bucket o)) || overflows_by z (given c.seed x.bucket o) xs) ≡ overflows_by z seed0 hs
    after o e = ap (λ (p : Option ℕ). (gives p && too_many z (given c.seed x.bucket p)) || overflows_by z (given c.seed x.bucket p) xs) (sym e) ∙ c.decides

    apart-rest : (memb x.bucket (map head_bucket xs) ≡ false) × (apart (map head_bucket xs) ≡ true)
    apart-rest = let parts = and_parts (not (memb x.bucket (map head_bucket xs))) (apart (map head_bucket xs)) c.once in (not-true _ parts.0, parts.1)

    inside-rest : all_below z.buckets (map head_bucket xs) ≡ true
    inside-rest = (and_parts (ltb x.bucket z.buckets) (all_below z.buckets (map head_bucket xs)) c.inside).1

    same-rest : (k : ℕ) → memb k (map head_bucket xs) ≡ true → c.seed k ≡ seed0 k
    same-rest k m = c.same k (or_right (eqb k x.bucket) (memb k (map head_bucket xs)) m)

    -- a step that gives the seed s
    module _ (s : ℕ) (e : x.seed ≡ Some s) where
      here_same : c.seed x.bucket ≡ seed0 x.bucket
      here_same = c.same x.bucket (or_left (eqb x.bucket x.bucket) (memb x.bucket (map head_bucket xs)) (eq-eqb x.bucket x.bucket refl))

      old-counted : one (ltb 30 (seed0 x.bucket)) ≤ used
      old-counted =
          omega (arith, c.count, entries_at c.seed x.bucket 0 0 z.buckets (omega arith) (omega (arith, head_low)), ap (λ (n : ℕ). one (ltb 30 n)) here_same)

      module _ (r : ℕ) (h : r + one (ltb 30 (seed0 x.bucket)) ≡ used + one (ltb 30 s)) where
        counted : r ≡ entries_used z (at c.seed x.bucket s)
        counted =
            omega (arith, c.count, entries_at c.seed x.bucket s 0 z.buckets (omega arith) (omega (arith, head_low)), ap (λ (n : ℕ). one (ltb 30 n)) here_same)

        counted-over : z.overflow < r → overflows_by z seed0 hs ≡ true
        counted-over l = sym (after (Some s) e) ∙ or_left _ _ (lt-ltb z.overflow (entries_used z (at c.seed x.bucket s)) (omega (arith, counted)))

        counted-next : r ≤ z.overflow → Counted xs r
        counted-next l = record {
          seed = at c.seed x.bucket s;
          decides =
              sym (ap (λ (b : Bool). b || overflows_by z (at c.seed x.bucket s) xs) (le-ltb z.overflow (entries_used z (at c.seed x.bucket s)) (omega (arith, counted))))
              ∙ after (Some s) e;
          count = counted;
          few = l;
          same = λ k m.
              let ne : k ≢ x.bucket = λ q. both_ways (memb k (map head_bucket xs)) (ap (λ (n : ℕ). memb n (map head_bucket xs)) q ∙ apart-rest.0) m in
              cond-false (eqb k x.bucket) s (c.seed k) (ne_eqb k x.bucket ne) ∙ same-rest k m;
          once = apart-rest.1;
          inside = inside-rest;
        }

  -- one turn of a loop over the heads, whose head gives the seed s in place of the seed `old`
  module _ (i used : ℕ) (d : Head) (h : i < length hs) (c : Counted (drop i hs) used) (s : ℕ) (e : (get_or hs i d).seed ≡ Some s)
      (old : ℕ) (was : old ≡ seed0 (get_or hs i d).bucket) where
    here : Counted (get_or hs i d ∷ drop (i + 1) hs) used
    here = subst (λ (l : List Head). Counted l used) (at_drop_more (λ (l : List Head). l) hs i d h) c

    same-old : one (ltb 30 old) ≡ one (ltb 30 (seed0 (get_or hs i d).bucket))
    same-old = ap (λ (n : ℕ). one (ltb 30 n)) was

    pub turn_some : one (ltb 30 old) ≤ used
    turn_some = omega (arith, same-old, old-counted (get_or hs i d) (drop (i + 1) hs) used here s e)

    module _ (r : ℕ) (step : r + one (ltb 30 old) ≡ used + one (ltb 30 s)) where
      pub turn_over : z.overflow < r → overflows_by z seed0 hs ≡ true
      turn_over = counted-over (get_or hs i d) (drop (i + 1) hs) used here s e r (omega (arith, same-old))

      pub turn_next : r ≤ z.overflow → Counted (drop (i + 1) hs) r
      turn_next = counted-next (get_or hs i d) (drop (i + 1) hs) used here s e r (omega (arith, same-old))

-- the heads of steps decide as the steps do
pub heads_overflow : (z : Sizes) (seed : ℕ → ℕ) (ss : List Step) → overflows_by z seed (heads_of ss) ≡ overflows z seed ss
heads_overflow z seed [] = refl
heads_overflow z seed (bucket j s vs pa pb ∷ ss) = ap (λ (b : Bool). too_many z (at seed j s) || b) (heads_overflow z (at seed j s) ss)
heads_overflow z seed (single j i v ∷ ss) = heads_overflow z seed ss

pub heads_buckets : (ss : List Step) → map head_bucket (heads_of ss) ≡ buckets_of ss
heads_buckets [] = refl
heads_buckets (bucket j s vs pa pb ∷ ss) = ap (λ (l : List ℕ). j ∷ l) (heads_buckets ss)
heads_buckets (single j i v ∷ ss) = ap (λ (l : List ℕ). j ∷ l) (heads_buckets ss)
