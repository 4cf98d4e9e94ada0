-- One entry written over.
use Rattle.std.proofs.Common.{◌≡◌, ℕ, suc, ◌+◌, ◌<◌, ◌≤◌, Bool, true, false, cond, not, eqb, ltb, ◌≢◌, ◌⊎◌, List, [], ◌∷◌, length, get_or, set, Some, None, sym, refl, ap, ◌∙◌, inl, inr, arith}
use Rattle.std.specs.List.{count_by, find, position, position_or_len}
use Rattle.std.specs.Option.{option_map_or}
use Rattle.std.proofs.lemmas.List.{get_or-set_same, get_or-set_other, length-set}
use Rattle.std.proofs.lemmas.List.Folds.{find_past}
use Rattle.std.proofs.lemmas.List.Recursion.{found_at}
use Rattle.std.proofs.lemmas.List.Sums.{sum_by-cons, sum_by-set, passes_at_first, fails_before_first}
use Rattle.std.proofs.lemmas.Bool.{eq-eqb, ne_eqb, eqb-true, and_parts, and_left, and_right, ltb-true, ltb-false}
use Rattle.shared_overflow.specs.declared.Entry.{Entry}
use Rattle.shared_overflow.specs.Overflow.{mine, one, times, used_in, Put, Freed}

-- the first place that passes a test, and a test that none passes
pub placed : (p : Entry → Bool) (es : List Entry) (d : Entry) (i : ℕ) → position p es ≡ Some i
    → (i ≡ position_or_len p es) × (i < length es) × (p (get_or es i d) ≡ true)
placed p es d i e = go (ltb (position_or_len p es) (length es)) refl e
  where
    at : (k : ℕ) → k ≡ position_or_len p es → k < length es → (k ≡ position_or_len p es) × (k < length es) × (p (get_or es k d) ≡ true)
    at k q l = (q, l, ap (λ (n : ℕ). p (get_or es n d)) q ∙ passes_at_first p es d (omega arith))

    go : (b : Bool) → ltb (position_or_len p es) (length es) ≡ b → cond b (Some (position_or_len p es)) None ≡ Some i
        → (i ≡ position_or_len p es) × (i < length es) × (p (get_or es i d) ≡ true)
    go true t q = let k : i ≡ position_or_len p es = cc in at i k (omega (arith, ltb-true _ _ t))
    go false t q = absurd (cc)

pub unplaced : (p : Entry → Bool) (es : List Entry) → position p es ≡ None → length es ≤ position_or_len p es
unplaced p es e = go (ltb (position_or_len p es) (length es)) refl e
  where
    go : (b : Bool) → ltb (position_or_len p es) (length es) ≡ b → cond b (Some (position_or_len p es)) None ≡ None → length es ≤ position_or_len p es
    go true t q = absurd (cc)
    go false t q = ltb-false _ _ t

pub none_pass : (p : Entry → Bool) (es : List Entry) → length es ≤ position_or_len p es → count_by p es ≡ 0
none_pass p [] h = refl
none_pass p (e ∷ es) h = sum_by-cons (λ x. one (p x)) e es ∙ go (none_pass p es) (p e) h
  where
    go : (length es ≤ position_or_len p es → count_by p es ≡ 0) → (b : Bool) → suc (length es) ≤ cond (not b) (1 + position_or_len p es) 0 → one b + count_by p es ≡ 0
    go ih true l = absurd (omega arith)
    go ih false l = omega (arith, ih (omega arith))

-- all are used where none is unused
pub all_used : (es : List Entry) → count_by (λ e. not e.used) es ≡ 0 → used_in es ≡ length es
all_used [] h = refl
all_used (e ∷ es) h = sum_by-cons (λ x. one x.used) e es ∙ go (all_used es) e.used (sym (sum_by-cons (λ x. one (not x.used)) e es) ∙ h)
  where
    go : (count_by (λ e. not e.used) es ≡ 0 → used_in es ≡ length es) → (b : Bool) → one (not b) + count_by (λ e. not e.used) es ≡ 0 → one b + used_in es ≡ suc (length es)
    go ih true l = omega (arith, ih (omega arith))
    go ih false l = absurd (omega arith)

mine-used : (j : ℕ) (e : Entry) → mine j e ≡ true → e.used ≡ true
mine-used j e h = (and_parts e.used (eqb e.bucket j) h).0

mine-other : (j k : ℕ) (e : Entry) → mine j e ≡ true → k ≢ j → mine k e ≡ false
mine-other j k e h ne =
    let b : e.bucket ≡ j = eqb-true e.bucket j (and_parts e.used (eqb e.bucket j) h).1 in
    and_right e.used (eqb e.bucket k) (ne_eqb e.bucket k (λ q. ne (sym q ∙ b)))

pub unused-mine : (k : ℕ) (e : Entry) → e.used ≡ false → mine k e ≡ false
unused-mine k e h = and_left e.used (eqb e.bucket k) h

-- the entry x written at place i, over the entry `old`
module _ (es : List Entry) (i : ℕ) (x d : Entry) (h : i < length es) where
  abbrev old : Entry
  old = get_or es i d

  times-set : (k : ℕ) → times (set es i x) k + one (mine k old) ≡ times es k + one (mine k x)
  times-set k = sum_by-set (λ e. one (mine k e)) es i x d h

  used_set : used_in (set es i x) + one old.used ≡ used_in es + one x.used
  used_set = sum_by-set (λ e. one e.used) es i x d h

  -- a bucket that neither of them is for
  seed_other : (k : ℕ) → mine k old ≡ false → mine k x ≡ false
      → option_map_or (λ (e : Entry). e.seed) (find (mine k) (set es i x)) 0 ≡ option_map_or (λ (e : Entry). e.seed) (find (mine k) es) 0
  seed_other k o n = ap (λ o. option_map_or (λ (e : Entry). e.seed) o 0) (find_past (mine k) es i x d o n)

  -- a bucket that x is for, and no entry before it
  found_there : (j : ℕ) → i ≤ position_or_len (mine j) es → mine j x ≡ true → find (mine j) (set es i x) ≡ Some x
  found_there j first m =
      let same : get_or (set es i x) i d ≡ x = get_or-set_same es i x d h in
      found_at (find (mine j)) (mine j) Some None refl (λ _ _. refl) (set es i x) i d (omega (arith, length-set es i x))
      (λ k l. ap (mine j) (get_or-set_other es i k x d (λ q. omega arith)) ∙ fails_before_first (mine j) es k d (omega arith))
      (ap (mine j) same ∙ m)
      ∙ ap Some same

  -- put over the bucket's own entry, or over an unused one where the bucket has none
  pub put-at : (j s : ℕ) → x ≡ record { bucket = j; seed = s; used = true } → i ≤ position_or_len (mine j) es
      → times es j ≡ one (mine j old) → (mine j old ≡ true) ⊎ (old.used ≡ false) → Put es (set es i x) j s
  put-at j s e first t way =
      let is : mine j x ≡ true = ap (λ (y : Entry). mine j y) e ∙ eq-eqb j j refl in
      let not-old : (k : ℕ) → k ≢ j → mine k old ≡ false = λ k ne. elim way [ inl m ↦ mine-other j k old m ne | inr u ↦ unused-mine k old u ] in
      let not_new : (k : ℕ) → k ≢ j → mine k x ≡ false = λ k ne. mine-other j k x is ne in
      let was : one old.used ≡ one (mine j old) = elim way [ inl m ↦ ap one (mine-used j old m ∙ sym m) | inr u ↦ ap one (u ∙ sym (unused-mine j old u)) ] in
      record {
        seed = ap (λ o. option_map_or (λ (e : Entry). e.seed) o 0) (found_there j first is) ∙ ap (λ (y : Entry). y.seed) e;
        once = omega (arith, times-set j, ap one is);
        seeds = λ k ne. seed_other k (not-old k ne) (not_new k ne);
        others = λ k ne. omega (arith, times-set k, ap one (not-old k ne), ap one (not_new k ne));
        count = omega (arith, used_set, ap one (mine-used j x is));
        long = length-set es i x;
      }

  -- emptied, where it was the bucket's own
  pub free_at : (j : ℕ) → x.used ≡ false → times es j ≤ 1 → mine j old ≡ true → Freed es (set es i x) j
  free_at j u t m =
      let new : (k : ℕ) → mine k x ≡ false = λ k. unused-mine k x u in
      record {
        none = omega (arith, times-set j, ap one m, ap one (new j));
        seeds = λ k ne. seed_other k (mine-other j k old m ne) (new k);
        others = λ k ne. omega (arith, times-set k, ap one (mine-other j k old m ne), ap one (new k));
        count = omega (arith, used_set, times-set j, ap one m, ap one (new j), ap one (mine-used j old m), ap one u);
        long = length-set es i x;
      }

pub free_none : (es : List Entry) (j : ℕ) → times es j ≡ 0 → Freed es es j
free_none es j t = record { none = t; seeds = λ k ne. refl; others = λ k ne. refl; count = omega arith; long = refl }
