-- Cleared memory shows the fresh table.
use Rattle.std.proofs.Common.{◌≡◌, ℕ, zero, suc, ◌+◌, ◌-◌, ◌*◌, Bool, true, false, cond, eqb, ltb, List, ◌∷◌, map, length, get_or, replicate, sym, refl, ap, ◌∙◌, ap₂, inl, inr, arith}
use Rattle.std.proofs.lemmas.List.{get_or-replicate, get_or_past, length-replicate}
use Rattle.std.proofs.lemmas.List.Folds.{sum_by-replicate}
use Rattle.std.proofs.lemmas.Bool.{cases_lt, cond-false}
use Rattle.shared.specs.declared.sizes.Sizes.{Sizes}
use Rattle.shared.specs.Lists.{up_from}
use Rattle.shared.specs.Notice.{Setting}
use Rattle.shared.specs.Table.{entries, fresh_table}
use Rattle.shared_bits.specs.Bits.{field_of}
use Rattle.shared_bits.proofs.Apart.{lit-clear, field_clear}
use Rattle.shared_overflow.specs.declared.Entry.{Entry}
use Rattle.shared_overflow.specs.Overflow.{mine, one, times, used_in, unused}
use Rattle.shared_table.specs.Laws.{ClearedFresh}
use Rattle.shared_table.specs.Memory.{Memory, view, cleared, seed_of, Sound}
use Rattle.shared_table.proofs.Views.{same_table}

map-replicate : {S : Type 0} (numbers : S → List ℕ) (n : ℕ) (v : S) → map numbers (replicate n v) ≡ replicate n (numbers v)
map-replicate numbers zero v = refl
map-replicate numbers (suc n) v = ap (λ (l : List (List ℕ)). numbers v ∷ l) (map-replicate numbers n v)

-- the same everywhere, and so past the end
everywhere : {A : Type 0} (n i : ℕ) (v d : A) → v ≡ d → get_or (replicate n v) i d ≡ d
everywhere n i v d e =
    elim (cases_lt i n) [ inl l ↦ get_or-replicate n i v d l ∙ e | inr l ↦ get_or_past (replicate n v) i d (omega (arith, length-replicate n v)) ]

cond_same : {A : Type 0} (b : Bool) (x : A) → cond b x x ≡ x
cond_same true x = refl
cond_same false x = refl

times_none : (n k : ℕ) → times (replicate n unused) k ≡ 0
times_none n k = omega (arith, sum_by-replicate (λ (e : Entry). one (mine k e)) n unused)

used_none : (n : ℕ) → used_in (replicate n unused) ≡ 0
used_none n = omega (arith, sum_by-replicate (λ (e : Entry). one e.used) n unused)

seed_none : (l w k : ℕ) → seed_of (replicate l 0) (replicate w unused) k ≡ 0
seed_none l w k = cond-false (eqb (field_of (replicate l 0) k) 31) _ _ (ap (λ (f : ℕ). eqb f 31) (field_clear l k)) ∙ field_clear l k

entries_none : (f : ℕ → ℕ) (i n : ℕ) → ((k : ℕ) → f k ≡ 0) → entries f (up_from i n) ≡ 0
entries_none f i zero h = refl
entries_none f i (suc n) h = omega (arith, ap (λ (s : ℕ). one (ltb 30 s)) (h i), entries_none f (suc i) n h)

pub fresh_shown : {S : Type 0} (numbers : S → List ℕ) (blank : Setting) (z : Sizes) (m : Memory S) (v : S) → numbers v ≡ blank
    → view numbers blank z (cleared v m) ≡ fresh_table blank
fresh_shown numbers blank z m v e =
    same_table _ _
    (λ j i. ap (λ (x : Setting). cond (ltb i 4) x blank)
    (ap (λ (l : List Setting). get_or l (4 * j + i) blank) (map-replicate numbers (length m.settings) v)
    ∙ everywhere (length m.settings) (4 * j + i) (numbers v) blank e)
    ∙ cond_same (ltb i 4) blank)
    (λ p. ap₂ (λ (x y : Bool). cond (ltb p z.a) x y) (lit-clear (length m.rowa) p) (lit-clear (length m.rowb) (p - z.a)) ∙ cond_same (ltb p z.a) false)
    (seed_none (length m.seeds) (length m.over)) refl

pub fresh_sound : (n l w : ℕ) → Sound n (replicate l 0) (replicate w unused)
fresh_sound n l w = record {
  matched = record {
    entry = λ k. times_none w k ∙ sym (ap (λ (f : ℕ). one (eqb f 31)) (field_clear l k));
    high = λ k e. absurd (omega (arith, field_clear l k));
  };
  count = used_none w ∙ sym (entries_none (seed_of (replicate l 0) (replicate w unused)) 0 n (seed_none l w));
}

pub cleared-fresh : {S : Type 0} (numbers : S → List ℕ) (blank : Setting) → ClearedFresh numbers blank
cleared-fresh numbers blank z m v e = (fresh_shown numbers blank z m v e, fresh_sound z.buckets (length m.seeds) (length m.over))
