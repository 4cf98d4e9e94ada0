-- One bucket's seed is written.
use Rattle.std.proofs.Common.{◌≡◌, ℕ, zero, suc, ◌+◌, ◌<◌, ◌≤◌, Bool, true, false, cond, eqb, ltb, ◌≢◌, List, length, sym, refl, ap, ◌∙◌, subst, ap₂, inl, inr, arith}
use mathlib.Core.Path.{fun_ext}
use Rattle.std.proofs.lemmas.Bool.{cases_lt, cases_eq, eq-eqb, ne_eqb, lt-ltb, le-ltb, ltb-false, cond-true, cond-false}
use Rattle.shared.specs.Lists.{at, up_from}
use Rattle.shared.specs.Table.{entries}
use Rattle.shared_bits.specs.Bits.{field_of, Written, put_field}
use Rattle.shared_bits.proofs.Apart.{field_low, field_other}
use Rattle.shared_overflow.specs.declared.Entry.{Entry}
use Rattle.shared_overflow.specs.Overflow.{one, seed_in, times, used_in, Put, Freed}
use Rattle.shared_table.specs.Memory.{seed_of, Matched, Sound, SeedSet}

at_same : {A : Type 0} (f : ℕ → A) (j : ℕ) (x : A) → at f j x j ≡ x
at_same f j x = cond-true (eqb j j) x (f j) (eq-eqb j j refl)

at_other : {A : Type 0} (f : ℕ → A) (j : ℕ) (x : A) (k : ℕ) → k ≢ j → at f j x k ≡ f k
at_other f j x k ne = cond-false (eqb k j) x (f k) (ne_eqb k j ne)

few : (b : Bool) → one b ≤ 1
few true = omega arith
few false = omega arith

module _ (seeds : List ℕ) (over : List Entry) (m : Matched seeds over) where
  -- a bucket has an entry just where its seed is over 30
  entry_high : (k : ℕ) → one (ltb 30 (seed_of seeds over k)) ≡ times over k
  entry_high k =
      elim (cases_eq (field_of seeds k) 31) [
        | inl e ↦
            let t : eqb (field_of seeds k) 31 ≡ true = eq-eqb (field_of seeds k) 31 e in
            ap (λ (s : ℕ). one (ltb 30 s)) (cond-true (eqb (field_of seeds k) 31) _ _ t)
            ∙ ap one (lt-ltb 30 (seed_in over k) (m.high k e)) ∙ sym (m.entry k ∙ ap one t)
        | inr d ↦
            let t : eqb (field_of seeds k) 31 ≡ false = ne_eqb (field_of seeds k) 31 d in
            let low : field_of seeds k ≤ 30 = elim (cases_lt 30 (field_of seeds k)) [ inl l ↦ absurd (d (omega (arith, field_low seeds k))) | inr l ↦ l ] in
            ap (λ (s : ℕ). one (ltb 30 s)) (cond-false (eqb (field_of seeds k) 31) _ _ t)
            ∙ ap one (le-ltb 30 (field_of seeds k) low) ∙ sym (m.entry k ∙ ap one t)
      ]

  -- one entry at most
  pub at_most : (k : ℕ) → times over k ≤ 1
  at_most k = omega (arith, m.entry k, few (eqb (field_of seeds k) 31))

  pub room_for : (k s : ℕ) → 31 ≤ s → (30 < s → seed_of seeds over k ≤ 30 → used_in over < length over) → times over k ≡ 0 → used_in over < length over
  room_for k s h r e =
      elim (cases_lt 30 (seed_of seeds over k)) [
        | inl l ↦ absurd (omega (arith, entry_high k, ap one (lt-ltb 30 (seed_of seeds over k) l)))
        | inr l ↦ r (omega arith) l
      ]

  -- A field and the entries are written: what they now say of bucket j suffices.
  module _ (seeds_after : List ℕ) (over_after : List Entry) (j v s : ℕ) (is : seeds_after ≡ put_field seeds j (cond (ltb s 31) s 31)) (w : Written seeds seeds_after j v)
      (seeds-same : (k : ℕ) → k ≢ j → seed_in over_after k ≡ seed_in over k) (times-same : (k : ℕ) → k ≢ j → times over_after k ≡ times over k)
      (long : length over_after ≡ length over) (count : used_in over_after + times over j ≡ used_in over + one (ltb 30 s)) where
    all : (P : ℕ → Type 0) → P j → ((k : ℕ) → k ≢ j → P k) → (k : ℕ) → P k
    all P here there k = elim (cases_eq k j) [ inl e ↦ subst P (sym e) here | inr d ↦ there k d ]

    same_field : (k : ℕ) → k ≢ j → field_of seeds_after k ≡ field_of seeds k
    same_field k ne = field_other seeds seeds_after j v k w ne

    set-by : seed_of seeds_after over_after j ≡ s → times over_after j ≡ one (eqb (field_of seeds_after j) 31) → (field_of seeds_after j ≡ 31 → 30 < seed_in over_after j)
        → SeedSet seeds over seeds_after over_after j s
    set-by seed entry high = record {
      bytes = is;
      seed = fun_ext (all (λ k. seed_of seeds_after over_after k ≡ at (seed_of seeds over) j s k)
          (seed ∙ sym (at_same (seed_of seeds over) j s))
          (λ k ne. ap₂ (λ (f x : ℕ). cond (eqb f 31) x f) (same_field k ne) (seeds-same k ne) ∙ sym (at_other (seed_of seeds over) j s k ne)));
      matched = record {
        entry = all (λ k. times over_after k ≡ one (eqb (field_of seeds_after k) 31)) entry
            (λ k ne. times-same k ne ∙ m.entry k ∙ ap (λ (f : ℕ). one (eqb f 31)) (sym (same_field k ne)));
        high = all (λ k. field_of seeds_after k ≡ 31 → 30 < seed_in over_after k) high
            (λ k ne e. omega (arith, m.high k (sym (same_field k ne) ∙ e), seeds-same k ne));
      };
      count = omega (arith, entry_high j, count);
      long = long;
    }

  pub set-low : (seeds_after : List ℕ) (over_after : List Entry) (j s : ℕ) → s < 31 → seeds_after ≡ put_field seeds j s → Written seeds seeds_after j s → Freed over over_after j
      → SeedSet seeds over seeds_after over_after j s
  set-low seeds_after over_after j s h is w f =
      let no : eqb (field_of seeds_after j) 31 ≡ false = ne_eqb (field_of seeds_after j) 31 (λ e. omega (arith, w.field)) in
      set-by seeds_after over_after j s s (is ∙ ap (put_field seeds j) (sym (cond-true (ltb s 31) s 31 (lt-ltb s 31 h)))) w f.seeds f.others f.long
      (omega (arith, f.count, ap one (le-ltb 30 s (omega arith))))
      (cond-false (eqb (field_of seeds_after j) 31) _ _ no ∙ w.field) (f.none ∙ sym (ap one no)) (λ e. absurd (omega (arith, w.field)))

  pub set-high : (seeds_after : List ℕ) (over_after : List Entry) (j s : ℕ) → 31 ≤ s → seeds_after ≡ put_field seeds j 31 → Written seeds seeds_after j 31 → Put over over_after j s
      → SeedSet seeds over seeds_after over_after j s
  set-high seeds_after over_after j s h is w f =
      let yes : eqb (field_of seeds_after j) 31 ≡ true = eq-eqb (field_of seeds_after j) 31 w.field in
      set-by seeds_after over_after j 31 s (is ∙ ap (put_field seeds j) (sym (cond-false (ltb s 31) s 31 (le-ltb s 31 h)))) w f.seeds f.others f.long
      (omega (arith, f.count, ap one (lt-ltb 30 s (omega arith))))
      (cond-true (eqb (field_of seeds_after j) 31) _ _ yes ∙ f.seed) (f.once ∙ sym (ap one yes)) (λ e. omega (arith, f.seed))

-- how many seeds are over 30, after one is set
entries-outside : (f : ℕ → ℕ) (j s i n : ℕ) → j < i → entries (at f j s) (up_from i n) ≡ entries f (up_from i n)
entries-outside f j s i zero h = refl
entries-outside f j s i (suc n) h =
    ap₂ (λ (x y : ℕ). one (ltb 30 x) + y) (at_other f j s i (λ e. omega arith)) (entries-outside f j s (suc i) n (omega arith))

pub entries_at : (f : ℕ → ℕ) (j s i n : ℕ) → i ≤ j → j < i + n
    → entries (at f j s) (up_from i n) + one (ltb 30 (f j)) ≡ entries f (up_from i n) + one (ltb 30 s)
entries_at f j s i zero l h = absurd (omega arith)
entries_at f j s i (suc n) l h =
    elim (cases_eq i j) [
      | inl e ↦
          let here : one (ltb 30 (at f j s i)) ≡ one (ltb 30 s) = ap (λ (k : ℕ). one (ltb 30 (at f j s k))) e ∙ ap (λ (x : ℕ). one (ltb 30 x)) (at_same f j s) in
          let old : one (ltb 30 (f i)) ≡ one (ltb 30 (f j)) = ap (λ (k : ℕ). one (ltb 30 (f k))) e in
          omega (arith, here, old, entries-outside f j s (suc i) n (omega arith))
      | inr d ↦
          let here : one (ltb 30 (at f j s i)) ≡ one (ltb 30 (f i)) = ap (λ (x : ℕ). one (ltb 30 x)) (at_other f j s i d) in
          let more : i < j = elim (cases_lt i j) [ inl m ↦ m | inr m ↦ absurd (d (omega arith)) ] in
          omega (arith, here, entries_at f j s (suc i) n (omega arith) (omega arith))
    ]

pub sound_after : (n : ℕ) (seeds : List ℕ) (over : List Entry) (seeds_after : List ℕ) (over_after : List Entry) (j s : ℕ) → j < n
    → Sound n seeds over → SeedSet seeds over seeds_after over_after j s → Sound n seeds_after over_after
sound_after n seeds over seeds_after over_after j s h sound done =
    let same : entries (seed_of seeds_after over_after) (up_from 0 n) ≡ entries (at (seed_of seeds over) j s) (up_from 0 n) = ap (λ (f : ℕ → ℕ). entries f (up_from 0 n)) done.seed in
    record {
      matched = done.matched;
      count = omega (arith, done.count, sound.count, same, entries_at (seed_of seeds over) j s 0 n (omega arith) (omega arith));
    }

-- a seed after which the entries still fit finds room for its own
pub room-left : (n w : ℕ) (seeds : List ℕ) (over : List Entry) (j s : ℕ) → j < n → Sound n seeds over → length over ≡ w
    → ltb w (entries (at (seed_of seeds over) j s) (up_from 0 n)) ≡ false → 30 < s → seed_of seeds over j ≤ 30 → used_in over < length over
room-left n w seeds over j s h sound long fit hs low =
    omega (
      arith,
      ltb-false w (entries (at (seed_of seeds over) j s) (up_from 0 n)) fit,
      sound.count,
      entries_at (seed_of seeds over) j s 0 n (omega arith) (omega arith),
      ap one (lt-ltb 30 s hs),
      ap one (le-ltb 30 (seed_of seeds over j) low),
    )
