-- The table that memory shows after one write.
use Rattle.std.proofs.Common.{◌≡◌, ℕ, ◌+◌, ◌-◌, ◌*◌, ◌<◌, ◌≤◌, Bool, true, false, cond, ◌&&◌, eqb, ltb, List, map, length, get_or, set, sym, refl, ap, ◌∙◌, ap₂, inl, inr, arith}
use mathlib.Core.Path.{fun_ext}
use Rattle.std.proofs.lemmas.List.{map-set, get_or-set_same, get_or-set_other, length-map}
use Rattle.std.proofs.lemmas.Bool.{cases_lt, cases_eq, eq-eqb, ne_eqb, eqb-true, lt-ltb, le-ltb, cond-true, cond-false, and_right, and_from}
use Rattle.shared.specs.declared.sizes.Sizes.{Sizes}
use Rattle.shared.specs.Graph.{◌⊕◌, flipped}
use Rattle.shared.specs.Lists.{at2}
use Rattle.shared.specs.Notice.{Setting}
use Rattle.shared.specs.Table.{Table}
use Rattle.shared_bits.specs.Bits.{lit, flip_at}
use Rattle.shared_bits.proofs.Flips.{flip_lit}
use Rattle.shared_table.specs.Laws.{SeedShown, SettingShown, FlipAShown, FlipBShown}
use Rattle.shared_table.specs.Memory.{Memory, view, setting_of, row_of}
use Rattle.shared_table.specs.Passes.{FourSlots}

-- tables are the same where all they say is
pub same_table : (t u : Table) → ((j i : ℕ) → t.setting j i ≡ u.setting j i) → ((p : ℕ) → t.row p ≡ u.row p)
    → ((j : ℕ) → t.seed j ≡ u.seed j) → t.number ≡ u.number → t ≡ u
same_table t u a b c d = λ i. record { setting = λ j k. a j k i; row = λ p. b p i; seed = λ j. c j i; number = d i }

-- the settings
both-not : (a b : Bool) → (a ≡ true → b ≡ true → ⊥) → (a && b) ≡ false
both-not true true h = absurd (h refl refl)
both-not true false h = refl
both-not false b h = refl

module _ (blank : Setting) (ls : List Setting) (j i : ℕ) (v : Setting) (hi : i < 4) (long : 4 * j + 4 ≤ length ls) where
  -- the slot q of bucket p, over the settings' numbers
  slot : List Setting → ℕ → ℕ → Setting
  slot l p q = cond (ltb q 4) (get_or l (4 * p + q) blank) blank

  slot_set : (p q : ℕ) → slot (set ls (4 * j + i) v) p q ≡ at2 (slot ls) j i v p q
  unfolding slot
  slot_set p q =
      elim (cases_lt q 4) [
        | inr l ↦
            cond-false (ltb q 4) _ _ (le-ltb q 4 l) ∙ sym (cond-false (ltb q 4) _ _ (le-ltb q 4 l))
            ∙ sym (cond-false (eqb p j && eqb q i) _ _ (and_right (eqb p j) (eqb q i) (ne_eqb q i (λ e. omega arith))))
        | inl l ↦
            elim (cases_eq (4 * p + q) (4 * j + i)) [
              | inl e ↦
                  cond-true (ltb q 4) _ _ (lt-ltb q 4 l)
                  ∙ ap (λ (k : ℕ). get_or (set ls (4 * j + i) v) k blank) e
                  ∙ get_or-set_same ls (4 * j + i) v blank (omega arith)
                  ∙ sym (cond-true (eqb p j && eqb q i) _ _ (and_from (eqb p j) (eqb q i) (eq-eqb p j (omega arith)) (eq-eqb q i (omega arith))))
              | inr ne ↦
                  ap (λ (x : Setting). cond (ltb q 4) x blank) (get_or-set_other ls (4 * j + i) (4 * p + q) v blank ne)
                  ∙ sym (cond-false (eqb p j && eqb q i) _ _ (both-not (eqb p j) (eqb q i) (λ a b. ne (omega (arith, eqb-true p j a, eqb-true q i b)))))
            ]
      ]

pub setting_set : {S : Type 0} (numbers : S → List ℕ) (blank : Setting) (ss : List S) (j i : ℕ) (v : S) → i < 4 → 4 * j + 4 ≤ length ss
    → setting_of numbers blank (set ss (4 * j + i) v) ≡ at2 (setting_of numbers blank ss) j i (numbers v)
unfolding slot
setting_set numbers blank ss j i v hi long =
    fun_ext (λ p. fun_ext (λ q.
    ap (λ (l : List Setting). cond (ltb q 4) (get_or l (4 * p + q) blank) blank) (map-set numbers ss (4 * j + i) v)
    ∙ slot_set blank (map numbers ss) j i (numbers v) hi (omega (arith, length-map ss numbers)) p q))

-- a place of row b, in both numberings
pub same_place : (a p q : ℕ) → a ≤ q → eqb (q - a) p ≡ eqb q (a + p)
same_place a p q l = elim (cases_eq q (a + p)) [
  | inl e ↦ eq-eqb (q - a) p (omega arith) ∙ sym (eq-eqb q (a + p) e)
  | inr d ↦ ne_eqb (q - a) p (λ e. d (omega arith)) ∙ sym (ne_eqb q (a + p) d)
]

-- the rows
module _ (a : ℕ) (rowa rowb : List ℕ) (p : ℕ) where
  pub row-flip_a : p < a → p < 8 * length rowa → row_of a (flip_at rowa p) rowb ≡ flipped (λ q. eqb q p) (row_of a rowa rowb)
  row-flip_a low long =
      fun_ext (λ q. elim (cases_lt q a) [
        | inl l ↦
            cond-true (ltb q a) _ _ (lt-ltb q a l) ∙ flip_lit rowa p q long
            ∙ ap (λ (b : Bool). eqb q p ⊕ b) (sym (cond-true (ltb q a) (lit rowa q) (lit rowb (q - a)) (lt-ltb q a l)))
        | inr l ↦
            cond-false (ltb q a) _ _ (le-ltb q a l) ∙ sym (cond-false (ltb q a) (lit rowa q) (lit rowb (q - a)) (le-ltb q a l))
            ∙ ap (λ (b : Bool). b ⊕ row_of a rowa rowb q) (sym (ne_eqb q p (λ e. omega arith)))
      ])

  pub row-flip_b : p < 8 * length rowb → row_of a rowa (flip_at rowb p) ≡ flipped (λ q. eqb q (a + p)) (row_of a rowa rowb)
  row-flip_b long =
      fun_ext (λ q. elim (cases_lt q a) [
        | inl l ↦
            cond-true (ltb q a) _ _ (lt-ltb q a l) ∙ sym (cond-true (ltb q a) (lit rowa q) (lit rowb (q - a)) (lt-ltb q a l))
            ∙ ap (λ (b : Bool). b ⊕ row_of a rowa rowb q) (sym (ne_eqb q (a + p) (λ e. omega arith)))
        | inr l ↦
            cond-false (ltb q a) _ _ (le-ltb q a l) ∙ flip_lit rowb p (q - a) long
            ∙ ap₂ ◌⊕◌ (same_place a p q l) (sym (cond-false (ltb q a) (lit rowa q) (lit rowb (q - a)) (le-ltb q a l)))
      ])

-- the whole table
module _ {S : Type 0} (numbers : S → List ℕ) (blank : Setting) where
  pub seed_shown : SeedShown numbers blank
  seed_shown z m seeds over j s done =
      λ i. record { setting = setting_of numbers blank m.settings; row = row_of z.a m.rowa m.rowb; seed = done.seed i; number = m.number }

  pub setting_shown : SettingShown numbers blank
  setting_shown z m j i v hi long =
      let e = setting_set numbers blank m.settings j i v hi long in
      λ k. record { setting = e k; row = (view numbers blank z m).row; seed = (view numbers blank z m).seed; number = m.number }

  pub flip_a_shown : FlipAShown numbers blank
  flip_a_shown z m p low long =
      let e = row-flip_a z.a m.rowa m.rowb p low long in
      λ k. record { setting = (view numbers blank z m).setting; row = e k; seed = (view numbers blank z m).seed; number = m.number }

  pub flip_b_shown : FlipBShown numbers blank
  flip_b_shown z m p long =
      let e = row-flip_b z.a m.rowa m.rowb p long in
      λ k. record { setting = (view numbers blank z m).setting; row = e k; seed = (view numbers blank z m).seed; number = m.number }

  -- nothing is shown past the fourth slot
  pub four-shown : (z : Sizes) (m : Memory S) → FourSlots blank (view numbers blank z m)
  four-shown z m j i h = cond-false (ltb i 4) _ _ (le-ltb i 4 h)
