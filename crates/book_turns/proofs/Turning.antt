-- A step turns over the places that the rules say.
use Rattle.std.proofs.Common.{◌≡◌, ℕ, zero, suc, ◌+◌, ◌*◌, ◌%◌, ◌^◌, ◌<◌, ◌≤◌, Bool, true, false, cond, not, eqb, List, [], ◌∷◌, ◌++◌, map, length, get_or, sym, refl, ap, ◌∙◌, ap₂, arith, pow_mono}
use Rattle.std.proofs.lemmas.Bool.{cond-true, cond-false}
use Rattle.shared.specs.declared.sizes.Sizes.{Sizes}
use Rattle.shared.specs.Book.{Held, turned, places}
use Rattle.shared.specs.Graph.{joins, ◌⊕◌, bit_of, without}
use Rattle.shared.specs.Kinds.{Hash}
use Rattle.shared.specs.Lists.{same_list, up_from}
use Rattle.shared.specs.Notice.{Setting}
use Rattle.shared.specs.Table.{Part, h0, edge}
use Rattle.chain_laws.specs.Plans.{row_after, Placement, turns}
use Rattle.chain_laws.proofs.Ranges.{map_last, length-map_up}
use Rattle.chain_laws.proofs.Tools.{kept-up}
use Rattle.book_flips.specs.Words.{word_of, Words, stamped_at}
use Rattle.book_flips.proofs.Words.{word_bit, word_low}
use Rattle.book_flips.proofs.Turns.{turns_more, length-turns, words_stamped, words_kept}
use Rattle.shared_places.specs.declared.Places.{Places}
use Rattle.shared_places.specs.Places.{Placed}
use Rattle.book_turns.specs.declared.TurnSpace.{TurnSpace}
use Rattle.book_turns.specs.Spaces.{CutTurns, SameTurns}
use Rattle.book_turns.specs.Turning.{Low, TurnsOne, Bits, TurnsAll}

differ : (x y : Bool) → not (eqb (cond x 1 0) (cond y 1 0)) ≡ x ⊕ y
differ true true = refl
differ true false = refl
differ false true = refl
differ false false = refl

-- the part k on its way into bucket j, with the test of the words for it
module _ (z : Sizes) (hash : Hash) (blank : Setting) (before : List Part) (j : ℕ) (k : Part) (at : Places) (placed : Placed z hash k at) (words : List ℕ) (step : ℕ) (must : Bool)
    (test : must ≡ not (eqb (get_or words at.a 0 % 2) (get_or words at.b 0 % 2)) ⊕ not (eqb at.first j)) where
  -- the part's bit is another than the one that leads to bucket j
  abbrev wrong_in : (ℕ → Bool) → Bool
  wrong_in row = bit_of row (edge z hash k) ⊕ not (eqb (h0 z hash k) j)

  -- as the words have it
  wrong-read : (row : ℕ → Bool) (tss : List (List ℕ)) → Words (z.a + z.b) row tss words → must ≡ wrong_in (row_after row tss)
  wrong-read row tss own =
      let bit_at : (p : ℕ) → p < z.a + z.b → get_or words p 0 % 2 ≡ cond (row_after row tss p) 1 0 = λ p l. ap (λ (w : ℕ). w % 2) (own p l) ∙ word_bit row tss p in
      test
      ∙ ap₂ (λ (x y : ℕ). not (eqb x y) ⊕ not (eqb at.first j)) (bit_at at.a (omega (arith, placed.low_a))) (bit_at at.b placed.low_b)
      ∙ ap₂ (λ (b : Bool) (f : ℕ). b ⊕ not (eqb f j)) (differ (row_after row tss at.a) (row_after row tss at.b)) placed.first
      ∙ ap₂ (λ (x y : ℕ). (row_after row tss x ⊕ row_after row tss y) ⊕ not (eqb (h0 z hash k) j)) placed.a placed.b

  -- nothing is turned over where the bit is right
  pub turn_none : must ≡ false → TurnsOne z hash blank before step j k words words
  turn_none e row tss len own p h =
      words_kept (z.a + z.b) row tss words own p h ∙ ap (λ (ts : List ℕ). word_of row (tss ++ (ts ∷ [])) p) (sym (cond-false (wrong_in (row_after row tss)) _ [] (sym (wrong-read row tss own) ∙ e)))

  -- else the marked places
  pub turn_some : must ≡ true → (marks after : List ℕ) → ((p : ℕ) → p < z.a + z.b → get_or marks p 0 ≡ cond (joins (map (edge z hash) (without same_list k before)) at.b p) 1 0)
      → ((p : ℕ) → p < z.a + z.b → get_or after p 0 ≡ stamped_at words marks step p) → TurnsOne z hash blank before step j k words after
  turn_some e marks after m st row tss len own p h =
      words_stamped (z.a + z.b) row tss words own (places z hash (map (edge z hash) (without same_list k before)) (edge z hash k).1) marks after
      (λ q l. m q l ∙ ap (λ (s : ℕ). cond (joins (map (edge z hash) (without same_list k before)) s q) 1 0) placed.b ∙ ap (λ (b : Bool). cond b 1 0) (sym (kept-up (joins (map (edge z hash) (without same_list k before)) (edge z hash k).1) q (z.a + z.b) l)))
      (λ q l. st q l ∙ ap (λ (s : ℕ). stamped_at words marks s q) (sym len)) p h
      ∙ ap (λ (ts : List ℕ). word_of row (tss ++ (ts ∷ [])) p) (sym (cond-true (wrong_in (row_after row tss)) _ [] (sym (wrong-read row tss own) ∙ e)))

bit_word : (n : ℕ) → n < 2 → n ≡ cond (eqb n 1) 1 0 + 2 * 0
bit_word zero h = refl
bit_word (suc zero) h = refl
bit_word (suc (suc n)) h = absurd (omega arith)

-- step by step
module _ (z : Sizes) (hash : Hash) (blank : Setting) (before : List Part) (p : ℕ → Placement) (i : ℕ) (words now : List ℕ) (all : TurnsAll z hash blank before (map p (up_from 0 i)) words now) where
  length-done : (row : ℕ → Bool) → length (turns z hash blank before row (map p (up_from 0 i))) ≡ i
  length-done row = length-turns z hash blank before (map p (up_from 0 i)) row ∙ length-map_up p 0 i

  -- one step more
  turns-on : (k : Part) (after : List ℕ) → k ≡ (p i).held.0 → TurnsOne z hash blank before i (p i).into k now after → TurnsAll z hash blank before (map p (up_from 0 (i + 1))) words after
  turns-on k after e one row own q h =
      let tss = turns z hash blank before row (map p (up_from 0 i)) in
      one row tss (length-done row) (all row own) q h
      ∙ ap (λ (x : Part). word_of row (tss ++ (turned z hash blank before (row_after row tss) (p i).into x ∷ [])) q) e
      ∙ ap (λ (l : List (List ℕ)). word_of row l q) (sym (ap (turns z hash blank before row) (map_last p i) ∙ turns_more z hash blank before (map p (up_from 0 i)) (p i) row))

  -- the words stay small
  turns-low : Bits words → i ≤ 5 → length words ≡ z.a + z.b → length now ≡ z.a + z.b → Low now
  turns-low bits few long long' q h =
      let row : ℕ → Bool = λ r. eqb (get_or words r 0) 1 in
      let own : Words (z.a + z.b) row [] words = λ r l. bit_word (get_or words r 0) (bits r (omega arith)) in
      let is = all row own q (omega arith) in
      let low = word_low row (turns z hash blank before row (map p (up_from 0 i))) q in
      let top : 2 ^ suc (length (turns z hash blank before row (map p (up_from 0 i)))) ≤ 2 ^ 6 = pow_mono {i = suc (length (turns z hash blank before row (map p (up_from 0 i))))} {j = 6} (omega (arith, length-done row)) in
      omega (arith, is, low, top)

-- the workspace after i steps
pub record UpTo (z : Sizes) (hash : Hash) (blank : Setting) (before : List Part) (p : ℕ → Placement) (begun : TurnSpace) (i : ℕ) (now : TurnSpace) : Type 0 where
  pub turns : TurnsAll z hash blank before (map p (up_from 0 i)) begun.words.now now.words.now
  pub ends : now.ends.now ≡ begun.ends.now
  pub cut : CutTurns z now
  pub loans : SameTurns now begun

module _ {z : Sizes} {hash : Hash} {blank : Setting} {before : List Part} {p : ℕ → Placement} {begun : TurnSpace} {i : ℕ} {now : TurnSpace} (u : UpTo z hash blank before p begun i now) where
  pub up_low : Bits begun.words.now → i ≤ 5 → CutTurns z begun → Low now.words.now
  up_low bits few cut = turns-low z hash blank before p i begun.words.now now.words.now u.turns bits few cut.words u.cut.words

  pub up_more : {held : Held} {after : TurnSpace} → held ≡ (p i).held → TurnsOne z hash blank before i (p i).into held.0 now.words.now after.words.now → after.ends.now ≡ now.ends.now → CutTurns z after → SameTurns after now
      → UpTo z hash blank before p begun (i + 1) after
  up_more {held} {after} e one ends cut loans = record {
    turns = turns-on z hash blank before p i begun.words.now now.words.now u.turns held.0 after.words.now (ap (λ (x : Held). x.0) e) one;
    ends = ends ∙ u.ends;
    cut = cut;
    loans = record {
      words = loans.words ∙ u.loans.words;
      marks = loans.marks ∙ u.loans.marks;
      kept = loans.kept ∙ u.loans.kept;
    };
  }
