-- What an enter leaves, once its plan is written.
use Rattle.std.proofs.Common.{◌≡◌, ℕ, zero, suc, ◌+◌, ◌-◌, ◌%◌, ◌<◌, ◌≤◌, Bool, true, false, cond, eqb, ltb, List, [], ◌∷◌, ◌++◌, length, get_or, take, drop, Ok, Some, Option as CodeOption, sym, refl, ap, ◌∙◌, ap₂, subst, inl, inr, arith}
use Rattle.short_list.specs.Lists.{ShortList}
use mathlib.Core.Path.{fun_ext}
use Rattle.std.proofs.lemmas.Bool.{cases_lt, lt-ltb, le-ltb, ne_eqb, cond-true, cond-false, and_right, or_from}
use Rattle.std.proofs.lemmas.List.{length-take, length-drop, get_or-take, get_or-drop}
use Rattle.shared.specs.declared.sizes.Sizes.{Sizes}
use Rattle.shared.specs.Answers.{accepted}
use Rattle.shared.specs.Book.{Held, Slot, Book, enter, Outcome, done, raised, Call, called, left}
use Rattle.shared.specs.Graph.{◌⊕◌, flipped}
use Rattle.shared.specs.Kinds.{Hash}
use Rattle.shared.specs.Lists.{memb, up_from}
use Rattle.shared.specs.Notice.{Setting, Kind, Step, notice_text}
use Rattle.shared.specs.Table.{Part}
use Rattle.shared_bits.specs.Bits.{lit}
use Rattle.shared_overflow.specs.declared.Entry.{Entry}
use Rattle.shared_pen.specs.Laws.{Finished}
use Rattle.shared_table.specs.Memory.{row_of, seed_of}
use Rattle.chain_laws.specs.Plans.{Placement, turns, played, slots_after, seeds_after, row_after}
use Rattle.chain_laws.proofs.Plans.{plays}
use Rattle.chain_laws.proofs.Tools.{memb-kept}
use Rattle.book_flips.specs.Words.{Words}
use Rattle.book_flips.proofs.Words.{word_bit}
use Rattle.book_slots.specs.declared.Held.{Held as CodeHeld}
use Rattle.book_slots.specs.declared.Shelf.{Shelf}
use Rattle.book_slots.specs.Slots.{slot_in}
use Rattle.book_steps.specs.declared.plan.Placing.{Placing}
use Rattle.book_steps.specs.Plans.{placements_of, shown_steps}
use Rattle.book_steps.proofs.Shown.{Ranged, turns-ranged}
use Rattle.book_notice.specs.Lengths.{notice_length, notice_bytes}
use Rattle.book_enter.specs.declared.memory.Memory.{Memory}
use Rattle.book_enter.specs.declared.reading.Reading.{Reading}
use Rattle.book_enter.specs.Views.{book_of, book_read}
use Rattle.book_enter.specs.Enters.{parts_of, Planned, Passed}
use Rattle.book_enter.proofs.Memories.{shown-outcome}
use Rattle.book_write.specs.Writes.{SeedsStored, RowStored, asked, CallLeft}

-- turns within a range leave what is past it
past_up : (p i n : ℕ) → i + n ≤ p → memb p (up_from i n) ≡ false
past_up p i zero h = refl
past_up p i (suc n) h = or_from (eqb p i) (memb p (up_from (suc i) n)) (ne_eqb p i (λ e. omega arith)) (past_up p (suc i) n (omega arith))

row-past : (n : ℕ) (tss : List (List ℕ)) → ((k : ℕ) → Ranged n (get_or tss k [])) → (row : ℕ → Bool) (p : ℕ) → n ≤ p → row_after row tss p ≡ row p
row-past n [] r row p h = refl
row-past n (ts ∷ tss) r row p h =
    row-past n tss (λ k. r (suc k)) (flipped (λ q. memb q ts) row) p h
    ∙ ap (λ (b : Bool). b ⊕ row p) (ap (memb p) (r 0).1 ∙ memb-kept (r 0).0 p (up_from 0 n) ∙ and_right ((r 0).0 p) (memb p (up_from 0 n)) (past_up p 0 n (omega arith)))

bit_is : (b : Bool) → eqb (cond b 1 0) 1 ≡ b
bit_is true = refl
bit_is false = refl

module _ (a b : ℕ) (rowa rowb rowa' rowb' words : List ℕ) (tss : List (List ℕ)) (long : length words ≡ a + b) (sa : RowStored rowa (take a words) rowa') (sb : RowStored rowb (drop a words) rowb')
    (own : Words (a + b) (row_of a rowa rowb) tss words) (ranged : (k : ℕ) → Ranged (a + b) (get_or tss k [])) where
  -- the bit in a place's word
  word_is : (p : ℕ) → p < a + b → eqb (get_or words p 0 % 2) 1 ≡ row_after (row_of a rowa rowb) tss p
  word_is p h = ap (λ (w : ℕ). eqb (w % 2) 1) (own p h) ∙ ap (λ (w : ℕ). eqb w 1) (word_bit (row_of a rowa rowb) tss p) ∙ bit_is (row_after (row_of a rowa rowb) tss p)

  at_a : (p : ℕ) → p < a → row_of a rowa' rowb' p ≡ row_after (row_of a rowa rowb) tss p
  at_a p h =
      cond-true (ltb p a) _ _ (lt-ltb p a h)
      ∙ sa.bits p
      ∙ cond-true (ltb p (length (take a words))) _ _ (lt-ltb p (length (take a words)) (omega (arith, length-take a words)))
      ∙ ap (λ (w : ℕ). eqb (w % 2) 1) (get_or-take a words p 0 h)
      ∙ word_is p (omega arith)

  at_b : (p : ℕ) → a ≤ p → row_of a rowa' rowb' p ≡ row_after (row_of a rowa rowb) tss p
  at_b p h =
      cond-false (ltb p a) _ _ (le-ltb p a h)
      ∙ sb.bits (p - a)
      ∙ elim (cases_lt p (a + b)) [
        | inl l ↦
            let back : a + (p - a) ≡ p = omega arith in
            cond-true (ltb (p - a) (length (drop a words))) _ _ (lt-ltb (p - a) (length (drop a words)) (omega (arith, length-drop a words)))
            ∙ ap (λ (w : ℕ). eqb (w % 2) 1) (get_or-drop a words (p - a) 0 ∙ ap (λ (q : ℕ). get_or words q 0) back)
            ∙ word_is p l
        | inr l ↦
            cond-false (ltb (p - a) (length (drop a words))) _ _ (le-ltb (p - a) (length (drop a words)) (omega (arith, length-drop a words)))
            ∙ sym (cond-false (ltb p a) (lit rowa p) (lit rowb (p - a)) (le-ltb p a h))
            ∙ sym (row-past (a + b) tss ranged (row_of a rowa rowb) p l)
      ]

  pub rows_after : row_of a rowa' rowb' ≡ row_after (row_of a rowa rowb) tss
  rows_after = fun_ext (λ p. elim (cases_lt p a) [ inl l ↦ at_a p l | inr l ↦ at_b p l ])

-- the whole outcome of a call
module _ (z : Sizes) (hash : Hash) (kind : Kind) (b : Book) (call : Call) (buffer : List ℕ) where
  -- `steps` are those of the outcome, and its text was written
  pub call_done : (after : Book) (steps : List Step) → done after steps ≡ called z hash kind b (length buffer) call → (n len : ℕ) (buffer' : List ℕ) → n ≡ after.number
      → len ≡ length (notice_bytes kind n steps) → buffer' ≡ notice_bytes kind n steps ++ drop len buffer → CallLeft z hash kind b call buffer (accepted (len ∷ [])) after buffer'
  unfolding notice_bytes
  call_done after steps is n len buffer' e l t =
      let text : notice_text kind n steps ≡ notice_text kind after.number steps = ap (λ (m : ℕ). notice_text kind m steps) e in
      record {
        answered = ap (λ (m : ℕ). accepted (m ∷ [])) (l ∙ ap length text) ∙ ap (λ (o : Outcome). (left kind b (asked call buffer) o).answer) is;
        booked = ap (λ (o : Outcome). (left kind b (asked call buffer) o).book) is;
        noticed = t ∙ ap₂ (λ (x : List ℕ) (m : ℕ). x ++ drop m buffer) text (l ∙ ap length text) ∙ ap (λ (o : Outcome). (left kind b (asked call buffer) o).buffer) is;
      }

abbrev pub book_with : (ℕ → ℕ → Slot) → (ℕ → Bool) → (ℕ → ℕ) → ℕ → Book
book_with slot row seed number = record { slot = slot; row = row; seed = seed; number = number }

-- the book after slots, rows and seeds are written
pub book_after_lem : (z : Sizes) (hash : Hash) (blank : Setting) (before : List Part) (b : Book) (ps : List Placement) (slot : ℕ → ℕ → Slot) (row : ℕ → Bool) (seed : ℕ → ℕ)
    → slot ≡ slots_after b.slot ps → row ≡ row_after b.row (turns z hash blank before b.row ps) → seed ≡ seeds_after b.seed ps
    → book_with slot row seed (b.number + 1) ≡ raised (played z hash blank before b ps)
book_after_lem z hash blank before b ps slot row seed es er ed =
    let n : b.number + 1 ≡ suc b.number = omega arith in
    ap₂ (λ (s : ℕ → ℕ → Slot) (r : ℕ → Bool). book_with s r seed (b.number + 1)) es er
    ∙ ap₂ (λ (d : ℕ → ℕ) (m : ℕ). book_with (slots_after b.slot ps) (row_after b.row (turns z hash blank before b.row ps)) d m) ed n
    ∙ sym (ap raised (plays z hash blank before b ps))

-- what is said of the book that is read is so of the memory's
module _ {P S : Type 0} (bytes : P → List ℕ) (numbers : S → List ℕ) (m : Memory P S) (r : Reading P S) (sizes : r.sizes ≡ m.sizes) (slots : r.slots.now ≡ m.slots.now) (row_a : r.row_a.now ≡ m.row_a.now)
    (row_b : r.row_b.now ≡ m.row_b.now) (seeds : r.seeds.now ≡ m.seeds.now) (overflow : r.overflow.now ≡ m.overflow.now) (number : r.number ≡ m.number) where
  same_book : book_read bytes numbers r ≡ book_of bytes numbers m
  same_book = cc

  pub of_reading : (F : Sizes → Book → Type 0) → F r.sizes (book_read bytes numbers r) → F m.sizes (book_of bytes numbers m)
  of_reading F f = subst (λ (y : Sizes). F y (book_of bytes numbers m)) sizes (subst (λ (b : Book). F r.sizes b) same_book f)

-- the enter of h into the book that the memory shows, with `shelf` the memory's
module _ {P S : Type 0} (bytes : P → List ℕ) (numbers : S → List ℕ) (hash : Hash) (kind : Kind) (m : Memory P S) (h : Held) (buffer : List ℕ) where
  abbrev z : Sizes
  z = m.sizes

  abbrev b : Book
  b = book_of bytes numbers m

  module _ (p : ShortList Placing) (words : List ℕ) (is : Planned z hash kind b (length buffer) h (Ok p)) (passed : Passed z hash kind.blank b (length buffer) h words p.items) (shelf : Shelf P S) (same_sizes : shelf.sizes ≡ m.sizes)
      (same_slots : shelf.slots.now ≡ m.slots.now) (plan1 : List Placing) (same1 : plan1 ≡ p.items) where
    shown-steps : shown_steps shelf.sizes hash kind.blank (slot_in bytes numbers shelf.slots.now) plan1 h words ≡ shown_steps z hash kind.blank b.slot p.items h words
    shown-steps =
        ap₂ (λ (y : Sizes) (xs : List (CodeOption (CodeHeld P S))). shown_steps y hash kind.blank (slot_in bytes numbers xs) plan1 h words) same_sizes same_slots
        ∙ ap (λ (l : List Placing). shown_steps z hash kind.blank b.slot l h words) same1

    -- what was measured is what is written, so it fits
    pub entered_long : length buffer < length (notice_bytes kind (m.number + 1) (shown_steps shelf.sizes hash kind.blank (slot_in bytes numbers shelf.slots.now) plan1 h words)) → ⊥
    unfolding notice_length notice_bytes
    entered_long over =
        let short = passed.short kind in
        let same = ap (λ (ss : List Step). length (notice_text kind (m.number + 1) ss)) shown-steps in
        omega arith

    pub entered_done : (slots' : List (CodeOption (CodeHeld P S))) (rowa' rowb' seeds' : List ℕ) (over' : List Entry) → length words ≡ z.a + z.b
        → RowStored m.row_a.now (take z.a words) rowa' → RowStored m.row_b.now (drop z.a words) rowb'
        → (plan2 : List Placing) → plan2 ≡ p.items → SeedsStored z m.seeds.now m.overflow.now (placements_of b.slot plan2 h) seeds' over'
        → (plan3 : List Placing) → plan3 ≡ p.items → slot_in bytes numbers slots' ≡ slots_after b.slot (placements_of b.slot plan3 h)
        → (len : ℕ) (buffer' : List ℕ) → Finished (notice_bytes kind (m.number + 1) (shown_steps shelf.sizes hash kind.blank (slot_in bytes numbers shelf.slots.now) plan1 h words)) buffer buffer' (Some len)
        → CallLeft z hash kind b (enter h.0 h.1) buffer (accepted (len ∷ [])) (book_with (slot_in bytes numbers slots') (row_of z.a rowa' rowb') (seed_of seeds' over') (m.number + 1)) buffer'
    entered_done slots' rowa' rowb' seeds' over' long sa sb plan2 same2 seeds plan3 same3 slots len buffer' written =
        let before = parts_of z b in
        let ps = placements_of b.slot p.items h in
        let tss = turns z hash kind.blank before b.row ps in
        let rows = rows_after z.a z.b m.row_a.now m.row_b.now rowa' rowb' words tss long sa sb passed.own (turns-ranged z hash kind.blank before ps b.row) in
        let stored = seeds.shown ∙ ap (λ (l : List Placing). seeds_after b.seed (placements_of b.slot l h)) same2 in
        let placed = slots ∙ ap (λ (l : List Placing). slots_after b.slot (placements_of b.slot l h)) same3 in
        let book = book_after_lem z hash kind.blank before b ps (slot_in bytes numbers slots') (row_of z.a rowa' rowb') (seed_of seeds' over') placed rows stored in
        let number : m.number + 1 ≡ suc (played z hash kind.blank before b ps).number = omega (arith, ap (λ (x : Book). x.number) (plays z hash kind.blank before b ps)) in
        let shown = shown-steps ∙ shown-outcome z hash kind.blank before b p.items h words passed.own in
        subst (λ (x : Book). CallLeft z hash kind b (enter h.0 h.1) buffer (accepted (len ∷ [])) x buffer') (sym book)
        (call_done z hash kind b (enter h.0 h.1) buffer _ _ is (m.number + 1) len buffer' number
        (written.0 ∙ ap (λ (ss : List Step). length (notice_bytes kind (m.number + 1) ss)) shown) (written.1 ∙ ap (λ (ss : List Step). notice_bytes kind (m.number + 1) ss ++ drop len buffer) shown))
