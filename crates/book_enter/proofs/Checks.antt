-- The checks of an enter, one after the other, over the book that a memory shows.
use Rattle.std.proofs.Common.{◌≡◌, ℕ, suc, ◌+◌, ◌<◌, ◌≤◌, Bool, true, false, cond, List, map, length, get_or, Ok, Err, Result, Option as CodeOption, is_some, Some, None, sym, ap, ◌∙◌, subst}
use Rattle.short_list.specs.Lists.{ShortList}
use Rattle.shared.specs.declared.sizes.Sizes.{Sizes}
use Rattle.shared.specs.declared.refusal.Refusal.{Refusal}
use Rattle.shared.specs.declared.refusal.Refusal.TheVariants.{AlreadyJoined, OverflowFull, BufferTooShort}
use Rattle.shared.specs.Book.{Held, Slot, Book, called, enter, where_is}
use Rattle.shared.specs.Graph.{joins}
use Rattle.shared.specs.Kinds.{Hash}
use Rattle.shared.specs.Lists.{is_found}
use Rattle.shared.specs.Notice.{Setting, Kind}
use Rattle.shared.specs.Table.{Part, edge}
use Rattle.shared_table.specs.Memory.{row_of}
use Rattle.chain_laws.specs.Plans.{Placement, outcome_of, spills, turns}
use Rattle.book_flips.specs.Words.{Words}
use Rattle.book_slots.specs.declared.Spot.{Spot}
use Rattle.book_slots.specs.declared.Held.{Held as CodeHeld}
use Rattle.book_slots.specs.declared.Shelf.{Shelf}
use Rattle.book_slots.specs.Slots.{slot_in, parts}
use Rattle.book_slots.specs.Spots.{spot_of}
use Rattle.book_slots.proofs.Slots.{standing-parts}
use Rattle.book_steps.specs.declared.plan.Placing.{Placing}
use Rattle.book_steps.specs.Plans.{placements_of, shown_steps}
use Rattle.book_turns.specs.Turning.{TurnsAll}
use Rattle.book_notice.specs.Lengths.{notice_length}
use Rattle.book_enter.specs.declared.reading.Reading.{Reading}
use Rattle.book_enter.specs.Views.{book_read}
use Rattle.book_enter.specs.Enters.{placements_for, placements_in, parts_of, Planned, Sure, Passed}
use Rattle.book_enter.proofs.Enters.{by_plan, enter_joined, enter_planned, by_overflow, by_room, by_steps}
use Rattle.book_enter.proofs.Memories.{loaded_words, turned-words, length-outcome}

found-some : (spot : CodeOption Spot) (b : Bool) → is_some spot ≡ b → is_found (spot_of spot) ≡ b
found-some None b e = e
found-some (Some p) b e = e

-- `shelf` is the memory's
module _ {P S : Type 0} (bytes : P → List ℕ) (numbers : S → List ℕ) (hash : Hash) (kind : Kind) (m : Reading P S) (room : ℕ) (k : Part) (v : Setting) (shelf : Shelf P S)
    (same_sizes : shelf.sizes ≡ m.sizes) (same_slots : shelf.slots.now ≡ m.slots.now) where
  abbrev z : Sizes
  z = m.sizes

  abbrev b : Book
  b = book_read bytes numbers m

  abbrev slots_in : List (CodeOption (CodeHeld P S)) → ℕ → ℕ → Slot
  slots_in xs = slot_in bytes numbers xs

  -- what is said of the shelf is so of the memory
  of_memory : (F : Sizes → List (CodeOption (CodeHeld P S)) → Type 0) → F shelf.sizes shelf.slots.now → F m.sizes m.slots.now
  of_memory F f = subst (λ (y : Sizes). F y m.slots.now) same_sizes (subst (λ (xs : List (CodeOption (CodeHeld P S))). F shelf.sizes xs) same_slots f)

  stand : parts_of z b ≡ parts bytes m.slots.now
  stand = standing-parts bytes numbers z m.slots.now m.long_slots

  module _ (spot : CodeOption Spot) (at : spot_of spot ≡ where_is shelf.sizes (slots_in shelf.slots.now) k) where
    found-is : (t : Bool) → is_some spot ≡ t → is_found (where_is z b.slot k) ≡ t
    found-is t e = ap is_found (sym (of_memory (λ y xs. spot_of spot ≡ where_is y (slots_in xs) k) at)) ∙ found-some spot t e

    module _ (new : is_some spot ≡ false) (joined : Bool) (is : joined ≡ joins (map (edge shelf.sizes hash) (parts bytes shelf.slots.now)) (edge shelf.sizes hash k).0 (edge shelf.sizes hash k).1) where
      joined-is : (t : Bool) → joined ≡ t → joins (map (edge z hash) (parts_of z b)) (edge z hash k).0 (edge z hash k).1 ≡ t
      joined-is t e =
          ap (λ (ps : List Part). joins (map (edge z hash) ps) (edge z hash k).0 (edge z hash k).1) stand
          ∙ sym (of_memory (λ y xs. joined ≡ joins (map (edge y hash) (parts bytes xs)) (edge y hash k).0 (edge y hash k).1) is)
          ∙ e

      pub check_joined : joined ≡ true → Planned z hash kind b room (k, v) (Err AlreadyJoined)
      check_joined e = enter_joined z hash kind b room k v (found-is false new) (joined-is true e)

      module _ (apart : joined ≡ false) (made : Result (ShortList Placing) Refusal) (along : placements_in (slots_in shelf.slots.now) (k, v) made ≡ placements_for shelf.sizes hash (slots_in shelf.slots.now) (k, v)) where
        planned-by : by_plan z hash kind b room k v (placements_in b.slot (k, v) made) ≡ called z hash kind b room (enter k v)
        planned-by =
            ap (by_plan z hash kind b room k v) (of_memory (λ y xs. placements_in (slots_in xs) (k, v) made ≡ placements_for y hash (slots_in xs) (k, v)) along)
            ∙ enter_planned z hash kind b room k v (found-is false new) (joined-is false apart)

        -- there is no plan
        pub check_plan : (e : Refusal) → made ≡ Err e → Planned z hash kind b room (k, v) (Err e)
        check_plan e is = subst (λ (r : Result (ShortList Placing) Refusal). by_plan z hash kind b room k v (placements_in b.slot (k, v) r) ≡ called z hash kind b room (enter k v)) is planned-by

        module _ (p : ShortList Placing) (found : made ≡ Ok p) (spilt : Bool) (plan1 : List Placing) (same1 : plan1 ≡ p.items)
            (over1 : (slot : ℕ → ℕ → Slot) (h : Held) → spilt ≡ spills z b.seed (placements_of slot plan1 h)) where
          over : (slot : ℕ → ℕ → Slot) (h : Held) → spilt ≡ spills z b.seed (placements_of slot p.items h)
          over slot h = over1 slot h ∙ ap (λ (l : List Placing). spills z b.seed (placements_of slot l h)) same1

          abbrev ps : List Placement
          ps = placements_of b.slot p.items (k, v)

          goes : by_plan z hash kind b room k v (Ok ps) ≡ called z hash kind b room (enter k v)
          goes = subst (λ (r : Result (ShortList Placing) Refusal). by_plan z hash kind b room k v (placements_in b.slot (k, v) r) ≡ called z hash kind b room (enter k v)) found planned-by

          spilt-is : (t : Bool) → spilt ≡ t → spills z b.seed ps ≡ t
          spilt-is t e = sym (over b.slot (k, v)) ∙ e

          pub check_overflow : spilt ≡ true → Planned z hash kind b room (k, v) (Err OverflowFull)
          check_overflow e = by_overflow z hash kind b room k v ps (spilt-is true e) ∙ goes

          -- the words that are measured are those that turning places over left
          module _ (fits : spilt ≡ false) (first words left : List ℕ) (long : length first ≡ z.a + z.b) (loaded : (q : ℕ) → q < length first → get_or first q 0 ≡ cond (row_of z.a m.row_a.now m.row_b.now q) 1 0)
              (plan2 : List Placing) (same2 : plan2 ≡ p.items) (turned2 : TurnsAll shelf.sizes hash kind.blank (parts bytes shelf.slots.now) (placements_of (slots_in shelf.slots.now) plan2 (k, v)) first left) (len : ℕ)
              (plan3 : List Placing) (same3 : plan3 ≡ p.items) (measured3 : (any : Kind) → len ≡ notice_length any (m.number + 1) (shown_steps shelf.sizes hash kind.blank (slots_in shelf.slots.now) plan3 (k, v) words)) (same_words : left ≡ words) where
            turned : TurnsAll z hash kind.blank (parts bytes m.slots.now) (placements_of b.slot p.items (k, v)) first words
            turned =
                subst (λ (l : List Placing). TurnsAll z hash kind.blank (parts bytes m.slots.now) (placements_of b.slot l (k, v)) first words) same2
                (of_memory (λ y xs. TurnsAll y hash kind.blank (parts bytes xs) (placements_of (slots_in xs) plan2 (k, v)) first words)
                (subst (λ (ws : List ℕ). TurnsAll shelf.sizes hash kind.blank (parts bytes shelf.slots.now) (placements_of (slots_in shelf.slots.now) plan2 (k, v)) first ws) same_words turned2))

            own : Words (z.a + z.b) b.row (turns z hash kind.blank (parts_of z b) b.row ps) words
            own =
                turned-words z hash kind.blank (parts_of z b) b p.items (k, v) words first (parts bytes m.slots.now) stand (loaded_words (z.a + z.b) b.row first long loaded) turned

            len-shown : (any : Kind) → len ≡ notice_length any (b.number + 1) (shown_steps z hash kind.blank b.slot p.items (k, v) words)
            len-shown any =
                of_memory (λ y xs. len ≡ notice_length any (m.number + 1) (shown_steps y hash kind.blank (slots_in xs) plan3 (k, v) words)) (measured3 any)
                ∙ ap (λ (l : List Placing). notice_length any (m.number + 1) (shown_steps z hash kind.blank b.slot l (k, v) words)) same3

            len-is : len ≡ notice_length kind (suc b.number) (outcome_of z hash kind.blank (parts_of z b) b ps).1
            len-is = length-outcome z hash kind.blank (parts_of z b) b p.items (k, v) words kind len (len-shown kind) own

            pub check_room : room < len → Planned z hash kind b room (k, v) (Err BufferTooShort)
            check_room h = by_room z hash kind b room k v ps (spilt-is false fits) (subst (λ (n : ℕ). room < n) len-is h) ∙ goes

            -- every check is passed
            module _ (short : len ≤ room) where
              pub check_none : Planned z hash kind b room (k, v) (Ok p)
              check_none = by_steps z hash kind b room k v ps (spilt-is false fits) (subst (λ (n : ℕ). n ≤ room) len-is short) ∙ goes

              pub check_passed : Sure shelf.sizes p.items → Passed z hash kind.blank b room (k, v) words p.items
              check_passed sure = record {
                sure = of_memory (λ y xs. Sure y p.items) sure;
                roomy = λ slot h. sym (over slot h) ∙ fits;
                own = own;
                short = λ any. subst (λ (n : ℕ). n ≤ room) (len-shown any) short;
              }
