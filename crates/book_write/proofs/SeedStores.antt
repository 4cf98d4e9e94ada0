-- Seeds written one after the other.
use Rattle.std.proofs.Common.{◌≡◌, ℕ, ◌+◌, ◌<◌, ◌≤◌, false, cond, ltb, List, [], ◌∷◌, ◌++◌, map, length, sym, refl, ap, ◌∙◌, subst}
use Rattle.shared.specs.declared.sizes.Sizes.{Sizes}
use Rattle.shared.specs.Book.{Held, Slot}
use Rattle.shared.specs.Lists.{at, up_from}
use Rattle.shared.specs.Table.{too_many}
use Rattle.shared_bits.specs.Bits.{put_field}
use Rattle.shared_overflow.specs.declared.Entry.{Entry}
use Rattle.shared_overflow.specs.Overflow.{used_in}
use Rattle.shared_table.specs.Memory.{seed_of, SeedSet}
use Rattle.shared_table.proofs.SeedWrites.{sound_after, room-left}
use Rattle.chain_laws.specs.Plans.{Placement}
use Rattle.chain_laws.proofs.Ranges.{map_last}
use Rattle.book_steps.specs.declared.plan.Placing.{Placing}
use Rattle.book_steps.specs.Plans.{placing_at, placement_at, placements_of}
use Rattle.book_enter.specs.Enters.{Sure}
use Rattle.book_enter.proofs.Spills.{upto, upto-more, rest_over, rest-next}
use Rattle.book_write.specs.Writes.{fields_after, SeedsStored}

fields_more : (ps : List Placement) (p : Placement) (area : List ℕ) → fields_after area (ps ++ (p ∷ [])) ≡ put_field (fields_after area ps) p.into (cond (ltb p.seed 31) p.seed 31)
fields_more [] p area = refl
fields_more (q ∷ ps) p area = fields_more ps p (put_field area q.into (cond (ltb q.seed 31) q.seed 31))

-- The first i seeds are stored, and the rest of the steps use no more entries than there are.
pub record Stored (z : Sizes) (seeds : List ℕ) (over : List Entry) (slot : ℕ → ℕ → Slot) (h : Held) (plan : List Placing) (i : ℕ) (now : List ℕ) (held : List Entry) : Type 0 where
  pub done : SeedsStored z seeds over (map (placement_at slot plan h) (up_from 0 i)) now held
  pub rest : rest_over z (placement_at slot plan h) (seed_of seeds over) (length plan) i ≡ false

module _ {z : Sizes} {seeds : List ℕ} {over : List Entry} {plan : List Placing} {slot : ℕ → ℕ → Slot} {h : Held} {i : ℕ} {now : List ℕ} {held : List Entry} (s : Stored z seeds over slot h plan i now held) where
  pub stored_all : i ≡ length plan → SeedsStored z seeds over (placements_of slot plan h) now held
  stored_all e = subst (λ (n : ℕ). SeedsStored z seeds over (map (placement_at slot plan h) (up_from 0 n)) now held) e s.done

  module _ (sure : Sure z plan) (few : i < length plan) where
    step_next : (too_many z (upto z (placement_at slot plan h) (seed_of seeds over) (length plan) (i + 1)) ≡ false) × (rest_over z (placement_at slot plan h) (seed_of seeds over) (length plan) (i + 1) ≡ false)
    step_next = rest-next z (placement_at slot plan h) (seed_of seeds over) (length plan) i few s.rest

    -- there is room for the next
    pub stored_room : length over ≡ z.overflow → 30 < (placing_at plan i).seed → seed_of now held (placing_at plan i).bucket ≤ 30 → used_in held < length held
    stored_room long high low =
        let p = placing_at plan i in
        room-left z.buckets z.overflow now held p.bucket p.seed (sure.fit.into i few) s.done.sound (s.done.long ∙ long)
        (ap (λ (f : ℕ → ℕ). too_many z (at f p.bucket p.seed)) s.done.shown ∙ sym (ap (too_many z) (upto-more z (placement_at slot plan h) (seed_of seeds over) (length plan) i)) ∙ step_next.0) high low

    pub stored_more : {now' : List ℕ} {held' : List Entry} → SeedSet now held now' held' (placing_at plan i).bucket (placing_at plan i).seed → Stored z seeds over slot h plan (i + 1) now' held'
    stored_more {now'} {held'} t =
        let p = placement_at slot plan h in
        record {
          done = record {
            bytes =
                t.bytes
                ∙ ap (λ (l : List ℕ). put_field l (p i).into (cond (ltb (p i).seed 31) (p i).seed 31)) s.done.bytes
                ∙ sym (ap (fields_after seeds) (map_last p i) ∙ fields_more (map p (up_from 0 i)) (p i) seeds);
            shown = t.seed ∙ ap (λ (f : ℕ → ℕ). at f (p i).into (p i).seed) s.done.shown ∙ sym (upto-more z p (seed_of seeds over) (length plan) i);
            sound = sound_after z.buckets now held now' held' (p i).into (p i).seed (sure.fit.into i few) s.done.sound t;
            long = t.long ∙ s.done.long;
          };
          rest = step_next.1;
        }
