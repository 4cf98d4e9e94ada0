-- What the pass over a notice's steps leaves in the rows.
use Rattle.std.proofs.Common.{◌≡◌, ℕ, suc, ◌/◌, ◌≤◌, List, [], ◌∷◌, ◌++◌, map, length, Ok, fold, Result, sym, refl, ap, ◌∙◌}
use Rattle.std.proofs.lemmas.List.{set_past}
use Rattle.shared.specs.declared.refusal.Fault.{Fault}
use Rattle.shared.specs.Notice.{Setting, Step, bucket, single, Notice}
use Rattle.shared_bits.specs.Bits.{flip_at}
use Rattle.shared_notice.specs.Walks.{passed, with_number}
use Rattle.shared_notice.proofs.Passes.{pass_seen}
use Rattle.std.proofs.lemmas.List.Sums.{fold-append}
use Rattle.shared_text.specs.Events.{Event, row_b, flip, end_bucket, settings_from, step_events, events_of}
use Rattle.shared_text.specs.declared.row.Row.{Row}
use Rattle.shared_text.specs.declared.row.Row.TheVariants.{A, B}
use Rattle.take_places.specs.declared.Flipper.{Flipper}
use Rattle.take_places.specs.Flips.{flip_all, flipped_a, flipped_b, flipper_on, flipping}

-- no row has a place past its end
pub flip_past : (bs : List ℕ) (p : ℕ) → length bs ≤ p / 8 → flip_at bs p ≡ bs
unfolding flip_at
flip_past bs p h = set_past bs (p / 8) _ h

module _ (f : Flipper) where
  skip_settings : (g : Flipper) (i : ℕ) (vs : List Setting) (es : List Event) → fold flipping g (settings_from i vs ++ es) ≡ fold flipping g es
  skip_settings g i [] es = refl
  skip_settings g i (v ∷ vs) es = skip_settings g (suc i) vs es

  turn_a : (a b ps : List ℕ) (es : List Event) → fold flipping (flipper_on f a b A) (map flip ps ++ es) ≡ fold flipping (flipper_on f (flip_all a ps) b A) es
  turn_a a b [] es = refl
  turn_a a b (p ∷ ps) es = turn_a (flip_at a p) b ps es

  turn_b : (a b ps : List ℕ) (es : List Event) → fold flipping (flipper_on f a b B) (map flip ps ++ es) ≡ fold flipping (flipper_on f a (flip_all b ps) B) es
  turn_b a b [] es = refl
  turn_b a b (p ∷ ps) es = turn_b a (flip_at b p) ps es

  turn_steps : (a b : List ℕ) (row : Row) (ss : List Step) → (last : Row) × (fold flipping (flipper_on f a b row) (events_of ss) ≡ flipper_on f (flipped_a a ss) (flipped_b b ss) last)
  turn_steps a b row [] = (row, refl)
  turn_steps a b row (bucket j s vs pa pb ∷ ss) =
      let rest = turn_steps (flip_all a pa) (flip_all b pb) B ss in
      let behind : List Event = row_b ∷ (map flip pb ++ (end_bucket ∷ [])) in (
        rest.0,
        fold-append flipping (flipper_on f a b row) (step_events (bucket j s vs pa pb)) (events_of ss)
            ∙ ap (λ (g : Flipper). fold flipping g (events_of ss))
            (skip_settings (flipper_on f a b row) 0 vs _ ∙ turn_a a b pa behind ∙ turn_b (flip_all a pa) b pb (end_bucket ∷ []))
            ∙ rest.1,
      )
  turn_steps a b row (single j i v ∷ ss) = turn_steps a b row ss

-- the pass over a notice leaves its rows where they were, with the steps' places turned over
pub rows_turned : (v w : Flipper) (r : Result ℕ Fault) (m : Result Notice Fault) (n : ℕ) (ss : List Step) → with_number w r ≡ passed flipping v m → m ≡ Ok (n, ss)
    → (v.row_a.ghost_name ≡ w.row_a.ghost_name) × (v.row_b.ghost_name ≡ w.row_b.ghost_name) × (w.row_a.now ≡ flipped_a v.row_a.now ss) × (w.row_b.now ≡ flipped_b v.row_b.now ss)
rows_turned v w r m n ss e f =
    let is = (pass_seen flipping v w r m n ss e f).1 ∙ (turn_steps v v.row_a.now v.row_b.now v.row ss).1 in
    (sym (ap (λ (x : Flipper). x.row_a.ghost_name) is), sym (ap (λ (x : Flipper). x.row_b.ghost_name) is), ap (λ (x : Flipper). x.row_a.now) is, ap (λ (x : Flipper). x.row_b.now) is)
