-- Notices are shorter than the largest number, so that a ruler measures them exactly.
use Rattle.std.proofs.Common.{◌≡◌, ℕ, zero, suc, ◌+◌, ◌-◌, ◌*◌, ◌/◌, ◌%◌, ◌^◌, ◌<◌, ◌≤◌, Bool, true, false, cond, ◌&&◌, eqb, ltb, List, [], ◌∷◌, ◌++◌, map, length, get_or, codes, fold, refl, ap, arith}
use mathlib.Core.Option.{none, some}
use Rattle.std.specs.Prelude.{Option as CodeOption, Some, None}
use lib.ListN.{length-map}
use Rattle.std.proofs.lemmas.List.{length-append}
use Rattle.shared.specs.declared.sizes.Sizes.{Sizes}
use Rattle.shared.specs.Book.{Held as HeldPart, Slot, held_in, value_at}
use Rattle.shared.specs.Kinds.{Hash}
use Rattle.shared.specs.Lists.{up_from, kept, at2}
use Rattle.shared.specs.Notice.{Setting, Kind, Step, bucket, notice_text}
use Rattle.shared.specs.Table.{slot_of}
use Rattle.shared.specs.Tokens.{digits_onto}
use Rattle.chain_laws.proofs.Ranges.{length-map_up}
use Rattle.shared_text.specs.Events.{Event, begin_bucket, setting_at, row_a, row_b, flip, end_bucket, slot_step, settings_from, step_events, events_of}
use Rattle.shared_pen.specs.Pens.{space_before, number_text, behind_spaces, numbers_text, setting_text, event_text, events_text, head_text, end_text}
use Rattle.shared_pen.specs.Inks.{poured}
use Rattle.shared_pen.specs.Rules.{ruled_byte}
use Rattle.shared_pen.specs.Prints.{put, printed}
use Rattle.shared_pen.specs.declared.printer.Printer.{Printer}
use Rattle.shared_pen.specs.declared.ruler.Ruler.{Ruler}
use Rattle.shared_pen.proofs.Lines.{in_events}
use Rattle.shared_pen.proofs.Measured.{rule_finished}
use Rattle.shared_pen.proofs.Printed.{notice_printed}
use Rattle.book_slots.specs.declared.Held.{Held as CodeHeld}
use Rattle.book_slots.specs.Slots.{viewed, slot_in}
use Rattle.book_notice.specs.Lengths.{notice_length, notice_bytes}
use Rattle.book_steps.specs.declared.plan.Placing.{Placing}
use Rattle.book_steps.specs.Plans.{placing_at, held_or, held_at, placement_at, flagged, flagged_from, values_at, shown_step, shown_steps}

-- at most twenty digits
digits_few : (k n : ℕ) (rest : List ℕ) → length (digits_onto k n rest) ≤ k + length rest
digits_few zero n rest = omega arith
digits_few (suc k) n rest = go (ltb n 10) (digits_few k (n / 10) ((48 + n % 10) ∷ rest))
  where
    go : (b : Bool) → length (digits_onto k (n / 10) ((48 + n % 10) ∷ rest)) ≤ k + suc (length rest)
        → length (elim b as (λ (c : Bool). List ℕ) [ true ↦ (48 + n) ∷ rest | false ↦ digits_onto k (n / 10) ((48 + n % 10) ∷ rest) ]) ≤ suc k + length rest
    go true h = omega arith
    go false h = omega arith

number_few : (n : ℕ) → length (number_text n) ≤ 20
unfolding number_text
number_few n = omega (arith, digits_few 20 n [])

spaces_few : (vs : List ℕ) → length (behind_spaces vs) ≤ 21 * length vs
spaces_few [] = omega arith
spaces_few (v ∷ vs) = omega (arith, number_few v, spaces_few vs, length-append (number_text v) (behind_spaces vs))

numbers-few : (vs : List ℕ) → length (numbers_text vs) ≤ 21 * length vs
numbers-few [] = omega arith
numbers-few (v ∷ vs) = omega (arith, number_few v, spaces_few vs, length-append (number_text v) (behind_spaces vs))

-- a setting has four numbers at most
abbrev pub Short : Setting → Type 0
Short v = length v ≤ 4

setting_few : (v : Setting) → Short v → length (setting_text v) ≤ 86
setting_few v h = omega (arith, numbers-few v, length-append (numbers_text v) (41 ∷ []))

space_few : (i : ℕ) → length (space_before i) ≤ 1
space_few zero = omega arith
space_few (suc i) = omega arith

abbrev pub Small : Event → Type 0
Small (begin_bucket j s) = Unit {0}
Small (setting_at i v) = Short v
Small row_a = Unit {0}
Small row_b = Unit {0}
Small (flip p) = Unit {0}
Small end_bucket = Unit {0}
Small (slot_step j i v) = Short v

event_few : (e : Event) → Small e → length (event_text e) ≤ 160
event_few (begin_bucket j s) h =
    omega (arith, number_few j, number_few s, length-append (number_text j) (32 ∷ (number_text s ++ codes " (")), length-append (number_text s) (codes " ("))
event_few (setting_at i v) h = omega (arith, space_few i, setting_few v h, length-append (space_before i) (setting_text v))
event_few row_a h = omega arith
event_few row_b h = omega arith
event_few (flip p) h = omega (arith, number_few p)
event_few end_bucket h = omega arith
event_few (slot_step j i v) h =
    omega (
      arith,
      number_few j,
      number_few i,
      setting_few v h,
      length-append (number_text j) (32 ∷ (number_text i ++ (32 ∷ (setting_text v ++ (41 ∷ 10 ∷ []))))),
      length-append (number_text i) (32 ∷ (setting_text v ++ (41 ∷ 10 ∷ []))),
      length-append (setting_text v) (41 ∷ 10 ∷ []),
    )

abbrev pub AllSmall : List Event → Type 0
AllSmall [] = Unit {0}
AllSmall (e ∷ es) = Small e × AllSmall es

small-append : (xs ys : List Event) → AllSmall xs → AllSmall ys → AllSmall (xs ++ ys)
small-append [] ys a b = b
small-append (x ∷ xs) ys a b = (a.0, small-append xs ys a.1 b)

events_few : (es : List Event) → AllSmall es → length (events_text es) ≤ 160 * length es
events_few [] h = omega arith
events_few (e ∷ es) h = omega (arith, event_few e h.0, events_few es h.1, length-append (event_text e) (events_text es))

-- a notice of few events is short
head_few : (n c : ℕ) → length (head_text n c) ≤ 60
head_few n c = omega (arith, number_few n, number_few c, length-append (number_text n) (32 ∷ (number_text c ++ (41 ∷ 10 ∷ []))), length-append (number_text c) (41 ∷ 10 ∷ []))

end_few : (n : ℕ) → length (end_text n) ≤ 30
end_few n = omega (arith, number_few n, length-append (number_text n) (41 ∷ 10 ∷ []))

pub few_events : (kind : Kind) (n : ℕ) (steps : List Step) → AllSmall (events_of steps) → length (events_of steps) ≤ 400000 → notice_length kind n steps < 2 ^ 64 - 1
unfolding notice_length
few_events kind n steps small few =
    omega (arith, ap length (in_events kind n steps), events_few (events_of steps) small, head_few n (length steps), end_few n, length-append (head_text n (length steps)) (events_text (events_of steps) ++ end_text n), length-append (events_text (events_of steps)) (end_text n))

small-flips : (ps : List ℕ) → AllSmall (map flip ps)
small-flips [] = tt
small-flips (p ∷ ps) = (tt, small-flips ps)

abbrev AllShort : List Setting → Type 0
AllShort [] = Unit {0}
AllShort (v ∷ vs) = Short v × AllShort vs

small-settings : (i : ℕ) (vs : List Setting) → AllShort vs → AllSmall (settings_from i vs)
small-settings i [] h = tt
small-settings i (v ∷ vs) h = (h.0, small-settings (suc i) vs h.1)

small-step : (j s : ℕ) (vs : List Setting) (pa pb : List ℕ) → AllShort vs → AllSmall (step_events (bucket j s vs pa pb))
small-step j s vs pa pb h =
    (tt, small-append (settings_from 0 vs) _ (small-settings 0 vs h) (tt, small-append (map flip pa) _ (small-flips pa) (tt, small-append (map flip pb) _ (small-flips pb) (tt, tt))))

length-settings : (i : ℕ) (vs : List Setting) → length (settings_from i vs) ≡ length vs
length-settings i [] = refl
length-settings i (v ∷ vs) = ap suc (length-settings (suc i) vs)

length-events : (j s : ℕ) (vs : List Setting) (pa pb : List ℕ) → length (step_events (bucket j s vs pa pb)) ≡ length vs + length pa + length pb + 4
length-events j s vs pa pb =
    omega (
      arith,
      length-settings 0 vs,
      length-append (settings_from 0 vs) (row_a ∷ (map flip pa ++ (row_b ∷ (map flip pb ++ (end_bucket ∷ []))))),
      length-append (map flip pa) (row_b ∷ (map flip pb ++ (end_bucket ∷ []))),
      length-append (map flip pb) (end_bucket ∷ []),
      length-map pa flip,
      length-map pb flip,
    )

-- no more places than the range has
kept-few : (t : ℕ → Bool) (i n : ℕ) → length (kept t (up_from i n)) ≤ n
kept-few t i zero = omega arith
kept-few t i (suc n) = go (t i) (kept-few t (suc i) n)
  where
    go : (b : Bool) → length (kept t (up_from (suc i) n)) ≤ n → length (cond b (i ∷ kept t (up_from (suc i) n)) (kept t (up_from (suc i) n))) ≤ suc n
    go true h = omega arith
    go false h = omega arith

flags-few : (words : List ℕ) (k i n : ℕ) → length (flagged_from words k i n) ≤ n
flags-few words k i n = omega (arith, length-map (kept (flagged words k) (up_from i n)) (λ p. p - i), kept-few (flagged words k) i n)

-- what slots hold is short
abbrev pub ShortSlot : Slot → Type 0
ShortSlot none = Unit {0}
ShortSlot (some g) = Short g.1

abbrev ShortSlots : List Slot → Type 0
ShortSlots [] = Unit {0}
ShortSlots (x ∷ xs) = ShortSlot x × ShortSlots xs

module _ (hash : Hash) (blank : Setting) (hb : Short blank) where
  value_short : (s : ℕ) (xs : List Slot) → ShortSlots xs → (i : ℕ) → Short (value_at hash blank s (held_in xs) i)
  value_short s [] h i = hb
  value_short s (none ∷ xs) h i = value_short s xs h.1 i
  value_short s (some g ∷ xs) h i = go (eqb (slot_of hash s g.0) i) (value_short s xs h.1 i)
    where
      go : (b : Bool) → Short (value_at hash blank s (held_in xs) i) → Short (cond b g.1 (value_at hash blank s (held_in xs) i))
      go true r = h.0
      go false r = r

  module _ (slot : ℕ → ℕ → Slot) (hs : (j i : ℕ) → ShortSlot (slot j i)) (h : HeldPart) (hh : Short h.1) where
    put-short : (j i p q : ℕ) (g : HeldPart) → Short g.1 → ShortSlot (at2 slot j i (some g) p q)
    put-short j i p q g hg = go (eqb p j && eqb q i)
      where
        go : (b : Bool) → ShortSlot (cond b (some g) (slot p q))
        go true = hg
        go false = hs p q

    or_short : (x : Slot) → ShortSlot x → Short (held_or h x).1
    or_short none r = hh
    or_short (some g) r = r

    held-short : (plan : List Placing) (k : ℕ) → Short (held_at slot plan h k).1
    held-short plan k = go (eqb (k + 1) (length plan))
      where
        x : Slot
        x = slot (placing_at plan (k + 1)).bucket (placing_at plan (k + 1)).spot

        go : (b : Bool) → Short (cond b h (held_or h x)).1
        go true = hh
        go false = or_short x (hs _ _)

    module _ (z : Sizes) (plan : List Placing) (words : List ℕ) where
      value-few : (k i : ℕ) → Short (values_at z hash blank slot plan h words k i)
      value-few k i =
          let p = placement_at slot plan h k in
          let at : (q : ℕ) → ShortSlot (at2 slot p.into p.spot (some p.held) p.into q) = λ q. put-short p.into p.spot p.into q p.held (held-short plan k) in
          let row : ℕ → Slot = λ q. at2 slot p.into p.spot (some p.held) p.into q in
          value_short p.seed (row 0 ∷ row 1 ∷ row 2 ∷ row 3 ∷ []) (at 0, (at 1, (at 2, (at 3, tt)))) i

      -- one step, and all of them
      step-few : (k : ℕ) → AllSmall (step_events (shown_step z hash blank slot plan h words k)) × (length (step_events (shown_step z hash blank slot plan h words k)) ≤ 65544)
      unfolding shown_step
      step-few k =
          let vs = map (values_at z hash blank slot plan h words k) (0 ∷ 1 ∷ 2 ∷ 3 ∷ []) in
          let pa = flagged_from words k 0 z.a in
          let pb = flagged_from words k z.a z.b in
          let j = (placing_at plan k).bucket in
          let s = (placing_at plan k).seed in (
            small-step j s vs pa pb (value-few k 0, (value-few k 1, (value-few k 2, (value-few k 3, tt)))),
            omega (arith, z.few_a, z.few_b, flags-few words k 0 z.a, flags-few words k z.a z.b, length-events j s vs pa pb),
          )

      steps-few : (i n : ℕ) → AllSmall (events_of (map (shown_step z hash blank slot plan h words) (up_from i n))) × (length (events_of (map (shown_step z hash blank slot plan h words) (up_from i n))) ≤ 65544 * n)
      steps-few i zero = (tt, omega arith)
      steps-few i (suc n) =
          let one = step-few i in
          let more = steps-few (suc i) n in (
            small-append (step_events (shown_step z hash blank slot plan h words i)) (events_of (map (shown_step z hash blank slot plan h words) (up_from (suc i) n))) one.0 more.0,
            omega (arith, one.1, more.1, length-append (step_events (shown_step z hash blank slot plan h words i)) (events_of (map (shown_step z hash blank slot plan h words) (up_from (suc i) n)))),
          )

      -- the whole notice
      pub notice-few : (kind : Kind) (n : ℕ) → length plan ≤ 5 → notice_length kind n (shown_steps z hash blank slot plan h words) < 2 ^ 64 - 1
      notice-few kind n few = let all = steps-few 0 (length plan) in few_events kind n (shown_steps z hash blank slot plan h words) all.0 (omega (arith, all.1))

-- slots in code, whose settings are short
pub slots-short : {P S : Type 0} (bytes : P → List ℕ) (numbers : S → List ℕ) → ((s : S) → Short (numbers s)) → (xs : List (CodeOption (CodeHeld P S))) (j i : ℕ) → ShortSlot (slot_in bytes numbers xs j i)
slots-short bytes numbers h xs j i = go (ltb i 4) (get_or xs (4 * j + i) None)
  where
    go : (b : Bool) (x : CodeOption (CodeHeld _ _)) → ShortSlot (cond b (viewed bytes numbers x) none)
    go true None = tt
    go true (Some g) = h g.setting
    go false x = tt

pub length-shown : (z : Sizes) (hash : Hash) (blank : Setting) (slot : ℕ → ℕ → Slot) (plan : List Placing) (h : HeldPart) (words : List ℕ) → length (shown_steps z hash blank slot plan h words) ≡ length plan
length-shown z hash blank slot plan h words = length-map_up (shown_step z hash blank slot plan h words) 0 (length plan)

-- a printer that was shown a notice: `p` at its start, `q` behind the head, `w` behind the steps and `x` behind the end
pub notice_put : {S : Type 0} (each : S → ℕ → S) (kind : Kind) (n c : ℕ) (steps : List Step) (p q w x : Printer S)
    → length steps ≡ c → q ≡ put each p (head_text n c) → w ≡ fold (printed each) q (events_of steps) → x ≡ put each w (end_text n) → x ≡ put each p (notice_bytes kind n steps)
unfolding notice_bytes
notice_put each kind n c steps p q w x count head shown done = notice_printed each kind n c steps p q w x count head shown done

-- a ruler at its start, and after the notice
pub notice_ruled : (kind : Kind) (n : ℕ) (steps : List Step) (r s : Ruler) → r.len ≡ 0 → s ≡ poured ruled_byte r (notice_bytes kind n steps) → notice_length kind n steps < 2 ^ 64 - 1 → s.len ≡ notice_length kind n steps
unfolding notice_length notice_bytes
notice_ruled kind n steps r s start ruled few = rule_finished r s (notice_text kind n steps) start ruled (below (length (notice_text kind n steps)) few)
  where
    below : (m : ℕ) → m < 2 ^ 64 - 1 → m < 2 ^ 64
    below m h = omega arith
