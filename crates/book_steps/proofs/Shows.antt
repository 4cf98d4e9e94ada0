-- What a pass is shown, one piece after the other.
use Rattle.std.proofs.Common.{◌≡◌, ℕ, zero, suc, ◌+◌, ◌-◌, ◌/◌, ◌%◌, ◌^◌, ◌<◌, ◌≤◌, Bool, true, false, cond, eqb, List, [], ◌∷◌, ◌++◌, map, length, take, drop, fold, sym, refl, ap, ◌∙◌, ap₂, zero-add, arith, length-take, length-drop}
use Rattle.std.proofs.lemmas.List.{get_or-drop, get_or-take}
use Rattle.shared.specs.Lists.{up_from, kept}
use Rattle.shared.specs.Notice.{Setting, Step, bucket}
use Rattle.chain_laws.proofs.Ranges.{up_more, up_none}
use Rattle.shared_text.specs.Events.{Event, begin_bucket, setting_at, row_a, row_b, flip, end_bucket, settings_from, step_events, events_of}
use Rattle.std.proofs.lemmas.List.Sums.{fold-append}
use Rattle.book_steps.proofs.Fours.{four, four-more, four-end}
use Rattle.book_steps.specs.Plans.{flagged, flagged_from}

module _ {V : Type 0} (after : V → Event → V) (words : List ℕ) (step : ℕ) where
  -- the flagged places from p on
  abbrev pub rest : ℕ → List Event
  rest p = map flip (map (λ q. q - 0) (kept (flagged words step) (up_from p (length words - p))))

  at_place : (p : ℕ) (b : Bool) → p < length words → b ≡ flagged words step p → rest p ≡ map flip (map (λ q. q - 0) (cond b (p ∷ kept (flagged words step) (up_from (p + 1) (length words - (p + 1)))) (kept (flagged words step) (up_from (p + 1) (length words - (p + 1))))))
  at_place p b h e =
      ap (λ (l : List ℕ). map flip (map (λ q. q - 0) (kept (flagged words step) l))) (up_more p (length words) h)
      ∙ ap (λ (c : Bool). map flip (map (λ q. q - 0) (cond c (p ∷ kept (flagged words step) (up_from (p + 1) (length words - (p + 1)))) (kept (flagged words step) (up_from (p + 1) (length words - (p + 1))))))) (sym e)

  pub row-flip : (p : ℕ) (v : V) → p < length words → true ≡ flagged words step p → fold after v (rest p) ≡ fold after (after v (flip p)) (rest (p + 1))
  row-flip p v h e =
      let s : p - 0 ≡ p = omega arith in
      ap (fold after v) (at_place p true h e) ∙ ap (λ (q : ℕ). fold after (after v (flip q)) (rest (p + 1))) s

  pub row-pass : (p : ℕ) (v : V) → p < length words → false ≡ flagged words step p → fold after v (rest p) ≡ fold after v (rest (p + 1))
  row-pass p v h e = ap (fold after v) (at_place p false h e)

  pub row-end : (p : ℕ) (v : V) → length words ≤ p → fold after v (rest p) ≡ v
  row-end p v h = ap (λ (l : List ℕ). fold after v (map flip (map (λ q. q - 0) (kept (flagged words step) l)))) (up_none p (length words) h)

-- the settings from slot k on
module _ {V : Type 0} (after : V → Event → V) (f : ℕ → Setting) where
  abbrev pub settings : ℕ → List Event
  settings k = settings_from k (drop k (four f))

  pub settings-more : (k : ℕ) (v : V) (x : Setting) → k < 4 → x ≡ f k → fold after v (settings k) ≡ fold after (after v (setting_at k x)) (settings (k + 1))
  settings-more k v x h e =
      let p : suc k ≡ k + 1 = omega arith in
      ap (λ (l : List Setting). fold after v (settings_from k l)) (four-more f k h ∙ ap (λ (y : Setting). y ∷ drop (k + 1) (four f)) (sym e))
      ∙ ap (λ (n : ℕ). fold after (after v (setting_at k x)) (settings_from n (drop (k + 1) (four f)))) p

  pub settings-end : (k : ℕ) (v : V) → 4 ≤ k → fold after v (settings k) ≡ v
  settings-end k v h = ap (λ (l : List Setting). fold after v (settings_from k l)) (four-end f k h)

-- the steps from step k on
module _ {V : Type 0} (after : V → Event → V) (f : ℕ → Step) (n : ℕ) where
  abbrev pub steps : ℕ → List Event
  steps k = events_of (map f (up_from k (n - k)))

  pub steps-more : (k : ℕ) (v : V) → k < n → fold after v (steps k) ≡ fold after (fold after v (step_events (f k))) (steps (k + 1))
  steps-more k v h = ap (λ (l : List ℕ). fold after v (events_of (map f l))) (up_more k n h) ∙ fold-append after v (step_events (f k)) (steps (k + 1))

  pub steps-end : (k : ℕ) (v : V) → n ≤ k → fold after v (steps k) ≡ v
  steps-end k v h = ap (λ (l : List ℕ). fold after v (events_of (map f l))) (up_none k n h)

  pub steps_all : (v : V) → fold after v (steps 0) ≡ fold after v (events_of (map f (up_from 0 n)))
  steps_all v = let s : n - 0 ≡ n = omega arith in ap (λ (m : ℕ). fold after v (events_of (map f (up_from 0 m)))) s

-- the pieces of a bucket step
pub step-shown : {V : Type 0} (after : V → Event → V) (v : V) (j s : ℕ) (vs : List Setting) (pa pb : List ℕ)
    → fold after v (step_events (bucket j s vs pa pb))
    ≡ after (fold after (after (fold after (after (fold after (after v (begin_bucket j s)) (settings_from 0 vs)) row_a) (map flip pa)) row_b) (map flip pb)) end_bucket
step-shown after v j s vs pa pb =
    fold-append after (after v (begin_bucket j s)) (settings_from 0 vs) (row_a ∷ (map flip pa ++ (row_b ∷ (map flip pb ++ (end_bucket ∷ [])))))
    ∙ fold-append after _ (map flip pa) (row_b ∷ (map flip pb ++ (end_bucket ∷ [])))
    ∙ fold-append after _ (map flip pb) (end_bucket ∷ [])

-- the flagged places of a part of the words that begins at a
moved-kept : (us ws : List ℕ) (k a i n : ℕ) → ((p : ℕ) → i ≤ p → p < i + n → flagged us k p ≡ flagged ws k (a + p)) → map (λ p. p - 0) (kept (flagged us k) (up_from i n)) ≡ map (λ p. p - a) (kept (flagged ws k) (up_from (a + i) n))
moved-kept us ws k a i zero h = refl
moved-kept us ws k a i (suc n) h = go (flagged us k i) (flagged ws k (a + i)) (h i (omega arith) (omega arith)) (moved-kept us ws k a (suc i) n (λ p l m. h p (omega arith) (omega arith)))
  where
    onward : map (λ p. p - a) (kept (flagged ws k) (up_from (a + suc i) n)) ≡ map (λ p. p - a) (kept (flagged ws k) (up_from (suc (a + i)) n))
    onward = let next : a + suc i ≡ suc (a + i) = omega arith in ap (λ (j : ℕ). map (λ p. p - a) (kept (flagged ws k) (up_from j n))) next

    go : (b c : Bool) → b ≡ c → map (λ p. p - 0) (kept (flagged us k) (up_from (suc i) n)) ≡ map (λ p. p - a) (kept (flagged ws k) (up_from (a + suc i) n))
        → map (λ p. p - 0) (cond b (i ∷ kept (flagged us k) (up_from (suc i) n)) (kept (flagged us k) (up_from (suc i) n)))
        ≡ map (λ p. p - a) (cond c ((a + i) ∷ kept (flagged ws k) (up_from (suc (a + i)) n)) (kept (flagged ws k) (up_from (suc (a + i)) n)))
    go true true e rest = let first : i - 0 ≡ a + i - a = omega arith in ap₂ (λ (p : ℕ) (l : List ℕ). p ∷ l) first (rest ∙ onward)
    go false false e rest = rest ∙ onward
    go true false e rest = cc
    go false true e rest = cc

-- the flagged places of the two parts of the words
pub row-a : (ws : List ℕ) (k a : ℕ) → a ≤ length ws → flagged_from (take a ws) k 0 (length (take a ws)) ≡ flagged_from ws k 0 a
row-a ws k a h =
    let all : length (take a ws) ≡ a = omega (arith, length-take a ws) in
    ap (flagged_from (take a ws) k 0) all
    ∙ moved-kept (take a ws) ws k 0 0 a (λ p l m. ap (λ (w : ℕ). eqb (w / 2 / 2 ^ k % 2) 1) (get_or-take a ws p 0 (omega arith)) ∙ ap (flagged ws k) (sym (zero-add p)))

pub row-b : (ws : List ℕ) (k a b : ℕ) → length ws ≡ a + b → flagged_from (drop a ws) k 0 (length (drop a ws)) ≡ flagged_from ws k a b
row-b ws k a b h =
    let all : length (drop a ws) ≡ b = omega (arith, length-drop a ws) in
    let start : a + 0 ≡ a = omega arith in
    ap (flagged_from (drop a ws) k 0) all
    ∙ moved-kept (drop a ws) ws k a 0 b (λ p l m. ap (λ (w : ℕ). eqb (w / 2 / 2 ^ k % 2) 1) (get_or-drop a ws p 0))
    ∙ ap (λ (i : ℕ). map (λ p. p - a) (kept (flagged ws k) (up_from i b))) start

pub step-pieces : {V : Type 0} (after : V → Event → V) (v0 v1 v2 v3 v4 v5 v6 v7 : V) (j s s' : ℕ) (vs vs' : List Setting) (pa pa' pb pb' : List ℕ)
    → v1 ≡ after v0 (begin_bucket j s') → s' ≡ s → v2 ≡ fold after v1 (settings_from 0 vs') → vs' ≡ vs
    → v3 ≡ after v2 row_a → v4 ≡ fold after v3 (map flip pa') → pa' ≡ pa → v5 ≡ after v4 row_b → v6 ≡ fold after v5 (map flip pb') → pb' ≡ pb → v7 ≡ after v6 end_bucket
    → v7 ≡ fold after v0 (step_events (bucket j s vs pa pb))
step-pieces after v0 v1 v2 v3 v4 v5 v6 v7 j s s' vs vs' pa pa' pb pb' e1 es e2 evs e3 e4 ea e5 e6 eb e7 =
    let a2 : v2 ≡ fold after (after v0 (begin_bucket j s)) (settings_from 0 vs) = e2 ∙ ap₂ (λ v l. fold after v (settings_from 0 l)) (e1 ∙ ap (λ (n : ℕ). after v0 (begin_bucket j n)) es) evs in
    let a4 : v4 ≡ fold after (after v2 row_a) (map flip pa) = e4 ∙ ap₂ (λ v (l : List ℕ). fold after v (map flip l)) e3 ea in
    let a6 : v6 ≡ fold after (after v4 row_b) (map flip pb) = e6 ∙ ap₂ (λ v (l : List ℕ). fold after v (map flip l)) e5 eb in
    e7
    ∙ ap (λ v. after v end_bucket) (a6 ∙ ap (λ v. fold after (after v row_b) (map flip pb)) (a4 ∙ ap (λ v. fold after (after v row_a) (map flip pa)) a2))
    ∙ sym (step-shown after v0 j s vs pa pb)
