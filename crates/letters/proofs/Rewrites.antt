-- A notice that is read and written again.
use Rattle.std.proofs.Common.{◌≡◌, ℕ, suc, ◌+◌, ◌≤◌, ◌&&◌, List, [], ◌∷◌, ◌++◌, map, length, Ok, Err, fold, Result, sym, refl, ap, ◌∙◌, arith}
use native.Mathlib.Nat.{min-eq_left}
use Rattle.std.proofs.lemmas.Bool.{and_parts}
use Rattle.shared.specs.declared.refusal.Fault.{Fault}
use Rattle.shared.specs.Limits.{between}
use Rattle.shared.specs.Notice.{Setting, Step, bucket, single, Notice, step_form, notice_text, read_notice}
use Rattle.shared.specs.Forms.{times_fits}
use Rattle.shared.proofs.Words.{between-parts}
use Rattle.std.proofs.lemmas.List.Sums.{fold-append}
use Rattle.shared_text.specs.Events.{Event, row_a, row_b, flip, end_bucket, settings_from, step_events, events_of}
use Rattle.shared_notice.specs.Walks.{with_number, passed}
use Rattle.text_laws.proofs.Faithful.{faithful}
use Rattle.letters.specs.declared.StepCount.{StepCount}
use Rattle.shared_pen.specs.declared.printer.Printer.{Printer}
use Rattle.shared_pen.specs.Pens.{head_text, end_text}
use Rattle.shared_pen.specs.Prints.{put, printed}
use Rattle.shared_pen.proofs.Printed.{notice_printed}
use Rattle.letters.specs.declared.Head.{Head}
use Rattle.letters.specs.Counts.{more, counted, Headed}
use Rattle.letters.specs.Letters.{trims, read_text, letter_text}

-- what a pass answered tells what was read
pub read_fault : {V : Type 0} (after : V → Event → V) (v : V) (f : Fault) (x : Result Notice Fault) → Err f ≡ passed after v x → x ≡ Err f
read_fault after v f (Ok m) e = cc
read_fault after v f (Err g) e = cc

pub read_notice_lem : {V : Type 0} (after : V → Event → V) (v w : V) (n : ℕ) (x : Result Notice Fault) → Ok (n, w) ≡ passed after v x → (m : Notice) × (x ≡ Ok m) × (n ≡ m.0) × (w ≡ fold after v (events_of m.1))
read_notice_lem {V} after v w n (Ok m) e =
    let same : ◌≡◌ {A = ℕ × V} (n, w) (m.0, fold after v (events_of m.1)) = cc in
    (m, refl, ap (λ (q : ℕ × V). q.0) same, ap (λ (q : ℕ × V). q.1) same)
read_notice_lem after v w n (Err g) e = let z : ◌≡◌ {A = ℕ} 0 1 = cc in absurd (omega arith)

pub read_again : {V : Type 0} (after : V → Event → V) (v w : V) (r : Result ℕ Fault) (m : Notice) → with_number w r ≡ passed after v (Ok m) → w ≡ fold after v (events_of m.1)
read_again {V} after v w (Ok k) m e =
    let same : ◌≡◌ {A = ℕ × V} (k, w) (m.0, fold after v (events_of m.1)) = cc in
    ap (λ (q : ℕ × V). q.1) same
read_again after v w (Err g) m e = let z : ◌≡◌ {A = ℕ} 0 1 = cc in absurd (omega arith)

-- counting
count_settings : (c : StepCount) (i : ℕ) (vs : List Setting) → fold counted c (settings_from i vs) ≡ c
count_settings c i [] = refl
count_settings c i (v ∷ vs) = count_settings c (suc i) vs

count_flips : (c : StepCount) (ps : List ℕ) → fold counted c (map flip ps) ≡ c
count_flips c [] = refl
count_flips c (p ∷ ps) = count_flips c ps

count_step : (c : StepCount) (s : Step) → fold counted c (step_events s) ≡ more c
count_step c (bucket j s vs pa pb) =
    fold-append counted (more c) (settings_from 0 vs) (row_a ∷ (map flip pa ++ (row_b ∷ (map flip pb ++ (end_bucket ∷ [])))))
    ∙ ap (λ (d : StepCount). fold counted d (map flip pa ++ (row_b ∷ (map flip pb ++ (end_bucket ∷ []))))) (count_settings (more c) 0 vs)
    ∙ fold-append counted (more c) (map flip pa) (row_b ∷ (map flip pb ++ (end_bucket ∷ [])))
    ∙ ap (λ (d : StepCount). fold counted d (map flip pb ++ (end_bucket ∷ []))) (count_flips (more c) pa)
    ∙ fold-append counted (more c) (map flip pb) (end_bucket ∷ [])
    ∙ count_flips (more c) pb
count_step c (single j i v) = refl

pub count_steps : (ss : List Step) (c : StepCount) → c.steps + length ss ≤ 255 → (fold counted c (events_of ss)).steps ≡ c.steps + length ss
count_steps [] c h = omega arith
count_steps (s ∷ ss) c h =
    let one : (more c).steps ≡ c.steps + 1 = min-eq_left (omega arith) in
    ap (λ (d : StepCount). d.steps) (fold-append counted c (step_events s) (events_of ss) ∙ ap (λ (d : StepCount). fold counted d (events_of ss)) (count_step c s))
    ∙ count_steps ss (more c) (omega arith)
    ∙ omega arith

-- a notice has five steps at the most
pub few_steps : (text : List ℕ) (n : ℕ) (ss : List Step) → read_notice trims text ≡ Ok (n, ss) → length ss ≤ 5
few_steps text n ss e =
    let fits = ((faithful trims).own text n ss e).0 in
    let head = (and_parts (between 1 4000000000 n && between 0 5 (length ss)) (times_fits (step_form trims) (length ss) ss) fits).0 in
    (between-parts 0 5 (length ss) (and_parts (between 1 4000000000 n) (between 0 5 (length ss)) head).1).1

-- what the counting pass tells
pub head_read : (text : List ℕ) (n : ℕ) (v w : StepCount) → v.steps ≡ 0 → Ok (n, w) ≡ passed counted v (read_notice trims text) → Headed text (record { number = n; steps = w.steps })
head_read text n v w z e =
    let got = read_notice_lem counted v w n (read_notice trims text) e in
    let m = got.0 in
    let reads : read_notice trims text ≡ Ok (n, m.1) = got.1 ∙ ap (λ (k : ℕ). Ok (k, m.1)) (sym got.2) in
    let few : length m.1 ≤ 5 = few_steps text n m.1 reads in
    let all : w.steps ≡ v.steps + length m.1 = ap (λ (x : StepCount). x.steps) got.3 ∙ count_steps m.1 v (omega arith) in
    record { steps = m.1; reads = reads; count = omega arith }

-- what the writing pass leaves: `p` is the pen at its start, `q` behind the head, `w` behind the steps
module _ (text : List ℕ) (head : Head) (h : Headed text head) where
  pub letter_is : letter_text text ≡ notice_text trims head.number h.steps
  unfolding letter_text
  letter_is = ap read_text h.reads

  pub letter_own : letter_text text ≡ text
  letter_own = letter_is ∙ sym ((faithful trims).own text head.number h.steps h.reads).1

  pub letter_printed : {S : Type 0} (each : S → ℕ → S) (p q w : Printer S) (r : Result ℕ Fault) → q ≡ put each p (head_text head.number head.steps) → with_number w r ≡ passed (printed each) q (read_notice trims text) → put each w (end_text head.number) ≡ put each p (letter_text text)
  letter_printed {S} each p q w r a e =
      let steps_on : w ≡ fold (printed each) q (events_of h.steps) = read_again (printed each) q w r (head.number, h.steps) (e ∙ ap (passed (printed each) q) h.reads) in
      notice_printed each trims head.number head.steps h.steps p q w (put each w (end_text head.number)) h.count a steps_on refl
      ∙ ap (put each p) (sym letter_is)
