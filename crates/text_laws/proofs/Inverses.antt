-- Reading and writing are inverse, for each way to make a form.
use Rattle.std.proofs.Common.{◌≡◌, ℕ, zero, suc, ◌+◌, ◌^◌, ◌<◌, ◌≤◌, Bool, true, cond, ◌&&◌, List, [], ◌∷◌, ◌++◌, length, drop, Ok, sym, refl, ap, ◌∙◌, subst, ⊎_elim, arith, length-drop}
use mathlib.Core.Option.{Option, none, some}
use Rattle.std.proofs.lemmas.List.{length-append}
use Rattle.std.proofs.lemmas.Bool.{cond-true, cond-false, cases_Bool, false≢true, and_parts, and_from}
use Rattle.shared.specs.Limits.{between}
use Rattle.shared.specs.Tokens.{Close, Space, Tok, mark, word, stray, end, token_of, size, is_mark, numeral, number_in, spell}
use Rattle.shared.specs.Forms.{and_then, toks_at, token_number, or_wrong, num_at, Form, num, lead, trail, pair, times_at, times_tokens, times_fits, times, series_tokens, series_fits, series, ascending_at, ascending_tokens, ascends, ascending, tok_at, judged}
use Rattle.text_laws.specs.Texts.{Toks, Inverse, literal}
use Rattle.text_laws.proofs.Numbers.{reads_back, canonical}
use Rattle.text_laws.proofs.Readings.{then_parts, then_ok, ok_same, seq_parts, seq_ok, toks_append, toks_split, toks_sound, tok_sound, tok_complete, toks_complete, mark_is, mark_same, cond-ok}
use Rattle.text_laws.proofs.Spelled.{toks_text}

-- the number of a token
num-found : (low high : ℕ) → high < 2 ^ 64 → (t : Tok) (at to n : ℕ) → or_wrong (token_number low high t) t at ≡ Ok (n, to) → (between low high n ≡ true) × (t ≡ word (numeral n)) × (at + size t ≡ to)
num-found low high b (mark k) at to n e = let z : ◌≡◌ {A = ℕ} 0 1 = cc in absurd (omega arith)
num-found low high b (word w) at to n e = go (number_in low high w) refl e
  where
    go : (o : Option ℕ) → number_in low high w ≡ o → or_wrong o (word w) at ≡ Ok (n, to) → (between low high n ≡ true) × (word w ≡ word (numeral n)) × (at + size (word w) ≡ to)
    go none q d = let z : ◌≡◌ {A = ℕ} 0 1 = cc in absurd (omega arith)
    go (some k) q d =
        let d2 = ok_same _ _ d in
        let s : k ≡ n = ap (λ x. x.0) d2 in
        let c = canonical low high n w b (q ∙ ap some s) in
        (c.1, ap word c.0, ap (λ x. x.1) d2)
num-found low high b stray at to n e = let z : ◌≡◌ {A = ℕ} 0 1 = cc in absurd (omega arith)
num-found low high b end at to n e = let z : ◌≡◌ {A = ℕ} 0 1 = cc in absurd (omega arith)

pub num-inverse : (low high : ℕ) → high < 2 ^ 64 → Inverse (num low high)
num-inverse low high b =
    record {
      sound = λ text at to n e. let p = num-found low high b (token_of (drop at text)) at to n e in (p.0, (p.1, ap (λ t. at + size t) (sym p.1) ∙ p.2));
      complete = λ text at to n f p.
          ap (λ t. or_wrong (token_number low high t) t at) p.0 ∙ ap (λ o. or_wrong o (word (numeral n)) at) (reads_back low high n b f) ∙ ap (λ k. Ok (n, k)) p.1;
    }

pub lead-inverse : {X : Type 0} (ts : List Tok) (s : Form X) → literal ts ≡ true → Inverse s → Inverse (lead ts s)
lead-inverse ts s l i =
    record {
      sound = λ text at to x e.
          let p = then_parts (toks_at ts text at) (λ k. s.reads text k) (x, to) e in
          let q = i.sound text p.0 to x p.2 in
          (q.0, toks_append text at p.0 to ts (s.tokens x) (toks_sound ts text at p.0 p.1) q.1);
      complete = λ text at to x f h.
          let p = toks_split text at to ts (s.tokens x) h in
          then_ok (toks_at ts text at) (λ k. s.reads text k) p.0 (toks_complete ts text at p.0 l p.1) ∙ i.complete text p.0 to x f p.2;
    }

pub trail-inverse : {X : Type 0} (s : Form X) (ts : List Tok) → literal ts ≡ true → Inverse s → Inverse (trail s ts)
trail-inverse {X} s ts l i =
    record {
      sound = λ text at to x e.
          let p = then_parts (s.reads text at) (λ y. and_then (toks_at ts text y.1) (λ k. Ok (y.0, k))) (x, to) e in
          let r = then_parts (toks_at ts text p.0.1) (λ k. Ok (p.0.0, k)) (x, to) p.2 in
          let q = i.sound text at p.0.1 p.0.0 p.1 in
          subst (λ (z : X × ℕ). (s.fits z.0 ≡ true) × Toks text at z.1 (s.tokens z.0 ++ ts)) (ok_same (p.0.0, r.0) (x, to) r.2)
          (q.0, toks_append text at p.0.1 r.0 (s.tokens p.0.0) ts q.1 (toks_sound ts text p.0.1 r.0 r.1));
      complete = λ text at to x f h.
          let p = toks_split text at to (s.tokens x) ts h in
          then_ok (s.reads text at) (λ y. and_then (toks_at ts text y.1) (λ k. Ok (y.0, k))) (x, p.0) (i.complete text at p.0 x f p.1)
          ∙ then_ok (toks_at ts text p.0) (λ k. Ok (x, k)) to (toks_complete ts text p.0 to l p.2);
    }

pub pair-inverse : {X Y : Type 0} (s : Form X) (t : Form Y) → Inverse s → Inverse t → Inverse (pair s t)
pair-inverse {X} {Y} s t i j =
    record {
      sound = λ text at to v e.
          let p = seq_parts s.reads (λ _. t.reads) (λ x y. (x, y)) text at to v e in
          let q = i.sound text at p.1 p.0 p.3 in
          let u = j.sound text p.1 to p.2 p.4 in
          subst (λ (w : X × Y). ((s.fits w.0 && t.fits w.1) ≡ true) × Toks text at to (s.tokens w.0 ++ t.tokens w.1)) p.5
          (and_from (s.fits p.0) (t.fits p.2) q.0 u.0, toks_append text at p.1 to (s.tokens p.0) (t.tokens p.2) q.1 u.1);
      complete = λ text at to v f h.
          let p = toks_split text at to (s.tokens v.0) (t.tokens v.1) h in
          let g = and_parts (s.fits v.0) (t.fits v.1) f in
          seq_ok s.reads (λ _. t.reads) (λ x y. (x, y)) text at p.0 to v.0 v.1 (i.complete text at p.0 v.0 g.0 p.1) (j.complete text p.0 to v.1 g.1 p.2);
    }

module _ {X : Type 0} (s : Form X) (i : Inverse s) where
  times-sound : (k : ℕ) (text : List ℕ) (at to : ℕ) (xs : List X) → times_at k s text at ≡ Ok (xs, to) → (times_fits s k xs ≡ true) × Toks text at to (times_tokens s xs)
  times-sound zero text at to xs e =
      subst (λ (z : List X × ℕ). (times_fits s zero z.0 ≡ true) × Toks text at z.1 (times_tokens s z.0)) (ok_same ([], at) (xs, to) e) (refl, refl)
  times-sound (suc k) text at to xs e =
      let p = seq_parts s.reads (λ _. times_at k s) (λ y ys. y ∷ ys) text at to xs e in
      let q = i.sound text at p.1 p.0 p.3 in
      let u = times-sound k text p.1 to p.2 p.4 in
      subst (λ ys. (times_fits s (suc k) ys ≡ true) × Toks text at to (times_tokens s ys)) p.5
      (and_from (s.fits p.0) (times_fits s k p.2) q.0 u.0, toks_append text at p.1 to (s.tokens p.0) (times_tokens s p.2) q.1 u.1)

  times-complete : (k : ℕ) (text : List ℕ) (at to : ℕ) (xs : List X) → times_fits s k xs ≡ true → Toks text at to (times_tokens s xs) → times_at k s text at ≡ Ok (xs, to)
  times-complete zero text at to [] f h = ap (λ j. Ok ([], j)) h
  times-complete zero text at to (x ∷ xs) f h = absurd (false≢true f)
  times-complete (suc k) text at to [] f h = absurd (false≢true f)
  times-complete (suc k) text at to (x ∷ xs) f h =
      let p = toks_split text at to (s.tokens x) (times_tokens s xs) h in
      let g = and_parts (s.fits x) (times_fits s k xs) f in
      seq_ok s.reads (λ _. times_at k s) (λ y ys. y ∷ ys) text at p.0 to x xs (i.complete text at p.0 x g.0 p.1) (times-complete k text p.0 to xs g.1 p.2)

  pub times-inverse : (k : ℕ) → Inverse (times k s)
  times-inverse k = record { sound = times-sound k; complete = times-complete k }

pub times-lead : {X : Type 0} (ts : List Tok) (s : Form X) (k : ℕ) (xs : List X) → times_fits (lead ts s) k xs ≡ times_fits s k xs
times-lead ts s zero [] = refl
times-lead ts s zero (x ∷ xs) = refl
times-lead ts s (suc k) [] = refl
times-lead ts s (suc k) (x ∷ xs) = ap (λ b. s.fits x && b) (times-lead ts s k xs)

pub series-inverse : {X : Type 0} (more : ℕ) (s : Form X) → Inverse s → Inverse (series more s)
series-inverse {X} more s i =
    record {
      sound = λ text at to xs e.
          let p = seq_parts s.reads (λ _. times_at more spaced) (λ y ys. y ∷ ys) text at to xs e in
          let q = i.sound text at p.1 p.0 p.3 in
          let u = rests.sound text p.1 to p.2 p.4 in
          subst (λ ys. (series_fits s more ys ≡ true) × Toks text at to (series_tokens s ys)) p.5
          (and_from (s.fits p.0) (times_fits s more p.2) q.0 (sym (times-lead gap s more p.2) ∙ u.0), toks_append text at p.1 to (s.tokens p.0) (times_tokens spaced p.2) q.1 u.1);
      complete = λ text at to xs f h. all text at to xs f h;
    }
  where
    gap : List Tok
    gap = mark Space ∷ []

    spaced : Form X
    spaced = lead gap s

    rests : Inverse (times more spaced)
    rests = times-inverse spaced (lead-inverse gap s refl i) more

    all : (text : List ℕ) (at to : ℕ) (xs : List X) → series_fits s more xs ≡ true → Toks text at to (series_tokens s xs) → (series more s).reads text at ≡ Ok (xs, to)
    all text at to [] f h = absurd (false≢true f)
    all text at to (x ∷ xs) f h =
        let p = toks_split text at to (s.tokens x) (times_tokens spaced xs) h in
        let g = and_parts (s.fits x) (times_fits s more xs) f in
        seq_ok s.reads (λ _. times_at more spaced) (λ y ys. y ∷ ys) text at p.0 to x xs (i.complete text at p.0 x g.0 p.1) (rests.complete text p.0 to xs (times-lead gap s more xs ∙ g.1) p.2)

pub judged-inverse : {X : Type 0} (test : X → Bool) (s : Form X) → Inverse s → Inverse (judged test s)
judged-inverse {X} test s i =
    record {
      sound = λ text at to x e.
          let p = then_parts (s.reads text at) (λ y. cond (test y.0) (Ok y) _) (x, to) e in
          let q = cond-ok (test p.0.0) p.0 (x, to) _ p.2 in
          let u = i.sound text at p.0.1 p.0.0 p.1 in
          subst (λ (z : X × ℕ). ((s.fits z.0 && test z.0) ≡ true) × Toks text at z.1 (s.tokens z.0)) q.1 (and_from (s.fits p.0.0) (test p.0.0) u.0 q.0, u.1);
      complete = λ text at to x f h.
          let g = and_parts (s.fits x) (test x) f in
          then_ok (s.reads text at) (λ y. cond (test y.0) (Ok y) _) (x, to) (i.complete text at to x g.0 h) ∙ cond-true (test x) (Ok (x, to)) _ g.1;
    }

-- the tokens of n places take more than n bytes
places-long : (ps : List ℕ) → length ps ≤ length (spell (ascending_tokens ps))
places-long [] = omega arith
places-long (p ∷ ps) = omega (arith, places-long ps, length-append (numeral p) (spell (ascending_tokens ps)))

module _ (high : ℕ) (b : high < 2 ^ 64) where
  ascending-sound : (fuel low : ℕ) (text : List ℕ) (at to : ℕ) (ps : List ℕ) → ascending_at fuel low high text at ≡ Ok (ps, to) → (ascends low high ps ≡ true) × Toks text at to (ascending_tokens ps)
  ascending-sound zero low text at to ps e = let z : ◌≡◌ {A = ℕ} 0 1 = cc in absurd (omega arith)
  ascending-sound (suc fuel) low text at to ps e =
      ⊎_elim
      (λ s.
      let p = seq_parts (num_at low high) (λ n. ascending_at fuel (n + 1) high) (λ n ns. n ∷ ns) text (at + 1) to ps (sym (cond-true (is_mark Space (token_of (drop at text))) _ _ s) ∙ e) in
      let m = (num-inverse low high b).sound text (at + 1) p.1 p.0 p.3 in
      let u = ascending-sound fuel (p.0 + 1) text p.1 to p.2 p.4 in
      subst (λ ns. (ascends low high ns ≡ true) × Toks text at to (ascending_tokens ns)) p.5 (
        and_from (between low high p.0) (ascends (p.0 + 1) high p.2) m.0 u.0,
        (mark_is Space (token_of (drop at text)) s, (m.1.0, subst (λ j. Toks text j to (ascending_tokens p.2)) (sym m.1.1) u.1)),
      ))
      (λ s.
      let p = then_parts (tok_at (mark Close) text at) (λ j. Ok ([], j)) (ps, to) (sym (cond-false (is_mark Space (token_of (drop at text))) _ _ s) ∙ e) in
      subst (λ (x : List ℕ × ℕ). (ascends low high x.0 ≡ true) × Toks text at x.1 (ascending_tokens x.0)) (ok_same ([], p.0) (ps, to) p.2) (refl, tok_sound (mark Close) text at p.0 p.1))
      (cases_Bool (is_mark Space (token_of (drop at text))))

  ascending-complete : (fuel low : ℕ) (text : List ℕ) (at to : ℕ) (ps : List ℕ) → length ps < fuel → ascends low high ps ≡ true → Toks text at to (ascending_tokens ps) → ascending_at fuel low high text at ≡ Ok (ps, to)
  ascending-complete zero low text at to ps l a h = absurd (omega arith)
  ascending-complete (suc fuel) low text at to [] l a h =
      cond-false (is_mark Space (token_of (drop at text))) _ _ (ap (is_mark Space) h.0)
      ∙ then_ok (tok_at (mark Close) text at) (λ j. Ok ([], j)) to (tok_complete (mark Close) text at refl h.0 ∙ ap Ok h.1)
  ascending-complete (suc fuel) low text at to (p ∷ ps) l a h =
      let c = and_parts (between low high p) (ascends (p + 1) high ps) a in
      let j = at + 1 + size (word (numeral p)) in
      cond-true (is_mark Space (token_of (drop at text))) _ _ (mark_same Space _ h.0)
      ∙ seq_ok (num_at low high) (λ n. ascending_at fuel (n + 1) high) (λ n ns. n ∷ ns) text (at + 1) j to p ps ((num-inverse low high b).complete text (at + 1) j p c.0 (h.1.0, refl))
      (ascending-complete fuel (p + 1) text j to ps (omega arith) c.1 h.1.1)

  pub ascending-inverse : Inverse (ascending high)
  ascending-inverse =
      record {
        sound = λ text at to ps e. ascending-sound (length text + 1) 0 text at to ps e;
        complete = λ text at to ps f h.
            ascending-complete (length text + 1) 0 text at to ps
            (omega (arith, places-long ps, length-append (spell (ascending_tokens ps)) (drop to text), ap length (toks_text text at to (ascending_tokens ps) h), length-drop at text)) f h;
      }
