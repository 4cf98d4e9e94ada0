-- The laws of whole notices.
use Rattle.std.proofs.Common.{◌≡◌, ℕ, zero, suc, ◌^◌, ◌<◌, true, false, ◌&&◌, List, [], ◌∷◌, ◌++◌, length, Ok, Err, sym, refl, ap, ◌∙◌, subst, ⊎_elim, arith}
use Rattle.std.proofs.lemmas.List.{append_assoc, append-nil}
use Rattle.std.proofs.lemmas.Bool.{false≢true, and_parts, and_from}
use Rattle.shared.specs.declared.refusal.Fault.{Fault}
use Rattle.shared.specs.Limits.{between}
use Rattle.shared.specs.Forms.{Form, and_then, times, times_at, times_tokens, times_fits}
use Rattle.shared.specs.Notice.{Kind, Step, step_form, head_form, end_form, Notice, notice_form}
use Rattle.text_laws.specs.Texts.{Toks, HasBlank}
use Rattle.text_laws.specs.Faults.{Unlawful, Undecided}
use Rattle.shared.proofs.Words.{between-from, between-parts}
use Rattle.text_laws.proofs.Readings.{then_parts, then_ok, then_err, map-err, seq_at, seq_parts, seq_ok, toks_append, toks_split}
use Rattle.text_laws.proofs.Lexed.{Stands, both}
use Rattle.text_laws.proofs.Points.{Points, form_steady, then_points, map-points}
use Rattle.text_laws.proofs.Begins.{Opening, Opens, carried}
use Rattle.text_laws.proofs.Laws.{times-lawful}
use Rattle.text_laws.proofs.Notices.{roomy, Good, step-lawful, head_lawful, end_lawful}

times-length : {X : Type 0} (s : Form X) (k : ℕ) (xs : List X) → times_fits s k xs ≡ true → length xs ≡ k
times-length s zero [] f = refl
times-length s zero (x ∷ xs) f = absurd (false≢true f)
times-length s (suc k) [] f = absurd (false≢true f)
times-length s (suc k) (x ∷ xs) f = ap suc (times-length s k xs (and_parts (s.fits x) (times_fits s k xs) f).1)

-- the number of a fitting head
head_low : (n c : ℕ) → head_form.fits (n, c) ≡ true → n < 2 ^ 64
head_low n c f = omega (arith, (between-parts 1 4000000000 n (and_parts (between 1 4000000000 n) (between 0 5 c) f).0).1)

end_fits : (n : ℕ) → (end_form n).fits n ≡ true
end_fits n = between-from n n n (omega arith) (omega arith)

end_is : (n x : ℕ) → (end_form n).fits x ≡ true → x ≡ n
end_is n x f = let p = between-parts n n x f in omega (arith, p.0, p.1)

module _ (kind : Kind) where
  abbrev step : Form Step
  step = step_form kind

  steps-lawful : (c : ℕ) → Good kind false (times c step) false
  steps-lawful c = times-lawful c (step-lawful kind)

  -- a head's count and number, and the steps behind it
  fitting : (n c : ℕ) (ss : List Step) → head_form.fits (n, c) ≡ true → times_fits step c ss ≡ true → (notice_form kind).fits (n, ss) ≡ true
  fitting n c ss h t =
      subst (λ k. (head_form.fits (n, k) && times_fits step k ss) ≡ true) (sym (times-length step c ss t)) (and_from (head_form.fits (n, c)) (times_fits step c ss) h t)

  written : (n c : ℕ) (ss : List Step) → times_fits step c ss ≡ true → (notice_form kind).tokens (n, ss) ≡ head_form.tokens (n, c) ++ (times_tokens step ss ++ (end_form n).tokens n)
  written n c ss t = ap (λ k. head_form.tokens (n, k) ++ (times_tokens step ss ++ (end_form n).tokens n)) (times-length step c ss t)

  notice_sound : (text : List ℕ) (at to : ℕ) (m : Notice) → (notice_form kind).reads text at ≡ Ok (m, to) → ((notice_form kind).fits m ≡ true) × Toks text at to ((notice_form kind).tokens m)
  notice_sound text at to m e =
      let p = then_parts (head_form.reads text at) (λ h. seq_at (times_at h.0.1 step) (λ _. (end_form h.0.0).reads) (λ ss _. (h.0.0, ss)) text h.1) (m, to) e in
      let n = p.0.0.0 in
      let c = p.0.0.1 in
      let q = seq_parts (times_at c step) (λ _. (end_form n).reads) (λ ss _. (n, ss)) text p.0.1 to m p.2 in
      let h = (head_lawful kind).inverse.sound text at p.0.1 (n, c) p.1 in
      let t = (steps-lawful c).inverse.sound text p.0.1 q.1 q.0 q.3 in
      let u = (end_lawful kind n (head_low n c h.0)).inverse.sound text q.1 to q.2 q.4 in
      let tail = toks_append text p.0.1 q.1 to (times_tokens step q.0) ((end_form n).tokens n) t.1 (subst (λ k. Toks text q.1 to ((end_form n).tokens k)) (end_is n q.2 u.0) u.1) in
      subst (λ (x : Notice). ((notice_form kind).fits x ≡ true) × Toks text at to ((notice_form kind).tokens x)) q.5
      (fitting n c q.0 h.0 t.0, subst (Toks text at to) (sym (written n c q.0 t.0)) (toks_append text at p.0.1 to (head_form.tokens (n, c)) (times_tokens step q.0 ++ (end_form n).tokens n) h.1 tail))

  notice_complete : (text : List ℕ) (at to : ℕ) (m : Notice) → (notice_form kind).fits m ≡ true → Toks text at to ((notice_form kind).tokens m) → (notice_form kind).reads text at ≡ Ok (m, to)
  notice_complete text at to m f h =
      let n = m.0 in
      let c = length m.1 in
      let g = and_parts (head_form.fits (n, c)) (times_fits step c m.1) f in
      let p = toks_split text at to (head_form.tokens (n, c)) (times_tokens step m.1 ++ (end_form n).tokens n) h in
      let q = toks_split text p.0 to (times_tokens step m.1) ((end_form n).tokens n) p.2 in
      then_ok (head_form.reads text at) (λ h. seq_at (times_at h.0.1 step) (λ _. (end_form h.0.0).reads) (λ ss _. (h.0.0, ss)) text h.1) ((n, c), p.0) ((head_lawful kind).inverse.complete text at p.0 (n, c) g.0 p.1)
      ∙ seq_ok (times_at c step) (λ _. (end_form n).reads) (λ ss _. (n, ss)) text p.0 q.0 to m.1 n ((steps-lawful c).inverse.complete text p.0 q.0 m.1 g.1 q.1)
      ((end_lawful kind n (head_low n c g.0)).inverse.complete text q.0 to n (end_fits n) q.2)

  notice_stands : (m : Notice) → (notice_form kind).fits m ≡ true → Stands false false ((notice_form kind).tokens m)
  notice_stands m f =
      let n = m.0 in
      let c = length m.1 in
      let g = and_parts (head_form.fits (n, c)) (times_fits step c m.1) f in
      both false false false (head_form.tokens (n, c)) (times_tokens step m.1 ++ (end_form n).tokens n) ((head_lawful kind).lexes.stand (n, c) g.0)
      (both false false false (times_tokens step m.1) ((end_form n).tokens n) ((steps-lawful c).lexes.stand m.1 g.1) ((end_lawful kind n (head_low n c g.0)).lexes.stand n (end_fits n)))

  notice_points : Points (Unlawful kind) (notice_form kind).reads
  notice_points =
      then_points (Unlawful kind) head_form.reads (λ h. h.1)
      (λ h text at. and_then (times_at h.0.1 step text at) (λ ss. and_then ((end_form h.0.0).reads text ss.1) (λ e. Ok ((h.0.0, ss.0), e.1))))
      (head_lawful kind).points (form_steady head_form (head_lawful kind).inverse)
      (λ text at h e.
      let n = h.0.0 in
      let c = h.0.1 in
      let low = head_low n c ((head_lawful kind).inverse.sound text at h.1 h.0 e).0 in
      then_points (Unlawful kind) (times_at c step) (λ ss. ss.1) (λ ss text at. and_then ((end_form n).reads text at) (λ e. Ok ((n, ss.0), e.1))) (steps-lawful c).points (form_steady (times c step) (steps-lawful c).inverse)
      (λ _ _ ss _. map-points (Unlawful kind) (end_form n).reads (λ e. ((n, ss.0), e.1)) (end_lawful kind n low).points))

  -- a front is filled up with steps and an end
  notice_opens : HasBlank kind → Opens (Undecided kind) (notice_form kind)
  notice_opens o = record { one = (1, []); fit = refl; opens = opening }
    where
      opening : (text : List ℕ) (at : ℕ) (f : Fault) → (notice_form kind).reads text at ≡ Err f → Opening (Undecided kind) (notice_form kind) text at f.place
      opening text at f e =
          ⊎_elim
          (λ d.
          carried (Undecided kind) (roomy kind) head_form (notice_form kind) (λ h. (h.0, ((steps-lawful h.1).opens o).one)) [] (λ h. times_tokens step ((steps-lawful h.1).opens o).one ++ (end_form h.0).tokens h.0)
          (λ h g. fitting h.0 h.1 ((steps-lawful h.1).opens o).one g ((steps-lawful h.1).opens o).fit) (λ h g. written h.0 h.1 ((steps-lawful h.1).opens o).one ((steps-lawful h.1).opens o).fit)
          text at at f.place refl (((head_lawful kind).opens o).opens text at f d))
          (λ d.
          let n = d.0.0.0 in
          let c = d.0.0.1 in
          let mid = d.0.1 in
          let h = (head_lawful kind).inverse.sound text at mid (n, c) d.1 in
          ⊎_elim
          (λ k.
          carried (Undecided kind) (roomy kind) (times c step) (notice_form kind) (λ ss. (n, ss)) (head_form.tokens (n, c)) (λ _. (end_form n).tokens n) (λ ss t. fitting n c ss h.0 t) (λ ss t. written n c ss t) text at mid f.place h.1
          (((steps-lawful c).opens o).opens text mid f k))
          (λ k.
          let ss = k.0.0 in
          let last = k.0.1 in
          let t = (steps-lawful c).inverse.sound text mid last ss k.1 in
          let front = head_form.tokens (n, c) ++ times_tokens step ss in
          carried (Undecided kind) (roomy kind) (end_form n) (notice_form kind) (λ _. (n, ss)) front (λ _. []) (λ _ _. fitting n c ss h.0 t.0)
          (λ x g.
          written n c ss t.0 ∙ sym (append_assoc (head_form.tokens (n, c)) (times_tokens step ss) ((end_form n).tokens n)) ∙ ap (λ y. front ++ (end_form n).tokens y) (sym (end_is n x g)) ∙ ap (λ l. front ++ l) (sym (append-nil ((end_form n).tokens x))))
          text at last f.place (toks_append text at mid last (head_form.tokens (n, c)) (times_tokens step ss) h.1 t.1)
          (((end_lawful kind n (head_low n c h.0)).opens o).opens text last f (map-err ((end_form n).reads text last) (λ y. ((n, ss), y.1)) f k.2)))
          (then_err (times_at c step text mid) (λ ss. and_then ((end_form n).reads text ss.1) (λ y. Ok ((n, ss.0), y.1))) f d.2))
          (then_err (head_form.reads text at) (λ h. and_then (times_at h.0.1 step text h.1) (λ ss. and_then ((end_form h.0.0).reads text ss.1) (λ y. Ok ((h.0.0, ss.0), y.1)))) f e)

  pub notice_lawful : Good kind false (notice_form kind) false
  notice_lawful =
      record {
        roomy = roomy kind;
        inverse = record { sound = notice_sound; complete = notice_complete };
        lexes = record { stand = notice_stands };
        points = notice_points;
        opens = notice_opens;
      }
