-- What is read of a notice's text is that notice, only its text is read as it, and other texts are refused at their first
-- wrong token.
use Rattle.std.proofs.Common.{◌≡◌, ℕ, ◌+◌, Bool, true, false, List, [], ◌++◌, length, drop, Ok, Err, sym, refl, ap, ◌∙◌, subst, ⊎_elim, arith}
use Rattle.std.proofs.lemmas.List.{append-nil, drop_all}
use Rattle.std.proofs.lemmas.Bool.{cond-true}
use Rattle.shared.specs.declared.refusal.Fault.{Fault}
use Rattle.shared.specs.Tokens.{token_of, size, spell, is_end}
use Rattle.shared.specs.Forms.{Form, and_then, pass_at, read_whole}
use Rattle.shared.specs.Notice.{Kind, notice_form, notice_text, read_notice}
use Rattle.text_laws.specs.Texts.{Toks, Inverse, FormLaws, Faithful, HasBlank}
use Rattle.text_laws.specs.Faults.{Unlawful, Undecided, GoodBefore, FaultsFirst}
use Rattle.text_laws.proofs.Readings.{then_parts, then_ok, then_err, map-err, ok_same, pass_parts}
use Rattle.text_laws.proofs.Spelled.{toks_text, text_toks, end_is}
use Rattle.text_laws.proofs.Inverses.{num-inverse, lead-inverse, trail-inverse, pair-inverse, times-inverse, series-inverse, ascending-inverse, judged-inverse}
use Rattle.text_laws.proofs.Lexed.{Lexes}
use Rattle.text_laws.proofs.Points.{form_steady, then_points, map-points, pass_points}
use Rattle.text_laws.proofs.Begins.{Opening, stopped, pass_place}
use Rattle.text_laws.proofs.Notices.{roomy, choice-lawful}
use Rattle.text_laws.proofs.Whole.{notice_lawful}

pub form_laws : (X Y : Type 0) → FormLaws X Y
form_laws X Y =
    record {
      number = num-inverse;
      leading = lead-inverse;
      trailing = trail-inverse;
      paired = pair-inverse;
      repeated = λ k s i. times-inverse s i k;
      spaced = series-inverse;
      places = ascending-inverse;
      judging = judged-inverse;
      choosing = λ kind. (choice-lawful kind).inverse;
      notice = λ kind. (notice_lawful kind).inverse;
    }

module _ {X : Type 0} (s : Form X) (i : Inverse s) where
  whole_own : (text : List ℕ) (x : X) → read_whole s text ≡ Ok x → (s.fits x ≡ true) × (text ≡ spell (s.tokens x))
  whole_own text x e =
      let p = then_parts (s.reads text 0) (λ y. and_then (pass_at is_end text y.1) (λ _. Ok y.0)) x e in
      let q = then_parts (pass_at is_end text p.0.1) (λ _. Ok p.0.0) x p.2 in
      let r = i.sound text 0 p.0.1 p.0.0 p.1 in
      let last = end_is (drop p.0.1 text) (pass_parts is_end text p.0.1 q.0 q.1).0 in
      subst (λ y. (s.fits y ≡ true) × (text ≡ spell (s.tokens y))) (ok_same p.0.0 x q.2)
      (r.0, toks_text text 0 p.0.1 (s.tokens p.0.0) r.1 ∙ ap (λ l. spell (s.tokens p.0.0) ++ l) last ∙ append-nil (spell (s.tokens p.0.0)))

  whole_back : {b : Bool} → Lexes false s b → (x : X) → s.fits x ≡ true → read_whole s (spell (s.tokens x)) ≡ Ok x
  whole_back l x f =
      let text = spell (s.tokens x) in
      let last = 0 + length text in
      let past : drop last text ≡ [] = drop_all last text (omega arith) in
      then_ok (s.reads text 0) (λ y. and_then (pass_at is_end text y.1) (λ _. Ok y.0)) (x, last) (i.complete text 0 last x f (text_toks text 0 false (s.tokens x) (l.stand x f).0 refl))
      ∙ then_ok (pass_at is_end text last) (λ _. Ok x) (last + size (token_of (drop last text))) (cond-true (is_end (token_of (drop last text))) _ _ (ap (λ l. is_end (token_of l)) past))

module _ (kind : Kind) where
  pub faithful : Faithful kind
  faithful =
      record {
        back = λ n steps f. whole_back (notice_form kind) (notice_lawful kind).inverse (notice_lawful kind).lexes (n, steps) f;
        own = λ text n steps e. whole_own (notice_form kind) (notice_lawful kind).inverse text (n, steps) e;
      }

  good_before : (text : List ℕ) (f : Fault) → read_notice kind text ≡ Err f → HasBlank kind → GoodBefore kind text f.place
  good_before text f e o =
      let form = notice_form kind in
      let b : Opening (Undecided kind) form text 0 f.place =
      ⊎_elim
      (λ d. ((notice_lawful kind).opens o).opens text 0 f d)
      (λ d.
      let m = d.0.0 in
      let u = (notice_lawful kind).inverse.sound text 0 d.0.1 m d.1 in
      let past = pass_place is_end text d.0.1 f (map-err (pass_at is_end text d.0.1) (λ _. m) f d.2) in
      stopped (Undecided kind) (roomy kind) form m (form.tokens m) [] text 0 f.place u.0 (sym (append-nil (form.tokens m))) (subst (λ p. Toks text 0 p (form.tokens m)) past u.1))
      (then_err (form.reads text 0) (λ x. and_then (pass_at is_end text x.1) (λ _. Ok x.0)) f e) in
      (b.good, b.others, b.begins, b.rest)

  pub faults_first : FaultsFirst kind
  faults_first text f e =
      let b = (then_points (Unlawful kind) (notice_form kind).reads (λ x. x.1) (λ x text at. and_then (pass_at is_end text at) (λ _. Ok x.0)) (notice_lawful kind).points (form_steady (notice_form kind) (notice_lawful kind).inverse)
      (λ _ _ x _. map-points (Unlawful kind) (pass_at is_end) (λ _. x.0) (pass_points (Unlawful kind) is_end))).shows text 0 f (omega arith) e in
      record {
        within = b.within;
        shown = b.upto;
        told = b.told;
        same = λ other a. b.same other (sym a);
        never = λ n steps g a.
            let refused : read_notice kind (notice_text kind n steps) ≡ Err f = b.same (notice_text kind n steps) (sym a) in
            let read = faithful.back n steps g in
            let z : ◌≡◌ {A = ℕ} 0 1 = cc in omega arith;
        before = good_before text f e;
      }
