-- The laws of a notice's forms: one term each, but for the step's choice and the notice itself.
use Rattle.std.proofs.Common.{◌≡◌, ℕ, ◌+◌, ◌-◌, ◌^◌, ◌<◌, ◌≤◌, Bool, true, false, cond, List, [], ◌∷◌, ◌++◌, length, drop, Ok, Err, codes, sym, refl, ap, ◌∙◌, subst, inl, inr, ⊎_elim, arith}
use Rattle.std.proofs.lemmas.List.{append_assoc, append-nil}
use Rattle.std.proofs.lemmas.Bool.{cond-true, cond-false, cases_Bool}
use Rattle.shared.specs.declared.refusal.Cause.TheVariants.{Setting}
use Rattle.shared.specs.declared.refusal.Fault.{Fault}
use Rattle.shared.specs.Tokens.{Open, Close, Space, Tok, mark, word, token_of, size, is_word}
use Rattle.shared.specs.Forms.{Reading, Form, and_then, wrong, lead, series, ascending}
use Rattle.shared.specs.Notice.{Kind, Step, bucket, single, small, gap, line_end, opening, setting_form, bucket_form, slot_form, as_bucket, as_single, step_at, step_tokens, step_fits, step_form, head_form, end_form}
use Rattle.text_laws.specs.Texts.{Toks, Inverse, choice, HasBlank}
use Rattle.text_laws.specs.Faults.{reach, bracketed, Unlawful, Begins, Undecided}
use Rattle.text_laws.proofs.Readings.{then_parts, then_ok, then_err, map-err, ok_pair, word_is, word_same}
use Rattle.text_laws.proofs.Inverses.{judged-inverse}
use Rattle.text_laws.proofs.Lexed.{Stands, judged-lexes}
use Rattle.text_laws.proofs.Agrees.{at_agree, toks_within}
use Rattle.text_laws.proofs.Points.{Shows, Points, token_shows, map-shows, judged-points}
use Rattle.text_laws.proofs.Begins.{Rest, Roomy, Opening, Opens, stopped, carried, err_same, wrong-place}
use Rattle.text_laws.proofs.Laws.{Lawful, num-lawful, lead-lawful, trail-lawful, pair-lawful, series-lawful, ascending-lawful}

-- a form behind a word, whose value is one case of a choice
abbrev behind_at : {X Z : Type 0} → Form X → (X → Z) → Tok → Reading (Z × ℕ)
behind_at s g t text at = and_then (s.reads text (at + size t)) (λ x. Ok (g x.0, x.1))

abbrev branch_at : {X Z : Type 0} → Form X → (X → Z) → Reading (Z × ℕ)
branch_at s g text at = behind_at s g (token_of (drop at text)) text at

module _ {X Z : Type 0} (w : List ℕ) (s : Form X) (i : Inverse s) (g : X → Z) (text : List ℕ) (at to : ℕ) where
  branch_sound : (z : Z) → is_word w (token_of (drop at text)) ≡ true → branch_at s g text at ≡ Ok (z, to) → (x : X) × (s.fits x ≡ true) × Toks text at to (word w ∷ s.tokens x) × (g x ≡ z)
  branch_sound z b e =
      let t = token_of (drop at text) in
      let is = word_is w t b in
      let p = then_parts (s.reads text (at + size t)) (λ x. Ok (g x.0, x.1)) (z, to) e in
      let d = ok_pair (g p.0.0) z p.0.1 to p.2 in
      let q = i.sound text (at + size t) p.0.1 p.0.0 p.1 in
      (p.0.0, q.0, (is, subst (λ u. Toks text (at + size u) to (s.tokens p.0.0)) is (subst (λ k. Toks text (at + size t) k (s.tokens p.0.0)) d.1 q.1)), d.0)

  branch_complete : (x : X) → s.fits x ≡ true → Toks text at to (word w ∷ s.tokens x) → branch_at s g text at ≡ Ok (g x, to)
  branch_complete x f h =
      let t = token_of (drop at text) in
      then_ok (s.reads text (at + size t)) (λ y. Ok (g y.0, y.1)) (x, to) (i.complete text (at + size t) to x f (subst (λ u. Toks text (at + size u) to (s.tokens x)) (sym h.0) h.1))

-- r reads what stands behind the word w as the branch does
branch_shows : (D : List ℕ → ℕ → ℕ → Type 0) {X Z : Type 0} (w : List ℕ) (s : Form X) (g : X → Z) → Points D s.reads → (r : Reading (Z × ℕ)) (text : List ℕ) (at : ℕ) (f : Fault) → at ≤ length text → is_word w (token_of (drop at text)) ≡ true → branch_at s g text at ≡ Err f
    → ((other : List ℕ) → is_word w (token_of (drop at other)) ≡ true → r other at ≡ branch_at s g other at) → Shows D r text at f
branch_shows D w s g p r text at f h b e branch =
    let t = token_of (drop at text) in
    let is = word_is w t b in
    let in-text : at + size t ≤ length text = toks_within text at (at + size t) (t ∷ []) (refl, refl) h in
    let c = map-shows D s.reads (λ x. (g x.0, x.1)) text (at + size t) f (p.shows text (at + size t) f in-text) e in
    let near : at + reach t ≤ c.upto = subst (λ u. at + size u ≤ f.place → at + reach u ≤ c.upto) (sym is) (λ far. omega (arith, c.past)) c.from in
    record {
      from = omega (arith, c.from);
      within = c.within;
      upto = c.upto;
      past = c.past;
      told = c.told;
      same = λ other a.
          let u : t ≡ token_of (drop at other) = at_agree text other at c.upto near a in
          let there : branch_at s g other at ≡ Err f = subst (λ v. behind_at s g v other at ≡ Err f) u (c.same other a) in
          branch other (word_same w (token_of (drop at other)) (sym u ∙ is)) ∙ there;
    }

-- in a setting a wrong token stands right behind a good front
abbrev Here : Rest
Here text q p us = q ≡ p

here_roomy : Roomy Here
here_roomy = record { here = λ text p us. refl; more = λ text q p us vs e. e }

module _ (kind : Kind) where
  pub roomy : Roomy (Undecided kind)
  roomy =
      record {
        here = λ text p us. inl refl;
        more = λ text q p us vs r.
            ⊎_elim (λ e. inl e)
            (λ r.
            ⊎_elim (λ s. inr (inl (s.0, s.1 ++ vs, s.2, ap (λ l. l ++ vs) s.3 ∙ append_assoc ((bracketed kind).tokens s.0) s.1 vs, s.4)))
            (λ s. inr (inr (s.0 ++ vs, ap (λ l. l ++ vs) s.1, s.2))) r)
            r;
      }

  -- a form of the notice, behind a word or not
  abbrev pub Good : {X : Type 0} → Bool → Form X → Bool → Type 0
  Good b s c = Lawful (Unlawful kind) (Undecided kind) (HasBlank kind) b s c

  abbrev numbers : Form (List ℕ)
  numbers = lead (mark Open ∷ []) (series (kind.count - 1) small)

  numbers-lawful : Lawful (Unlawful kind) Here (HasBlank kind) false numbers true
  numbers-lawful = lead-lawful (mark Open ∷ []) refl (refl, refl) (series-lawful (kind.count - 1) (num-lawful 0 65535 here_roomy (omega arith) (omega arith)))

  bracketed-lawful : Lawful (Unlawful kind) Here (HasBlank kind) false (bracketed kind) false
  bracketed-lawful = trail-lawful (mark Close ∷ []) refl (refl, refl) numbers-lawful

  judge_place : (at : ℕ) (f : Fault) (x : List ℕ × ℕ) (b : Bool) → cond b (Ok x) (Err (record { place = at; cause = Setting (record {}) })) ≡ Err f → at ≡ f.place
  judge_place at f x true e = let z : ◌≡◌ {A = ℕ} 0 1 = cc in absurd (omega arith)
  judge_place at f x false e = ap (λ g. g.place) (err_same (record { place = at; cause = Setting (record {}) }) f e)

  -- an open setting is begun where the blank could stand
  setting_opens : HasBlank kind → Opens (Undecided kind) (setting_form kind)
  setting_opens o =
      record {
        one = kind.blank;
        fit = o;
        opens = λ text at f e.
            let blank = (bracketed kind).tokens kind.blank in
            ⊎_elim
            (λ d.
            let c = (bracketed-lawful.opens o).opens text at f d in
            record {
              good = at;
              others = blank;
              begins = record { value = kind.blank; fit = o; front = []; split = refl; stand = refl };
              rest = inr (inl (kind.blank, [], c.others, sym (append-nil blank), subst (λ p. Begins (bracketed kind) text at p c.others) c.rest c.begins));
            })
            (λ d. stopped (Undecided kind) roomy (setting_form kind) kind.blank [] blank text at f.place o refl (judge_place at f d.0 (kind.lawful d.0.0) d.2))
            (then_err ((bracketed kind).reads text at) (λ x. cond (kind.lawful x.0) (Ok x) (Err (record { place = at; cause = Setting (record {}) }))) f e);
      }

  pub setting_lawful : Good false (setting_form kind) false
  setting_lawful =
      record {
        roomy = roomy;
        inverse = judged-inverse kind.lawful (bracketed kind) bracketed-lawful.inverse;
        lexes = judged-lexes kind.lawful bracketed-lawful.lexes;
        points = judged-points (Unlawful kind) kind.lawful numbers Close numbers-lawful.inverse (λ text at to vs f h l. (vs, f, h, l)) bracketed-lawful.points;
        opens = setting_opens;
      }

  small-lawful : {b : Bool} → Good b (lead gap small) true
  small-lawful = lead-lawful gap refl (refl, refl) (num-lawful 0 65535 roomy (omega arith) (omega arith))

  row_lawful : {b : Bool} → Good b (ascending 65535) false
  row_lawful = ascending-lawful 65535 roomy (λ text q p ts h. inr (inr (ts, refl, h))) (omega arith)

  bucket_lawful : Good true (bucket_form kind) false
  bucket_lawful =
      trail-lawful line_end refl (refl, refl)
      (pair-lawful
      (pair-lawful (pair-lawful small-lawful small-lawful) (lead-lawful (mark Space ∷ mark Open ∷ []) refl (refl, refl) (series-lawful 3 setting_lawful)))
      (pair-lawful (lead-lawful {c = true} (mark Close ∷ mark Space ∷ opening (codes "a")) refl (refl, refl) row_lawful) (lead-lawful {c = true} (mark Space ∷ opening (codes "b")) refl (refl, refl) row_lawful)))

  slot_lawful : Good true (slot_form kind) false
  slot_lawful = trail-lawful line_end refl (refl, refl) (pair-lawful (pair-lawful small-lawful small-lawful) (lead-lawful gap refl (refl, refl) setting_lawful))

  -- the word behind a step's bracket tells which step it is
  as_bucket_lem : (text : List ℕ) (at : ℕ) → is_word (codes "bucket") (token_of (drop at text)) ≡ true → step_at kind text at ≡ branch_at (bucket_form kind) as_bucket text at
  as_bucket_lem text at b = cond-true (is_word (codes "bucket") (token_of (drop at text))) _ _ b

  as_slot : (text : List ℕ) (at : ℕ) → is_word (codes "slot") (token_of (drop at text)) ≡ true → step_at kind text at ≡ branch_at (slot_form kind) as_single text at
  as_slot text at b =
      cond-false (is_word (codes "bucket") (token_of (drop at text))) _ _ (ap (is_word (codes "bucket")) (word_is (codes "slot") (token_of (drop at text)) b)) ∙ cond-true (is_word (codes "slot") (token_of (drop at text))) _ _ b

  as_none : (text : List ℕ) (at : ℕ) → is_word (codes "bucket") (token_of (drop at text)) ≡ false → is_word (codes "slot") (token_of (drop at text)) ≡ false → step_at kind text at ≡ wrong (token_of (drop at text)) at
  as_none text at b c = cond-false (is_word (codes "bucket") (token_of (drop at text))) _ _ b ∙ cond-false (is_word (codes "slot") (token_of (drop at text))) _ _ c

  module _ (text : List ℕ) (at : ℕ) (G : Type 0) where
    choices : (is_word (codes "bucket") (token_of (drop at text)) ≡ true → G) → (is_word (codes "slot") (token_of (drop at text)) ≡ true → G) → (is_word (codes "bucket") (token_of (drop at text)) ≡ false → is_word (codes "slot") (token_of (drop at text)) ≡ false → G) → G
    choices x y z = ⊎_elim x (λ b. ⊎_elim y (λ c. z b c) (cases_Bool (is_word (codes "slot") (token_of (drop at text))))) (cases_Bool (is_word (codes "bucket") (token_of (drop at text))))

  choice-sound : (text : List ℕ) (at to : ℕ) (z : Step) → step_at kind text at ≡ Ok (z, to) → (step_fits kind z ≡ true) × Toks text at to (step_tokens kind z)
  choice-sound text at to z e =
      let G : Step → Type 0 = λ y. (step_fits kind y ≡ true) × Toks text at to (step_tokens kind y) in
      choices text at (G z)
      (λ b. let p = branch_sound (codes "bucket") (bucket_form kind) bucket_lawful.inverse as_bucket text at to z b (sym (as_bucket_lem text at b) ∙ e) in subst G p.3 (p.1, p.2))
      (λ b. let p = branch_sound (codes "slot") (slot_form kind) slot_lawful.inverse as_single text at to z b (sym (as_slot text at b) ∙ e) in subst G p.3 (p.1, p.2))
      (λ b c. let no_Ok : wrong (token_of (drop at text)) at ≡ Ok (z, to) = sym (as_none text at b c) ∙ e in let n : ◌≡◌ {A = ℕ} 0 1 = cc no_Ok in absurd (omega arith))

  choice-complete : (text : List ℕ) (at to : ℕ) (z : Step) → step_fits kind z ≡ true → Toks text at to (step_tokens kind z) → step_at kind text at ≡ Ok (z, to)
  choice-complete text at to (bucket j s vs pa pb) f h =
      as_bucket_lem text at (word_same (codes "bucket") (token_of (drop at text)) h.0) ∙ branch_complete (codes "bucket") (bucket_form kind) bucket_lawful.inverse as_bucket text at to (((j, s), vs), (pa, pb)) f h
  choice-complete text at to (single j i v) f h =
      as_slot text at (word_same (codes "slot") (token_of (drop at text)) h.0) ∙ branch_complete (codes "slot") (slot_form kind) slot_lawful.inverse as_single text at to ((j, i), v) f h

  choice-stands : (z : Step) → step_fits kind z ≡ true → Stands false false (step_tokens kind z)
  choice-stands (bucket j s vs pa pb) f = bucket_lawful.lexes.stand (((j, s), vs), (pa, pb)) f
  choice-stands (single j i v) f = slot_lawful.lexes.stand ((j, i), v) f

  choice-shows : (text : List ℕ) (at : ℕ) (f : Fault) → at ≤ length text → step_at kind text at ≡ Err f → Shows (Unlawful kind) (step_at kind) text at f
  choice-shows text at f h e =
      let t = token_of (drop at text) in
      choices text at (Shows (Unlawful kind) (step_at kind) text at f)
      (λ b. branch_shows (Unlawful kind) (codes "bucket") (bucket_form kind) as_bucket bucket_lawful.points (step_at kind) text at f h b (sym (as_bucket_lem text at b) ∙ e) (λ other c. as_bucket_lem other at c))
      (λ b. branch_shows (Unlawful kind) (codes "slot") (slot_form kind) as_single slot_lawful.points (step_at kind) text at f h b (sym (as_slot text at b) ∙ e) (λ other c. as_slot other at c))
      (λ b c.
      let d : wrong t at ≡ Err f = sym (as_none text at b c) ∙ e in
      token_shows (Unlawful kind) (step_at kind) text at f h (cc d)
      (λ other _ u. as_none other at (ap (is_word (codes "bucket")) (sym u) ∙ b) (ap (is_word (codes "slot")) (sym u) ∙ c) ∙ ap (λ v. wrong v at) (sym u) ∙ d))

  choice-opens : HasBlank kind → Opens (Undecided kind) (choice kind)
  choice-opens o =
      let one = (slot_lawful.opens o).one in
      let fit = (slot_lawful.opens o).fit in
      record {
        one = as_single one;
        fit = fit;
        opens = λ text at f e.
            let t = token_of (drop at text) in
            choices text at (Opening (Undecided kind) (choice kind) text at f.place)
            (λ b.
            carried (Undecided kind) roomy (bucket_form kind) (choice kind) as_bucket (word (codes "bucket") ∷ []) (λ _. []) (λ x h. h) (λ x _. ap (λ l. word (codes "bucket") ∷ l) (sym (append-nil ((bucket_form kind).tokens x)))) text at (at + size t) f.place
            (let is = word_is (codes "bucket") t b in (is, ap (λ u. at + size u) (sym is)))
            ((bucket_lawful.opens o).opens text (at + size t) f (map-err ((bucket_form kind).reads text (at + size t)) (λ x. (as_bucket x.0, x.1)) f (sym (as_bucket_lem text at b) ∙ e))))
            (λ b.
            carried (Undecided kind) roomy (slot_form kind) (choice kind) as_single (word (codes "slot") ∷ []) (λ _. []) (λ x h. h) (λ x _. ap (λ l. word (codes "slot") ∷ l) (sym (append-nil ((slot_form kind).tokens x)))) text at (at + size t) f.place
            (let is = word_is (codes "slot") t b in (is, ap (λ u. at + size u) (sym is)))
            ((slot_lawful.opens o).opens text (at + size t) f (map-err ((slot_form kind).reads text (at + size t)) (λ x. (as_single x.0, x.1)) f (sym (as_slot text at b) ∙ e))))
            (λ b c. stopped (Undecided kind) roomy (choice kind) (as_single one) [] (step_tokens kind (as_single one)) text at f.place fit refl (wrong-place t at f (sym (as_none text at b c) ∙ e)));
      }

  pub choice-lawful : Good false (choice kind) false
  choice-lawful =
      record {
        roomy = roomy;
        inverse = record { sound = choice-sound; complete = choice-complete };
        lexes = record { stand = choice-stands };
        points = record { shows = choice-shows };
        opens = choice-opens;
      }

  pub step-lawful : Good false (step_form kind) false
  step-lawful = lead-lawful (mark Open ∷ []) refl (refl, refl) choice-lawful

  pub head_lawful : Good false head_form false
  head_lawful =
      trail-lawful line_end refl (refl, refl)
      (pair-lawful (lead-lawful {c = true} (opening (codes "notice")) refl (refl, refl) (lead-lawful gap refl (refl, refl) (num-lawful 1 4000000000 roomy (omega arith) (omega arith))))
      (lead-lawful gap refl (refl, refl) (num-lawful 0 5 roomy (omega arith) (omega arith))))

  pub end_lawful : (n : ℕ) → n < 2 ^ 64 → Good false (end_form n) false
  end_lawful n b = trail-lawful line_end refl (refl, refl) (lead-lawful {c = true} (opening (codes "end")) refl (refl, refl) (lead-lawful gap refl (refl, refl) (num-lawful n n roomy b (omega arith))))
