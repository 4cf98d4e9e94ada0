-- What stands before a wrong token begins a value of the form: for each way to make a form.
use Rattle.std.proofs.Common.{◌≡◌, ℕ, zero, suc, ◌+◌, ◌^◌, ◌<◌, ◌≤◌, Bool, true, false, cond, ◌⊎◌, List, [], ◌∷◌, ◌++◌, length, drop, Ok, Err, Result, sym, refl, ap, ◌∙◌, subst, inl, inr, ⊎_elim, arith}
use mathlib.Core.Option.{Option, none, some}
use Rattle.std.proofs.lemmas.List.{append_assoc, append-nil}
use Rattle.std.proofs.lemmas.Bool.{cond-true, cond-false, cases_Bool, cases_lt, and_from}
use Rattle.shared.specs.declared.refusal.Fault.{Fault}
use Rattle.shared.specs.Limits.{between}
use Rattle.shared.specs.Tokens.{Close, Space, Tok, mark, word, stray, end, token_of, size, is_mark, is_word, numeral}
use Rattle.shared.specs.Forms.{and_then, cause_of, wrong, pass_at, tok_at, toks_at, token_number, or_wrong, num_at, Form, num, lead, trail, pair, times_fits, times, series, ascending_at, ascending_tokens, ascends, ascending}
use Rattle.text_laws.specs.Texts.{Toks, Inverse}
use Rattle.text_laws.specs.Faults.{Begins}
use Rattle.shared.proofs.Words.{between-from, between-parts}
use Rattle.text_laws.proofs.Readings.{then_err, map-err, seq_at, mark_is, toks_append, tok_sound, toks_sound}
use Rattle.text_laws.proofs.Inverses.{num-inverse, lead-inverse, times-lead}

-- what may stand between a good front, which ends at q, and a wrong token at p; us would follow at q
abbrev pub Rest : Type 1
Rest = List ℕ → ℕ → ℕ → List Tok → Type 0

pub record Roomy (R : Rest) : Type 0 where
  pub here : (text : List ℕ) (p : ℕ) (us : List Tok) → R text p p us
  pub more : (text : List ℕ) (q p : ℕ) (us vs : List Tok) → R text q p us → R text q p (us ++ vs)

pub record Opening {X : Type 0} (R : Rest) (s : Form X) (text : List ℕ) (at p : ℕ) : Type 0 where
  pub good : ℕ
  pub others : List Tok
  pub begins : Begins s text at good others
  pub rest : R text good p others

-- a form that has values, and whose faults are behind good fronts
pub record Opens {X : Type 0} (R : Rest) (s : Form X) : Type 0 where
  pub one : X
  pub fit : s.fits one ≡ true
  pub opens : (text : List ℕ) (at : ℕ) (f : Fault) → s.reads text at ≡ Err f → Opening R s text at f.place

module _ (R : Rest) (roomy : Roomy R) where
  -- a wrong token behind tokens of a value
  pub stopped : {X : Type 0} (s : Form X) (x : X) (xs ys : List Tok) (text : List ℕ) (at p : ℕ) → s.fits x ≡ true → s.tokens x ≡ xs ++ ys → Toks text at p xs → Opening R s text at p
  stopped s x xs ys text at p f e h = record { good = p; others = ys; begins = record { value = x; fit = f; front = xs; split = e; stand = h }; rest = roomy.here text p ys }

  -- a part of a value, between tokens that stand before it and tokens that would follow
  pub carried : {X Y : Type 0} (s : Form X) (t : Form Y) (g : X → Y) (pre : List Tok) (post : X → List Tok) → ((x : X) → s.fits x ≡ true → t.fits (g x) ≡ true) → ((x : X) → s.fits x ≡ true → t.tokens (g x) ≡ pre ++ (s.tokens x ++ post x))
      → (text : List ℕ) (at mid p : ℕ) → Toks text at mid pre → Opening R s text mid p → Opening R t text at p
  carried s t g pre post fits tokens text at mid p h o =
      let b = o.begins in
      record {
        good = o.good;
        others = o.others ++ post b.value;
        begins = record {
          value = g b.value;
          fit = fits b.value b.fit;
          front = pre ++ b.front;
          split = tokens b.value b.fit ∙ ap (λ l. pre ++ (l ++ post b.value)) b.split ∙ ap (λ l. pre ++ l) (append_assoc b.front o.others (post b.value))
              ∙ sym (append_assoc pre b.front (o.others ++ post b.value));
          stand = toks_append text at mid o.good pre b.front h b.stand;
        };
        rest = roomy.more text o.good p o.others (post b.value) o.rest;
      }

pub err_same : {X : Type 0} (c f : Fault) → ◌≡◌ {A = Result X Fault} (Err c) (Err f) → c ≡ f
err_same c f e = cc

pub wrong-place : {X : Type 0} (t : Tok) (at : ℕ) (f : Fault) → ◌≡◌ {A = Result X Fault} (wrong t at) (Err f) → at ≡ f.place
wrong-place t at f e = ap (λ g. g.place) (err_same (record { place = at; cause = cause_of t }) f e)

pub pass_place : (test : Tok → Bool) (text : List ℕ) (at : ℕ) (f : Fault) → pass_at test text at ≡ Err f → at ≡ f.place
pass_place test text at f e = go (token_of (drop at text)) (test (token_of (drop at text))) e
  where
    go : (t : Tok) (b : Bool) → cond b (Ok (at + size t)) (wrong t at) ≡ Err f → at ≡ f.place
    go t true e = let z : ◌≡◌ {A = ℕ} 0 1 = cc in absurd (omega arith)
    go t false e = wrong-place t at f e

pub tok_place : (t : Tok) (text : List ℕ) (at : ℕ) (f : Fault) → tok_at t text at ≡ Err f → at ≡ f.place
tok_place (mark k) text at f e = pass_place (is_mark k) text at f e
tok_place (word w) text at f e = pass_place (is_word w) text at f e
tok_place stray text at f e = wrong-place stray at f e
tok_place end text at f e = wrong-place end at f e

num-place : (low high : ℕ) (text : List ℕ) (at : ℕ) (f : Fault) → num_at low high text at ≡ Err f → at ≡ f.place
num-place low high text at f e = go (token_of (drop at text)) (token_number low high (token_of (drop at text))) e
  where
    go : (t : Tok) (o : Option ℕ) → or_wrong o t at ≡ Err f → at ≡ f.place
    go t none e = wrong-place t at f e
    go t (some n) e = let z : ◌≡◌ {A = ℕ} 0 1 = cc in absurd (omega arith)

-- the first of a list of tokens that does not stand there
toks_place : (ts : List Tok) (text : List ℕ) (at : ℕ) (f : Fault) → toks_at ts text at ≡ Err f → (xs ys : List Tok) × (ts ≡ xs ++ ys) × Toks text at f.place xs
toks_place [] text at f e = let z : ◌≡◌ {A = ℕ} 0 1 = cc in absurd (omega arith)
toks_place (t ∷ ts) text at f e =
    ⊎_elim
    (λ d. ([], t ∷ ts, refl, tok_place t text at f d))
    (λ d.
    let r = toks_place ts text d.0 f d.2 in
    (t ∷ r.0, r.1, ap (λ l. t ∷ l) r.2, toks_append text at d.0 f.place (t ∷ []) r.0 (tok_sound t text at d.0 d.1) r.3))
    (then_err (tok_at t text at) (λ p. toks_at ts text p) f e)

module _ (R : Rest) (roomy : Roomy R) where
  pub num-opens : (low high : ℕ) → low ≤ high → Opens R (num low high)
  num-opens low high l =
      record {
        one = low;
        fit = between-from low high low (omega arith) l;
        opens = λ text at f e. stopped R roomy (num low high) low [] _ text at f.place (between-from low high low (omega arith) l) refl (num-place low high text at f e);
      }

  pub lead-opens : {X : Type 0} (ts : List Tok) (s : Form X) → Opens R s → Opens R (lead ts s)
  lead-opens ts s o =
      record {
        one = o.one;
        fit = o.fit;
        opens = λ text at f e.
            ⊎_elim
            (λ d.
            let r = toks_place ts text at f d in
            stopped R roomy (lead ts s) o.one r.0 (r.1 ++ s.tokens o.one) text at f.place o.fit (ap (λ l. l ++ s.tokens o.one) r.2 ∙ append_assoc r.0 r.1 (s.tokens o.one)) r.3)
            (λ d.
            carried R roomy s (lead ts s) (λ x. x) ts (λ _. []) (λ x g. g) (λ x _. ap (λ l. ts ++ l) (sym (append-nil (s.tokens x)))) text at d.0 f.place (toks_sound ts text at d.0 d.1) (o.opens text d.0 f d.2))
            (then_err (toks_at ts text at) (λ p. s.reads text p) f e);
      }

  pub trail-opens : {X : Type 0} (s : Form X) (ts : List Tok) → Inverse s → Opens R s → Opens R (trail s ts)
  trail-opens {X} s ts i o =
      record {
        one = o.one;
        fit = o.fit;
        opens = λ text at f e.
            ⊎_elim
            (λ d. carried R roomy s (trail s ts) (λ x. x) [] (λ _. ts) (λ x g. g) (λ x _. refl) text at at f.place refl (o.opens text at f d))
            (λ d.
            let x = d.0.0 in
            let mid = d.0.1 in
            let u = i.sound text at mid x d.1 in
            let r = toks_place ts text mid f (map-err (toks_at ts text mid) (λ p. (x, p)) f d.2) in
            stopped R roomy (trail s ts) x (s.tokens x ++ r.0) r.1 text at f.place u.0 (ap (λ l. s.tokens x ++ l) r.2 ∙ sym (append_assoc (s.tokens x) r.0 r.1))
            (toks_append text at mid f.place (s.tokens x) r.0 u.1 r.3))
            (then_err (s.reads text at) (λ x. and_then (toks_at ts text x.1) (λ p. Ok (x.0, p))) f e);
      }

  -- one form and then another, whose values g joins to values of a third
  seq_opens : {X Y Z : Type 0} (s : Form X) (t : Form Y) (z : Form Z) (g : X → Y → Z) → Inverse s → ((x : X) (y : Y) → s.fits x ≡ true → t.fits y ≡ true → z.fits (g x y) ≡ true) → ((x : X) (y : Y) → z.tokens (g x y) ≡ s.tokens x ++ t.tokens y)
      → Opens R s → Opens R t → (text : List ℕ) (at : ℕ) (f : Fault) → seq_at s.reads (λ _. t.reads) g text at ≡ Err f → Opening R z text at f.place
  seq_opens s t z g i fits tokens o p text at f e =
      ⊎_elim
      (λ d. carried R roomy s z (λ x. g x p.one) [] (λ _. t.tokens p.one) (λ x h. fits x p.one h p.fit) (λ x _. tokens x p.one) text at at f.place refl (o.opens text at f d))
      (λ d.
      let x = d.0.0 in
      let mid = d.0.1 in
      let u = i.sound text at mid x d.1 in
      carried R roomy t z (λ y. g x y) (s.tokens x) (λ _. []) (λ y h. fits x y u.0 h) (λ y _. tokens x y ∙ ap (λ l. s.tokens x ++ l) (sym (append-nil (t.tokens y)))) text at mid f.place u.1
      (p.opens text mid f (map-err (t.reads text mid) (λ y. (g x y.0, y.1)) f d.2)))
      (then_err (s.reads text at) (λ x. and_then (t.reads text x.1) (λ y. Ok (g x.0 y.0, y.1))) f e)

  pub pair-opens : {X Y : Type 0} (s : Form X) (t : Form Y) → Inverse s → Opens R s → Opens R t → Opens R (pair s t)
  pair-opens s t i o p =
      record {
        one = (o.one, p.one);
        fit = and_from (s.fits o.one) (t.fits p.one) o.fit p.fit;
        opens = seq_opens s t (pair s t) (λ x y. (x, y)) i (λ x y h k. and_from (s.fits x) (t.fits y) h k) (λ x y. refl) o p;
      }

  pub times-opens : {X : Type 0} (k : ℕ) (s : Form X) → Inverse s → Opens R s → Opens R (times k s)
  times-opens zero s i o = record { one = []; fit = refl; opens = λ text at f e. let z : ◌≡◌ {A = ℕ} 0 1 = cc in absurd (omega arith) }
  times-opens (suc k) s i o =
      let p = times-opens k s i o in
      record {
        one = o.one ∷ p.one;
        fit = and_from (s.fits o.one) (times_fits s k p.one) o.fit p.fit;
        opens = seq_opens s (times k s) (times (suc k) s) (λ x xs. x ∷ xs) i (λ x xs h g. and_from (s.fits x) (times_fits s k xs) h g) (λ x xs. refl) o p;
      }

  pub series-opens : {X : Type 0} (more : ℕ) (s : Form X) → Inverse s → Opens R s → Opens R (series more s)
  series-opens more s i o =
      let gap : List Tok = mark Space ∷ [] in
      let p = times-opens more (lead gap s) (lead-inverse gap s refl i) (lead-opens gap s o) in
      record {
        one = o.one ∷ p.one;
        fit = and_from (s.fits o.one) (times_fits s more p.one) o.fit (sym (times-lead gap s more p.one) ∙ p.fit);
        opens = seq_opens s (times more (lead gap s)) (series more s) (λ x xs. x ∷ xs) i (λ x xs h g. and_from (s.fits x) (times_fits s more xs) h (sym (times-lead gap s more xs) ∙ g)) (λ x xs. refl) o p;
      }

  -- ascending places; behind the last place that there is, a row can only close
  module _ (high : ℕ) (b : high < 2 ^ 64) (last : (text : List ℕ) (q p : ℕ) (ts : List Tok) → Toks text q p (word (numeral high) ∷ mark Space ∷ []) → R text q p (word (numeral high) ∷ mark Close ∷ ts)) where
    abbrev row_form : ℕ → Form (List ℕ)
    row_form low = record { reads = λ text at. ascending_at (length text + 1) low high text at; tokens = ascending_tokens; fits = ascends low high }

    row_opens : (fuel low : ℕ) (text : List ℕ) (at : ℕ) (f : Fault) → ascending_at fuel low high text at ≡ Err f → Opening R (row_form low) text at f.place ⊎ ((high < low) × Toks text at f.place (mark Space ∷ []))
    row_opens zero low text at f e = inl (stopped R roomy (row_form low) [] [] (mark Close ∷ []) text at f.place refl refl (wrong-place (token_of (drop at text)) at f e))
    row_opens (suc fuel) low text at f e =
        let t = token_of (drop at text) in
        ⊎_elim
        (λ s.
        let space = mark_is Space t s in
        ⊎_elim
        (λ d.
        let there : Toks text at f.place (mark Space ∷ []) = (space, num-place low high text (at + 1) f d) in
        ⊎_elim
        (λ l. inr (l, there))
        (λ l.
        inl (stopped R roomy (row_form low) (low ∷ []) (mark Space ∷ []) (word (numeral low) ∷ mark Close ∷ []) text at f.place (and_from (between low high low) true (between-from low high low (omega arith) l) refl) refl there))
        (cases_lt high low))
        (λ d.
        let n = d.0.0 in
        let mid = d.0.1 in
        let u = (num-inverse low high b).sound text (at + 1) mid n d.1 in
        let front : Toks text at mid (mark Space ∷ word (numeral n) ∷ []) = (space, u.1) in
        ⊎_elim
        (λ o.
        inl (carried R roomy (row_form (n + 1)) (row_form low) (λ ns. n ∷ ns) (mark Space ∷ word (numeral n) ∷ []) (λ _. []) (λ ns h. and_from (between low high n) (ascends (n + 1) high ns) u.0 h)
        (λ ns _. ap (λ l. mark Space ∷ word (numeral n) ∷ l) (sym (append-nil (ascending_tokens ns)))) text at mid f.place front o))
        (λ o.
        let full : n ≡ high = omega (arith, o.0, (between-parts low high n u.0).1) in
        let behind : Toks text (at + 1) f.place (word (numeral n) ∷ mark Space ∷ []) = toks_append text (at + 1) mid f.place (word (numeral n) ∷ []) (mark Space ∷ []) u.1 o.1 in
        inl (record {
          good = at + 1;
          others = word (numeral n) ∷ mark Close ∷ [];
          begins = record { value = n ∷ []; fit = and_from (between low high n) true u.0 refl; front = mark Space ∷ []; split = refl; stand = (space, refl) };
          rest = subst (λ k. R text (at + 1) f.place (word (numeral k) ∷ mark Close ∷ [])) (sym full) (last text (at + 1) f.place [] (subst (λ k. Toks text (at + 1) f.place (word (numeral k) ∷ mark Space ∷ [])) full behind));
        }))
        (row_opens fuel (n + 1) text mid f (map-err (ascending_at fuel (n + 1) high text mid) (λ y. (n ∷ y.0, y.1)) f d.2)))
        (then_err (num_at low high text (at + 1)) (λ x. and_then (ascending_at fuel (x.0 + 1) high text x.1) (λ y. Ok (x.0 ∷ y.0, y.1))) f (sym (cond-true (is_mark Space t) _ _ s) ∙ e)))
        (λ s.
        inl (stopped R roomy (row_form low) [] [] (mark Close ∷ []) text at f.place refl refl
        (tok_place (mark Close) text at f (map-err (tok_at (mark Close) text at) (λ p. ([], p)) f (sym (cond-false (is_mark Space t) _ _ s) ∙ e)))))
        (cases_Bool (is_mark Space t))

    pub ascending-opens : Opens R (ascending high)
    ascending-opens =
        record { one = []; fit = refl; opens = λ text at f e. ⊎_elim (λ o. o) (λ o. absurd (omega (arith, o.0))) (row_opens (length text + 1) 0 text at f e) }
