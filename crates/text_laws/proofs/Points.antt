-- A fault points at the wrong token, and every text with the same bytes up to that token's end has it: for each way to
-- make a form.
use Rattle.std.proofs.Common.{◌≡◌, ℕ, zero, suc, ◌+◌, ◌<◌, ◌≤◌, Bool, true, false, cond, List, [], ◌∷◌, ◌++◌, length, take, drop, Ok, Err, Result, sym, refl, ap, ◌∙◌, subst, ⊎_elim, arith}
use mathlib.Core.Option.{Option, none, some}
use Rattle.std.proofs.lemmas.Bool.{cond-false, false≢true}
use Rattle.shared.specs.declared.refusal.Cause.TheVariants.{Setting}
use Rattle.shared.specs.declared.refusal.Fault.{Fault}
use Rattle.shared.specs.Tokens.{Mark, Space, Tok, mark, word, stray, end, token_of, size, is_mark, is_word}
use Rattle.shared.specs.Forms.{Reading, and_then, cause_of, wrong, pass_at, tok_at, toks_at, token_number, or_wrong, num_at, Form, lead, trail, pair, times_at, series, judged}
use Rattle.text_laws.specs.Texts.{Toks, Inverse, literal}
use Rattle.text_laws.specs.Faults.{reach, Told}
use Rattle.text_laws.proofs.Readings.{then_ok, then_err, map-err, toks_append, toks_split, literal-first, tok_sound, tok_complete, toks_sound, toks_complete, seq_at}
use Rattle.text_laws.proofs.Inverses.{lead-inverse, trail-inverse}
use Rattle.text_laws.proofs.Agrees.{at_agree, long_agree, toks_to, toks_within, toks_agree, ok_agree}

-- the fault of a text that is read from `at` on; J is what the fault of a setting says
pub record Shows {X : Type 0} (J : List ℕ → ℕ → ℕ → Type 0) (r : Reading X) (text : List ℕ) (at : ℕ) (f : Fault) : Type 0 where
  pub from : at ≤ f.place
  pub within : f.place ≤ length text
  pub upto : ℕ
  pub past : f.place < upto
  pub told : Told J text f.place f.cause upto
  pub same : (other : List ℕ) → take upto text ≡ take upto other → r other at ≡ Err f

pub record Points {X : Type 0} (J : List ℕ → ℕ → ℕ → Type 0) (r : Reading X) : Type 0 where
  pub shows : (text : List ℕ) (at : ℕ) (f : Fault) → at ≤ length text → r text at ≡ Err f → Shows J r text at f

-- what is read hangs on the bytes up to one past the place where it ends
pub record Steady {X : Type 0} (r : Reading X) (next : X → ℕ) : Type 0 where
  pub far : (text : List ℕ) (at : ℕ) (x : X) → r text at ≡ Ok x → at ≤ next x
  pub within : (text : List ℕ) (at : ℕ) (x : X) → r text at ≡ Ok x → at ≤ length text → next x ≤ length text
  pub keeps : (text other : List ℕ) (at : ℕ) (x : X) → r text at ≡ Ok x → (e : ℕ) → next x < e → take e text ≡ take e other → r other at ≡ Ok x

pub form_steady : {X : Type 0} (s : Form X) → Inverse s → Steady s.reads (λ x. x.1)
form_steady s i =
    record {
      far = λ text at x e. omega (arith, toks_to text at x.1 (s.tokens x.0) (i.sound text at x.1 x.0 e).1);
      within = λ text at x e h. toks_within text at x.1 (s.tokens x.0) (i.sound text at x.1 x.0 e).1 h;
      keeps = λ text other at x r e h a. ok_agree s i text other at x.1 x.0 r e h a;
    }

pub toks_steady : (ts : List Tok) → literal ts ≡ true → Steady (toks_at ts) (λ p. p)
toks_steady ts l =
    record {
      far = λ text at to e. omega (arith, toks_to text at to ts (toks_sound ts text at to e));
      within = λ text at to e h. toks_within text at to ts (toks_sound ts text at to e) h;
      keeps = λ text other at to r e h a. toks_complete ts other at to l (toks_agree text other at to ts (toks_sound ts text at to r) e h a);
    }

module _ (J : List ℕ → ℕ → ℕ → Type 0) where
  told-wrong : (text : List ℕ) (p : ℕ) (t : Tok) → token_of (drop p text) ≡ t → Told J text p (cause_of t) (p + reach t)
  told-wrong text p (mark k) e = (λ d. let z : ◌≡◌ {A = ℕ} 0 1 = cc in omega arith, ap (λ t. p + reach t) (sym e))
  told-wrong text p (word w) e = (λ d. let z : ◌≡◌ {A = ℕ} 0 1 = cc in omega arith, ap (λ t. p + reach t) (sym e))
  told-wrong text p stray e = (e, refl)
  told-wrong text p end e = (λ d. let z : ◌≡◌ {A = ℕ} 0 1 = cc in omega arith, ap (λ t. p + reach t) (sym e))

  reach-some : (t : Tok) → 1 ≤ reach t
  reach-some (mark k) = omega arith
  reach-some (word w) = omega arith
  reach-some stray = omega arith
  reach-some end = omega arith

  -- a fault of the token at `at`, which every text with this token there has
  pub token_shows : {X : Type 0} (r : Reading X) (text : List ℕ) (at : ℕ) (f : Fault) → at ≤ length text → f ≡ record { place = at; cause = cause_of (token_of (drop at text)) }
      → ((other : List ℕ) → at ≤ length other → token_of (drop at text) ≡ token_of (drop at other) → r other at ≡ Err f) → Shows J r text at f
  token_shows r text at f h is same =
      let t = token_of (drop at text) in
      let place : f.place ≡ at = ap (λ g. g.place) is in
      let cause : f.cause ≡ cause_of t = ap (λ g. g.cause) is in
      record {
        from = omega arith;
        within = omega arith;
        upto = at + reach t;
        past = omega (arith, reach-some t);
        told = subst (λ g. Told J text g.place g.cause (at + reach t)) (sym is) (told-wrong text at t refl);
        same = λ other a. same other (long_agree text other at (at + reach t) h (omega (arith, reach-some t)) a) (at_agree text other at (at + reach t) (omega arith) a);
      }

  -- a reading of one token
  pub token_points : {X : Type 0} (g : Tok → ℕ → Result X Fault) → ((t : Tok) (at : ℕ) (f : Fault) → g t at ≡ Err f → f ≡ record { place = at; cause = cause_of t }) → Points J (λ text at. g (token_of (drop at text)) at)
  token_points g only =
      record {
        shows = λ text at f h e.
            token_shows (λ text at. g (token_of (drop at text)) at) text at f h (only (token_of (drop at text)) at f e) (λ other _ t. ap (λ u. g u at) (sym t) ∙ e);
      }

  -- one reading, and then another from where it ended
  pub then_shows : {X Y : Type 0} (r : Reading X) (next : X → ℕ) (k : X → Reading Y) → Points J r → Steady r next → (text : List ℕ) (at : ℕ) (f : Fault) → at ≤ length text
      → ((x : X) → r text at ≡ Ok x → k x text (next x) ≡ Err f → Shows J (k x) text (next x) f)
      → and_then (r text at) (λ x. k x text (next x)) ≡ Err f → Shows J (λ text at. and_then (r text at) (λ x. k x text (next x))) text at f
  then_shows r next k p st text at f h q e =
      ⊎_elim
      (λ d.
      let b = p.shows text at f h d in
      record { from = b.from; within = b.within; upto = b.upto; past = b.past; told = b.told; same = λ other a. ap (λ v. and_then v (λ y. k y other (next y))) (b.same other a) })
      (λ d.
      let x = d.0 in
      let b = q x d.1 d.2 in
      record {
        from = omega (arith, st.far text at x d.1, b.from);
        within = b.within;
        upto = b.upto;
        past = b.past;
        told = b.told;
        same = λ other a. ap (λ v. and_then v (λ y. k y other (next y))) (st.keeps text other at x d.1 b.upto (omega (arith, b.from, b.past)) a) ∙ b.same other a;
      })
      (then_err (r text at) (λ x. k x text (next x)) f e)

  pub then_points : {X Y : Type 0} (r : Reading X) (next : X → ℕ) (k : X → Reading Y) → Points J r → Steady r next → ((text : List ℕ) (at : ℕ) (x : X) → r text at ≡ Ok x → Points J (k x)) → Points J (λ text at. and_then (r text at) (λ x. k x text (next x)))
  then_points r next k p st q = record { shows = λ text at f h e. then_shows r next k p st text at f h (λ x d c. (q text at x d).shows text (next x) f (st.within text at x d h) c) e }

  ok_points : {X : Type 0} (g : ℕ → X) → Points J (λ _ at. Ok (g at))
  ok_points g = record { shows = λ text at f h e. let z : ◌≡◌ {A = ℕ} 0 1 = cc in absurd (omega arith) }

  pub map-shows : {X Y : Type 0} (r : Reading X) (g : X → Y) (text : List ℕ) (at : ℕ) (f : Fault) → (r text at ≡ Err f → Shows J r text at f) → and_then (r text at) (λ x. Ok (g x)) ≡ Err f → Shows J (λ text at. and_then (r text at) (λ x. Ok (g x))) text at f
  map-shows r g text at f p e =
      let b = p (map-err (r text at) g f e) in
      record { from = b.from; within = b.within; upto = b.upto; past = b.past; told = b.told; same = λ other a. ap (λ v. and_then v (λ x. Ok (g x))) (b.same other a) }

  pub map-points : {X Y : Type 0} (r : Reading X) (g : X → Y) → Points J r → Points J (λ text at. and_then (r text at) (λ x. Ok (g x)))
  map-points r g p = record { shows = λ text at f h e. map-shows r g text at f (p.shows text at f h) e }

  pub pass_points : (test : Tok → Bool) → Points J (pass_at test)
  pass_points test = token_points (λ t at. cond (test t) (Ok (at + size t)) (wrong t at)) (λ t at f e. only t at f (test t) e)
    where
      only : (t : Tok) (at : ℕ) (f : Fault) (b : Bool) → cond b (Ok (at + size t)) (wrong t at) ≡ Err f → f ≡ record { place = at; cause = cause_of t }
      only t at f true e = let z : ◌≡◌ {A = ℕ} 0 1 = cc in absurd (omega arith)
      only t at f false e = cc

  pub num-points : (low high : ℕ) → Points J (num_at low high)
  num-points low high = token_points (λ t at. or_wrong (token_number low high t) t at) (λ t at f e. only t at f (token_number low high t) e)
    where
      only : (t : Tok) (at : ℕ) (f : Fault) (o : Option ℕ) → or_wrong o t at ≡ Err f → f ≡ record { place = at; cause = cause_of t }
      only t at f none e = cc
      only t at f (some n) e = let z : ◌≡◌ {A = ℕ} 0 1 = cc in absurd (omega arith)

  tok_points : (t : Tok) → literal (t ∷ []) ≡ true → Points J (tok_at t)
  tok_points (mark k) l = pass_points (is_mark k)
  tok_points (word w) l = pass_points (is_word w)
  tok_points stray l = absurd (false≢true l)
  tok_points end l = absurd (false≢true l)

  tok_steady : (t : Tok) → literal (t ∷ []) ≡ true → Steady (tok_at t) (λ p. p)
  tok_steady t l =
      record {
        far = λ text at to e. omega (arith, (tok_sound t text at to e).1);
        within = λ text at to e h. toks_within text at to (t ∷ []) (tok_sound t text at to e) h;
        keeps = λ text other at to r e h a.
            let p = tok_sound t text at to r in tok_complete t other at l (toks_agree text other at to (t ∷ []) p e h a).0 ∙ ap Ok p.1;
      }

  toks_points : (ts : List Tok) → literal ts ≡ true → Points J (toks_at ts)
  toks_points [] l = ok_points (λ at. at)
  toks_points (t ∷ ts) l =
      let q = literal-first t ts l in then_points (tok_at t) (λ p. p) (λ _. toks_at ts) (tok_points t q.0) (tok_steady t q.0) (λ _ _ _ _. toks_points ts q.1)

  pub lead-points : {X : Type 0} (ts : List Tok) (s : Form X) → literal ts ≡ true → Points J s.reads → Points J (lead ts s).reads
  lead-points ts s l p = then_points (toks_at ts) (λ j. j) (λ _. s.reads) (toks_points ts l) (toks_steady ts l) (λ _ _ _ _. p)

  pub trail-points : {X : Type 0} (s : Form X) (ts : List Tok) → Inverse s → literal ts ≡ true → Points J s.reads → Points J (trail s ts).reads
  trail-points s ts i l p =
      then_points s.reads (λ x. x.1) (λ x text at. and_then (toks_at ts text at) (λ j. Ok (x.0, j))) p (form_steady s i) (λ _ _ x _. map-points (toks_at ts) (λ j. (x.0, j)) (toks_points ts l))

  -- one form and then another, whose values f joins
  seq_points : {X Y Z : Type 0} (s : Form X) (t : Reading (Y × ℕ)) (f : X → Y → Z) → Inverse s → Points J s.reads → Points J t → Points J (seq_at s.reads (λ _. t) f)
  seq_points s t f i p q =
      then_points s.reads (λ x. x.1) (λ x text at. and_then (t text at) (λ y. Ok (f x.0 y.0, y.1))) p (form_steady s i) (λ _ _ x _. map-points t (λ y. (f x.0 y.0, y.1)) q)

  pub pair-points : {X Y : Type 0} (s : Form X) (t : Form Y) → Inverse s → Points J s.reads → Points J t.reads → Points J (pair s t).reads
  pair-points s t i p q = seq_points s t.reads (λ x y. (x, y)) i p q

  pub times-points : {X : Type 0} (k : ℕ) (s : Form X) → Inverse s → Points J s.reads → Points J (times_at k s)
  times-points zero s i p = ok_points (λ at. ([], at))
  times-points (suc k) s i p = seq_points s (times_at k s) (λ x xs. x ∷ xs) i p (times-points k s i p)

  pub series-points : {X : Type 0} (more : ℕ) (s : Form X) → Inverse s → Points J s.reads → Points J (series more s).reads
  series-points more s i p =
      seq_points s (times_at more (lead (mark Space ∷ []) s)) (λ x xs. x ∷ xs) i p (times-points more (lead (mark Space ∷ []) s) (lead-inverse (mark Space ∷ []) s refl i) (lead-points (mark Space ∷ []) s refl p))

  -- a form that ends with a mark, and is judged once that mark is read
  module _ {X : Type 0} (test : X → Bool) (s : Form X) (k : Mark) (i : Inverse s)
      (j : (text : List ℕ) (at to : ℕ) (x : X) → s.fits x ≡ true → Toks text at to (s.tokens x ++ mark k ∷ []) → test x ≡ false → J text at to) where
    judged-shows : (text : List ℕ) (at : ℕ) (f : Fault) → at ≤ length text → (x : X × ℕ) → (trail s (mark k ∷ [])).reads text at ≡ Ok x → (b : Bool) → test x.0 ≡ b → cond b (Ok x) (Err (record { place = at; cause = Setting (record {}) })) ≡ Err f → Shows J (judged test (trail s (mark k ∷ []))).reads text at f
    judged-shows text at f h x d true q e = let z : ◌≡◌ {A = ℕ} 0 1 = cc in absurd (omega arith)
    judged-shows text at f h x d false q e =
        let t = trail s (mark k ∷ []) in
        let inv = trail-inverse s (mark k ∷ []) refl i in
        let u = inv.sound text at x.1 x.0 d in
        let m = toks_split text at x.1 (s.tokens x.0) (mark k ∷ []) u.1 in
        let long : m.0 + 1 ≡ x.1 = m.2.1 in
        let fault : Fault = record { place = at; cause = Setting (record {}) } in
        let is : fault ≡ f = cc in
        subst (Shows J (judged test t).reads text at) is
        (record {
          from = omega arith;
          within = h;
          upto = x.1;
          past = omega (arith, toks_to text at m.0 (s.tokens x.0) m.1);
          told = j text at x.1 x.0 u.0 u.1 q;
          same = λ other a.
              let one : m.0 + reach (token_of (drop m.0 text)) ≤ x.1 = subst (λ v. m.0 + reach v ≤ x.1) (sym m.2.0) (omega arith) in
              let stand : Toks other m.0 x.1 (mark k ∷ []) = (sym (at_agree text other m.0 x.1 one a) ∙ m.2.0, long) in
              let all = toks_append other at m.0 x.1 (s.tokens x.0) (mark k ∷ []) (toks_agree text other at m.0 (s.tokens x.0) m.1 x.1 (omega arith) a) stand in
              then_ok (t.reads other at) (λ y. cond (test y.0) (Ok y) (Err fault)) x (inv.complete other at x.1 x.0 u.0 all) ∙ cond-false (test x.0) (Ok x) (Err fault) q;
        })

    pub judged-points : Points J (trail s (mark k ∷ [])).reads → Points J (judged test (trail s (mark k ∷ []))).reads
    judged-points p =
        record {
          shows = λ text at f h e.
              let t = trail s (mark k ∷ []) in
              let fault : Fault = record { place = at; cause = Setting (record {}) } in
              ⊎_elim
              (λ d.
              let b = p.shows text at f h d in
              record { from = b.from; within = b.within; upto = b.upto; past = b.past; told = b.told; same = λ other a. ap (λ v. and_then v (λ x. cond (test x.0) (Ok x) (Err fault))) (b.same other a) })
              (λ d. judged-shows text at f h d.0 d.1 (test d.0.0) refl d.2)
              (then_err (t.reads text at) (λ x. cond (test x.0) (Ok x) (Err fault)) f e);
        }
