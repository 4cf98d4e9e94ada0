-- Readings one after the other, and tokens side by side.
use Rattle.std.proofs.Common.{◌≡◌, ℕ, ◌+◌, Bool, true, false, cond, ◌⊎◌, List, [], ◌∷◌, ◌++◌, drop, Ok, Err, Result, sym, refl, ap, ◌∙◌, subst, inl, inr, arith, rules}
use Rattle.std.proofs.lemmas.Slice.Eq.{compares_Decides}
use Rattle.std.proofs.lemmas.Bool.{cond-true, false≢true, eq-eqb}
use Rattle.shared.specs.Lists.{same_list}
use Rattle.shared.specs.Tokens.{Mark, Open, Close, Space, Line, Tok, mark, word, stray, end, byte_of, token_of, size, is_mark, is_word}
use Rattle.shared.specs.Forms.{Reading, and_then, pass_at, tok_at, toks_at}
use Rattle.text_laws.specs.Texts.{Toks, literal}

pub then_parts : {X Y E : Type 0} (r : Result X E) (f : X → Result Y E) (y : Y) → and_then r f ≡ Ok y → (x : X) × (r ≡ Ok x) × (f x ≡ Ok y)
then_parts (Ok x) f y e = (x, refl, e)
then_parts (Err d) f y e = let z : ◌≡◌ {A = ℕ} 0 1 = cc in absurd (omega arith)

pub then_ok : {X Y E : Type 0} (r : Result X E) (f : X → Result Y E) (x : X) → r ≡ Ok x → and_then r f ≡ f x
then_ok r f x e = ap (λ q. and_then q f) e

-- the first fails, or the second does on what the first read
pub then_err : {X Y E : Type 0} (r : Result X E) (f : X → Result Y E) (c : E) → and_then r f ≡ Err c → (r ≡ Err c) ⊎ ((x : X) × (r ≡ Ok x) × (f x ≡ Err c))
then_err (Ok x) f c e = inr (x, refl, e)
then_err (Err d) f c e = inl (cc)

pub map-err : {X Y E : Type 0} (r : Result X E) (f : X → Y) (c : E) → and_then r (λ x. Ok (f x)) ≡ Err c → r ≡ Err c
map-err (Ok x) f c e = let z : ◌≡◌ {A = ℕ} 0 1 = cc in absurd (omega arith)
map-err (Err d) f c e = cc

pub then_same : {X Y E : Type 0} (r : Result X E) (f g : X → Result Y E) → ((x : X) → r ≡ Ok x → f x ≡ g x) → and_then r f ≡ and_then r g
then_same (Ok x) f g same = same x refl
then_same (Err d) f g same = refl

pub cond-ok : {X E : Type 0} (b : Bool) (x y : X) (d : E) → cond b (Ok x) (Err d) ≡ Ok y → (b ≡ true) × (x ≡ y)
cond-ok true x y d e = (refl, cc)
cond-ok false x y d e = let z : ◌≡◌ {A = ℕ} 0 1 = cc in absurd (omega arith)

pub ok_same : {X E : Type 0} (x y : X) → ◌≡◌ {A = Result X E} (Ok x) (Ok y) → x ≡ y
ok_same x y e = cc

pub ok_pair : {X E : Type 0} (x y : X) (m n : ℕ) → ◌≡◌ {A = Result (X × ℕ) E} (Ok (x, m)) (Ok (y, n)) → (x ≡ y) × (m ≡ n)
ok_pair x y m n e = let d = ok_same (x, m) (y, n) e in (ap (λ w. w.0) d, ap (λ w. w.1) d)

-- tokens side by side
pub toks_append : (text : List ℕ) (at mid to : ℕ) (xs ys : List Tok) → Toks text at mid xs → Toks text mid to ys → Toks text at to (xs ++ ys)
toks_append text at mid to [] ys e q = subst (λ k. Toks text k to ys) (sym e) q
toks_append text at mid to (x ∷ xs) ys p q = (p.0, toks_append text (at + size x) mid to xs ys p.1 q)

pub toks_split : (text : List ℕ) (at to : ℕ) (xs ys : List Tok) → Toks text at to (xs ++ ys) → (mid : ℕ) × Toks text at mid xs × Toks text mid to ys
toks_split text at to [] ys q = (at, refl, q)
toks_split text at to (x ∷ xs) ys p = let r = toks_split text (at + size x) to xs ys p.1 in (r.0, (p.0, r.1), r.2)

-- tests of tokens
same_mark : (k j : Mark) → is_mark k (mark j) ≡ true → mark j ≡ mark k
same_mark Open Open e = refl
same_mark Open Close e = absurd (false≢true e)
same_mark Open Space e = absurd (false≢true e)
same_mark Open Line e = absurd (false≢true e)
same_mark Close Open e = absurd (false≢true e)
same_mark Close Close e = refl
same_mark Close Space e = absurd (false≢true e)
same_mark Close Line e = absurd (false≢true e)
same_mark Space Open e = absurd (false≢true e)
same_mark Space Close e = absurd (false≢true e)
same_mark Space Space e = refl
same_mark Space Line e = absurd (false≢true e)
same_mark Line Open e = absurd (false≢true e)
same_mark Line Close e = absurd (false≢true e)
same_mark Line Space e = absurd (false≢true e)
same_mark Line Line e = refl

pub mark_is : (k : Mark) (t : Tok) → is_mark k t ≡ true → t ≡ mark k
mark_is k (mark j) e = same_mark k j e
mark_is k (word w) e = absurd (false≢true e)
mark_is k stray e = absurd (false≢true e)
mark_is k end e = absurd (false≢true e)

pub mark_same : (k : Mark) (t : Tok) → t ≡ mark k → is_mark k t ≡ true
mark_same k t e = ap (is_mark k) e ∙ eq-eqb (byte_of k) (byte_of k) refl

pub word_is : (w : List ℕ) (t : Tok) → is_word w t ≡ true → t ≡ word w
word_is w (mark j) e = absurd (false≢true e)
word_is w (word v) e = ap word (sym ((compares_Decides same_list (search rules) w v).0 e))
word_is w stray e = absurd (false≢true e)
word_is w end e = absurd (false≢true e)

pub word_same : (w : List ℕ) (t : Tok) → t ≡ word w → is_word w t ≡ true
word_same w t e = ap (is_word w) e ∙ (compares_Decides same_list (search rules) w w).1 refl

-- one token that has to stand there
pub pass_parts : (test : Tok → Bool) (text : List ℕ) (at to : ℕ) → pass_at test text at ≡ Ok to → (test (token_of (drop at text)) ≡ true) × (at + size (token_of (drop at text)) ≡ to)
pass_parts test text at to e = cond-ok _ _ _ _ e

pub tok_sound : (t : Tok) (text : List ℕ) (at to : ℕ) → tok_at t text at ≡ Ok to → Toks text at to (t ∷ [])
tok_sound (mark k) text at to e =
    let p = pass_parts (is_mark k) text at to e in let q = mark_is k _ p.0 in (q, ap (λ t. at + size t) (sym q) ∙ p.1)
tok_sound (word w) text at to e =
    let p = pass_parts (is_word w) text at to e in let q = word_is w _ p.0 in (q, ap (λ t. at + size t) (sym q) ∙ p.1)
tok_sound stray text at to e = let z : ◌≡◌ {A = ℕ} 0 1 = cc in absurd (omega arith)
tok_sound end text at to e = let z : ◌≡◌ {A = ℕ} 0 1 = cc in absurd (omega arith)

pub literal-first : (t : Tok) (ts : List Tok) → literal (t ∷ ts) ≡ true → (literal (t ∷ []) ≡ true) × (literal ts ≡ true)
literal-first (mark k) ts l = (refl, l)
literal-first (word w) ts l = (refl, l)
literal-first stray ts l = absurd (false≢true l)
literal-first end ts l = absurd (false≢true l)

pub tok_complete : (t : Tok) (text : List ℕ) (at : ℕ) → literal (t ∷ []) ≡ true → token_of (drop at text) ≡ t → tok_at t text at ≡ Ok (at + size t)
tok_complete (mark k) text at l e = cond-true (is_mark k (token_of (drop at text))) _ _ (mark_same k _ e) ∙ ap (λ t. Ok (at + size t)) e
tok_complete (word w) text at l e = cond-true (is_word w (token_of (drop at text))) _ _ (word_same w _ e) ∙ ap (λ t. Ok (at + size t)) e
tok_complete stray text at l e = absurd (false≢true l)
tok_complete end text at l e = absurd (false≢true l)

pub toks_sound : (ts : List Tok) (text : List ℕ) (at to : ℕ) → toks_at ts text at ≡ Ok to → Toks text at to ts
toks_sound [] text at to e = cc
toks_sound (t ∷ ts) text at to e =
    let p = then_parts (tok_at t text at) (λ q. toks_at ts text q) to e in
    let q = tok_sound t text at p.0 p.1 in
    (q.0, subst (λ k. Toks text k to ts) (sym q.1) (toks_sound ts text p.0 to p.2))

pub toks_complete : (ts : List Tok) (text : List ℕ) (at to : ℕ) → literal ts ≡ true → Toks text at to ts → toks_at ts text at ≡ Ok to
toks_complete [] text at to l e = ap Ok e
toks_complete (t ∷ ts) text at to l p =
    let q = literal-first t ts l in
    then_ok (tok_at t text at) (λ k. toks_at ts text k) (at + size t) (tok_complete t text at q.0 p.0) ∙ toks_complete ts text (at + size t) to q.1 p.1

-- one reading, then another that may hang on what the first one read; f joins their values
abbrev pub seq_at : {X Y Z : Type 0} → Reading (X × ℕ) → (X → Reading (Y × ℕ)) → (X → Y → Z) → Reading (Z × ℕ)
seq_at r s f text at = and_then (r text at) (λ x. and_then (s x.0 text x.1) (λ y. Ok (f x.0 y.0, y.1)))

module _ {X Y Z : Type 0} (r : Reading (X × ℕ)) (s : X → Reading (Y × ℕ)) (f : X → Y → Z) (text : List ℕ) where
  pub seq_parts : (at to : ℕ) (z : Z) → seq_at r s f text at ≡ Ok (z, to) → (x : X) × (mid : ℕ) × (y : Y) × (r text at ≡ Ok (x, mid)) × (s x text mid ≡ Ok (y, to)) × (f x y ≡ z)
  seq_parts at to z e =
      let p = then_parts (r text at) (λ x. and_then (s x.0 text x.1) (λ y. Ok (f x.0 y.0, y.1))) (z, to) e in
      let q = then_parts (s p.0.0 text p.0.1) (λ y. Ok (f p.0.0 y.0, y.1)) (z, to) p.2 in
      let d = ok_pair (f p.0.0 q.0.0) z q.0.1 to q.2 in
      (p.0.0, p.0.1, q.0.0, p.1, subst (λ k. s p.0.0 text p.0.1 ≡ Ok (q.0.0, k)) d.1 q.1, d.0)

  pub seq_ok : (at mid to : ℕ) (x : X) (y : Y) → r text at ≡ Ok (x, mid) → s x text mid ≡ Ok (y, to) → seq_at r s f text at ≡ Ok (f x y, to)
  seq_ok at mid to x y e d =
      then_ok (r text at) (λ x. and_then (s x.0 text x.1) (λ y. Ok (f x.0 y.0, y.1))) (x, mid) e
      ∙ then_ok (s x text mid) (λ y. Ok (f x y.0, y.1)) (y, to) d
