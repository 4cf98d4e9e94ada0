-- Texts that begin with the same bytes have the same tokens there.
use Rattle.std.proofs.Common.{◌≡◌, ℕ, suc, ◌+◌, ◌<◌, ◌≤◌, Bool, true, false, cond, eqb, List, [], ◌∷◌, length, take, drop, Ok, sym, refl, ap, ◌∙◌, subst, ⊎_elim, arith, length-drop}
use Rattle.std.proofs.lemmas.List.{take-take, drop-take, length-append, length-take}
use Rattle.std.proofs.lemmas.Bool.{cond-true, cond-false, cases_Bool}
use Rattle.shared.specs.Tokens.{Open, Close, Space, Line, Tok, mark, word, stray, end, word_byte, run, token_of, spelled, size, spell}
use Rattle.shared.specs.Forms.{Form}
use Rattle.text_laws.specs.Texts.{Toks, Inverse}
use Rattle.text_laws.specs.Faults.{reach}
use Rattle.text_laws.proofs.Spelled.{toks_text}

heads : {A : Type 0} (n : ℕ) (x : A) (xs ys : List A) → x ∷ take n xs ≡ take (suc n) ys → (zs : List A) × (ys ≡ x ∷ zs) × (take n xs ≡ take n zs)
heads n x xs [] e = let z : ◌≡◌ {A = ℕ} 0 1 = cc in absurd (omega arith)
heads n x xs (y ∷ ys) e = let same : x ≡ y = cc in (ys, ap (λ v. v ∷ ys) (sym same), cc)

run_agree : (bs cs : List ℕ) → take (suc (length (run bs))) bs ≡ take (suc (length (run bs))) cs → run bs ≡ run cs
run_agree [] [] e = refl
run_agree [] (c ∷ cs) e = let z : ◌≡◌ {A = ℕ} 0 1 = cc in absurd (omega arith)
run_agree (b ∷ bs) cs e =
    ⊎_elim
    (λ t.
    let r : run (b ∷ bs) ≡ b ∷ run bs = cond-true (word_byte b) _ _ t in
    let h = heads (suc (length (run bs))) b bs cs (subst (λ l. take (suc (length l)) (b ∷ bs) ≡ take (suc (length l)) cs) r e) in
    r ∙ ap (λ l. b ∷ l) (run_agree bs h.0 h.2) ∙ sym (cond-true (word_byte b) (b ∷ run h.0) [] t) ∙ ap run (sym h.1))
    (λ f.
    let r : run (b ∷ bs) ≡ [] = cond-false (word_byte b) _ _ f in
    let h = heads 0 b bs cs (subst (λ l. take (suc (length l)) (b ∷ bs) ≡ take (suc (length l)) cs) r e) in
    r ∙ sym (cond-false (word_byte b) (b ∷ run h.0) [] f) ∙ ap run (sym h.1))
    (cases_Bool (word_byte b))

-- the tests of the first byte, and the token that they tell
abbrev pick : Bool → Bool → Bool → Bool → Bool → ℕ → List ℕ → Tok
pick o c s l w b r = cond o (mark Open) (cond c (mark Close) (cond s (mark Space) (cond l (mark Line) (cond w (word (b ∷ r)) stray))))

pick-agree : (o c s l w : Bool) (b : ℕ) (bs ys : List ℕ) → take (reach (pick o c s l w b (run bs))) (b ∷ bs) ≡ take (reach (pick o c s l w b (run bs))) ys → (cs : List ℕ) × (ys ≡ b ∷ cs) × (pick o c s l w b (run bs) ≡ pick o c s l w b (run cs))
pick-agree true c s l w b bs ys e = let h = heads 0 b bs ys e in (h.0, h.1, refl)
pick-agree false true s l w b bs ys e = let h = heads 0 b bs ys e in (h.0, h.1, refl)
pick-agree false false true l w b bs ys e = let h = heads 0 b bs ys e in (h.0, h.1, refl)
pick-agree false false false true w b bs ys e = let h = heads 0 b bs ys e in (h.0, h.1, refl)
pick-agree false false false false true b bs ys e =
    let h = heads (suc (length (run bs))) b bs ys e in (h.0, h.1, ap (λ r. word (b ∷ r)) (run_agree bs h.0 h.2))
pick-agree false false false false false b bs ys e = let h = heads 0 b bs ys e in (h.0, h.1, refl)

token_agree : (xs ys : List ℕ) → take (reach (token_of xs)) xs ≡ take (reach (token_of xs)) ys → token_of xs ≡ token_of ys
token_agree [] [] e = refl
token_agree [] (y ∷ ys) e = let z : ◌≡◌ {A = ℕ} 0 1 = cc in absurd (omega arith)
token_agree (b ∷ bs) ys e =
    let p = pick-agree (eqb b 40) (eqb b 41) (eqb b 32) (eqb b 10) (word_byte b) b bs ys e in
    p.2 ∙ ap token_of (sym p.1)

take-agree : (text other : List ℕ) (p k e : ℕ) → p + k ≤ e → take e text ≡ take e other → take k (drop p text) ≡ take k (drop p other)
take-agree text other p k e h a =
    sym (drop-take p k text) ∙ ap (drop p) (sym (take-take (p + k) e text h) ∙ ap (take (p + k)) a ∙ take-take (p + k) e other h) ∙ drop-take p k other

-- the token at p, in two texts with the same bytes up to its end
pub at_agree : (text other : List ℕ) (p e : ℕ) → p + reach (token_of (drop p text)) ≤ e → take e text ≡ take e other → token_of (drop p text) ≡ token_of (drop p other)
at_agree text other p e h a = token_agree (drop p text) (drop p other) (take-agree text other p (reach (token_of (drop p text))) e h a)

-- a text with the same bytes up to past `at` goes on up to `at` too
pub long_agree : (text other : List ℕ) (at e : ℕ) → at ≤ length text → at < e → take e text ≡ take e other → at ≤ length other
long_agree text other at e h l a = omega (arith, ap length a, length-take e text, length-take e other)

-- how far tokens go
pub toks_to : (text : List ℕ) (at to : ℕ) (ts : List Tok) → Toks text at to ts → to ≡ at + length (spell ts)
toks_to text at to [] e = omega arith
toks_to text at to (t ∷ ts) p = omega (arith, toks_to text (at + size t) to ts p.1, length-append (spelled t) (spell ts))

pub toks_within : (text : List ℕ) (at to : ℕ) (ts : List Tok) → Toks text at to ts → at ≤ length text → to ≤ length text
toks_within text at to ts p h =
    omega (arith, toks_to text at to ts p, ap length (toks_text text at to ts p), length-append (spell ts) (drop to text), length-drop at text, length-drop to text)

reach-size : (t : Tok) → reach t ≤ size t + 1
reach-size (mark k) = omega arith
reach-size (word w) = omega arith
reach-size stray = omega arith
reach-size end = omega arith

pub toks_agree : (text other : List ℕ) (at to : ℕ) (ts : List Tok) → Toks text at to ts → (e : ℕ) → to < e → take e text ≡ take e other → Toks other at to ts
toks_agree text other at to [] p e h a = p
toks_agree text other at to (t ∷ ts) p e h a =
    let near : at + reach (token_of (drop at text)) ≤ e =
    subst (λ u. at + reach u ≤ e) (sym p.0) (omega (arith, reach-size t, toks_to text (at + size t) to ts p.1)) in
    (sym (at_agree text other at e near a) ∙ p.0, toks_agree text other (at + size t) to ts p.1 e h a)

-- what is read is read of every text with the same bytes up to one past it
pub ok_agree : {X : Type 0} (s : Form X) → Inverse s → (text other : List ℕ) (at to : ℕ) (x : X) → s.reads text at ≡ Ok (x, to) → (e : ℕ) → to < e → take e text ≡ take e other → s.reads other at ≡ Ok (x, to)
ok_agree s i text other at to x r e h a = let p = i.sound text at to x r in i.complete other at to x p.0 (toks_agree text other at to (s.tokens x) p.1 e h a)
