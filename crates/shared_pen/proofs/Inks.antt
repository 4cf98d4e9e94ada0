-- A pen, byte after byte.
use Rattle.std.proofs.Common.{◌≡◌, ℕ, ◌+◌, ◌<◌, ◌≤◌, leb, List, [], ◌∷◌, ◌++◌, length, get_or, drop, set, Some, None, refl, ap, ◌∙◌, arith}
use Rattle.std.proofs.lemmas.List.{at_drop_more, at_drop_all}
use Rattle.std.proofs.lemmas.Bool.{cond-true, cond-false, le-leb, lt-leb}
use Rattle.shared_pen.specs.declared.pen.Pen.{Pen}
use Rattle.shared_pen.specs.Pens.{number_text, behind_spaces, numbers_text}
use Rattle.shared_pen.specs.Inks.{poured, pen_at, inked_behind, inked}

pub poured-append : {S : Type 0} (each : S → ℕ → S) (s : S) (xs ys : List ℕ) → poured each (poured each s xs) ys ≡ poured each s (xs ++ ys)
unfolding poured
poured-append each s [] ys = refl
poured-append each s (x ∷ xs) ys = poured-append each (each s x) xs ys

pub poured-none : {S : Type 0} (each : S → ℕ → S) (s : S) → poured each s [] ≡ s
unfolding poured
poured-none each s = refl

pub ruleset pours = (poured-append, poured-none)

-- the numbers from one of them on
pub behind-drop : (vs : List ℕ) (i : ℕ) → i < length vs → behind_spaces (drop i vs) ≡ 32 ∷ (number_text (get_or vs i 0) ++ behind_spaces (drop (i + 1) vs))
behind-drop vs i h = at_drop_more behind_spaces vs i 0 h

pub behind-drop_all : (vs : List ℕ) (i : ℕ) → length vs ≤ i → behind_spaces (drop i vs) ≡ []
behind-drop_all vs i h = at_drop_all behind_spaces vs i h

-- the first number has no space before it
pub numbers-front : (vs : List ℕ) → 1 ≤ length vs → numbers_text vs ≡ number_text (get_or vs 0 0) ++ behind_spaces (drop 1 vs)
numbers-front [] h = absurd (omega arith)
numbers-front (v ∷ vs) h = refl

pub ruleset settings = (poured-append, poured-none, behind-drop, behind-drop_all, numbers-front)

module _ (p : Pen) (b : ℕ) where
  pub byte_full : p.written ≡ None → inked p (b ∷ []) ≡ p
  unfolding poured
  byte_full e = ap (λ w. inked_behind w p b) e

  pub byte_over : (at : ℕ) → p.written ≡ Some at → length p.out.now ≤ at → inked p (b ∷ []) ≡ pen_at p p.out.now None
  unfolding poured
  byte_over at e h = ap (λ w. inked_behind w p b) e ∙ cond-true (leb (length p.out.now) at) _ _ (le-leb (length p.out.now) at h)

  pub byte_room : (at : ℕ) → p.written ≡ Some at → at < length p.out.now → inked p (b ∷ []) ≡ pen_at p (set p.out.now at b) (Some (at + 1))
  unfolding poured
  byte_room at e h = ap (λ w. inked_behind w p b) e ∙ cond-false (leb (length p.out.now) at) _ _ (lt-leb (length p.out.now) at h)
