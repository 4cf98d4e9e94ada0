-- A row of checks refuses with the first cause that holds.
use Rattle.std.proofs.Common.{◌≡◌, ℕ, Bool, true, false, ◌⊎◌, ◌↔◌, List, [], ◌∷◌, sym, refl, ◌∙◌, subst, inl, inr}
use mathlib.Core.Option.{Option, none, some}
use Rattle.shared.specs.Book.{Book, Outcome, Request, unless, given, left}
use Rattle.shared.specs.Book.Outcome.{refused, done}
use Rattle.shared.specs.Notice.{Kind}
use Rattle.history.specs.Acceptance.{Cause, cause, NoneOf, FirstOf}
use Rattle.history.proofs.Stories.{Numbers}

abbrev pub Judged : Outcome → List Cause → Type 0
Judged (refused n) cs = FirstOf cs n
Judged (done b ss) cs = NoneOf cs

-- a cause that does not hold
passed : (o : Outcome) (n : ℕ) (C : Type 0) (cs : List Cause) → (C → ⊥) → Judged o cs → Judged o (cause n C ∷ cs)
passed (refused m) n C cs no-cause j = inr (no-cause, j)
passed (done b ss) n C cs no-cause j = (no-cause, j)

pub unless-judged : (t : Bool) (n : ℕ) (rest : Unit {0} → Outcome) (C : Type 0) (cs : List Cause) → (t ≡ true → C) → (t ≡ false → C → ⊥) → (t ≡ false → Judged (rest tt) cs) → Judged (unless t n rest) (cause n C ∷ cs)
unless-judged true n rest C cs f g h = inl (refl, f refl)
unless-judged false n rest C cs f g h = passed (rest tt) n C cs (g refl) (h refl)

pub given-judged : {A : Type 0} (o : Option A) (n : ℕ) (rest : A → Outcome) (C : Type 0) (cs : List Cause) → (o ≡ none → C) → ((x : A) → o ≡ some x → C → ⊥) → ((x : A) → o ≡ some x → Judged (rest x) cs)
    → Judged (given o n rest) (cause n C ∷ cs)
given-judged none n rest C cs f g h = inl (refl, f refl)
given-judged (some x) n rest C cs f g h = passed (rest x) n C cs (g x refl) (h x refl)

-- one number at most, and none where no cause holds
first_same : (cs : List Cause) (m n : ℕ) → FirstOf cs m → FirstOf cs n → m ≡ n
first_same [] m n f g = absurd f
first_same (c ∷ cs) m n f g = go (first_same cs m n) f g
  where
    go : (FirstOf cs m → FirstOf cs n → m ≡ n) → ((m ≡ c.number) × c.holds) ⊎ ((c.holds → ⊥) × FirstOf cs m) → ((n ≡ c.number) × c.holds) ⊎ ((c.holds → ⊥) × FirstOf cs n) → m ≡ n
    go ih (inl p) (inl q) = p.0 ∙ sym q.0
    go ih (inl p) (inr q) = absurd (q.0 p.1)
    go ih (inr p) (inl q) = absurd (p.0 q.1)
    go ih (inr p) (inr q) = ih p.1 q.1

first_none : (cs : List Cause) (n : ℕ) → FirstOf cs n → NoneOf cs → ⊥
first_none [] n f g = f
first_none (c ∷ cs) n f g = go (first_none cs n) f
  where
    go : (FirstOf cs n → NoneOf cs → ⊥) → ((n ≡ c.number) × c.holds) ⊎ ((c.holds → ⊥) × FirstOf cs n) → ⊥
    go ih (inl p) = g.0 p.1
    go ih (inr p) = ih p.1 g.1

-- what a call answers, from what it comes to
pub answer-judged : (kind : Kind) (b : Book) (q : Request) (cs : List Cause) (o : Outcome) → Numbers o → Judged o cs
    → (((left kind b q o).answer.0 ≡ 0) ↔ NoneOf cs) × ((m : ℕ) → (m ≡ 0 → ⊥) → ((left kind b q o).answer.0 ≡ m) ↔ FirstOf cs m)
answer-judged kind b q cs (refused n) nz j = (
  (λ e. absurd (nz.some n refl e), λ g. absurd (first_none cs n j g)),
  λ m ne. (λ e. subst (λ (i : ℕ). FirstOf cs i) e j, λ f. first_same cs n m j f),
)
answer-judged kind b q cs (done after ss) nz j =
    ((λ e. j, λ g. refl), λ m ne. (λ e. absurd (ne (sym e)), λ f. absurd (first_none cs m f j)))
