-- Words and flags, one step more, and what a flag tells.
use Rattle.std.proofs.Common.{◌≡◌, ℕ, zero, suc, ◌+◌, ◌-◌, ◌*◌, ◌/◌, ◌%◌, ◌^◌, ◌<◌, ◌≤◌, Bool, true, false, cond, eqb, List, [], ◌∷◌, ◌++◌, length, get_or, sym, refl, ap, ◌∙◌, ap₂, arith, pow-add}
use native.Mathlib.Nat.{div-div-eq-div-mul}
use lib.Bits.{bit_and, and_mask}
use Rattle.shared.specs.Graph.{◌⊕◌, flipped}
use Rattle.shared.specs.Lists.{memb}
use Rattle.chain_laws.specs.Plans.{row_after}
use Rattle.book_flips.specs.Words.{flags, word_of, stamped_word}

twice : (k : ℕ) → 2 ^ suc k ≡ 2 * 2 ^ k
twice k = let e : suc k ≡ 1 + k = omega arith in ap (λ (n : ℕ). 2 ^ n) e ∙ pow-add 2 1 k

-- what the code reads of a word
pub flag_read : (w k : ℕ) → eqb (bit_and (w / 2 ^ (k + 1)) 1) 1 ≡ eqb (w / 2 / 2 ^ k % 2) 1
flag_read w k =
    let up : 2 ^ (k + 1) ≡ 2 * 2 ^ k = let e : k + 1 ≡ suc k = omega arith in ap (λ (n : ℕ). 2 ^ n) e ∙ twice k in
    ap (λ (n : ℕ). eqb n 1) (and_mask (w / 2 ^ (k + 1)) 1 ∙ ap (λ (n : ℕ). w / n % 2) up ∙ ap (λ (n : ℕ). n % 2) (sym (div-div-eq-div-mul w 2 (2 ^ k))))

-- one step more
pub row_more : (tss : List (List ℕ)) (ts : List ℕ) (row : ℕ → Bool) (p : ℕ) → row_after row (tss ++ (ts ∷ [])) p ≡ memb p ts ⊕ row_after row tss p
row_more [] ts row p = refl
row_more (us ∷ tss) ts row p = row_more tss ts (flipped (λ q. memb q us) row) p

pub flags-more : (tss : List (List ℕ)) (ts : List ℕ) (p : ℕ) → flags (tss ++ (ts ∷ [])) p ≡ flags tss p + cond (memb p ts) (2 ^ length tss) 0
flags-more [] ts p = go (memb p ts)
  where
    go : (b : Bool) → cond b 1 0 + 2 * 0 ≡ 0 + cond b (2 ^ 0) 0
    go true = refl
    go false = refl
flags-more (us ∷ tss) ts p = omega (arith, flags-more tss ts p, go (memb p ts))
  where
    go : (b : Bool) → cond b (2 ^ suc (length tss)) 0 ≡ 2 * cond b (2 ^ length tss) 0
    go true = twice (length tss)
    go false = refl

-- flags are few, and each tells its step
few : (b : Bool) → cond b 1 0 ≤ 1
few true = omega arith
few false = omega arith

pub flags-low : (tss : List (List ℕ)) (p : ℕ) → flags tss p < 2 ^ length tss
flags-low [] p = omega arith
flags-low (ts ∷ tss) p = omega (arith, flags-low tss p, twice (length tss), few (memb p ts))

low_bit : (b : Bool) (f : ℕ) → ((cond b 1 0 + 2 * f) % 2 ≡ cond b 1 0) × ((cond b 1 0 + 2 * f) / 2 ≡ f)
low_bit true f = (omega arith, omega arith)
low_bit false f = (omega arith, omega arith)

pub flag_at : (tss : List (List ℕ)) (k p : ℕ) → k < length tss → flags tss p / 2 ^ k % 2 ≡ cond (memb p (get_or tss k [])) 1 0
flag_at [] k p h = absurd (omega arith)
flag_at (ts ∷ tss) zero p h = let one : flags (ts ∷ tss) p / 1 ≡ flags (ts ∷ tss) p = omega arith in ap (λ (n : ℕ). n % 2) one ∙ (low_bit (memb p ts) (flags tss p)).0
flag_at (ts ∷ tss) (suc k) p h =
    ap (λ (n : ℕ). flags (ts ∷ tss) p / n % 2) (twice k)
    ∙ ap (λ (n : ℕ). n % 2) (sym (div-div-eq-div-mul (flags (ts ∷ tss) p) 2 (2 ^ k)) ∙ ap (λ (n : ℕ). n / 2 ^ k) (low_bit (memb p ts) (flags tss p)).1)
    ∙ flag_at tss k p (omega arith)

-- the two parts of a word
pub word_bit : (row : ℕ → Bool) (tss : List (List ℕ)) (p : ℕ) → word_of row tss p % 2 ≡ cond (row_after row tss p) 1 0
word_bit row tss p = (low_bit (row_after row tss p) (flags tss p)).0

pub word_flags : (row : ℕ → Bool) (tss : List (List ℕ)) (p : ℕ) → word_of row tss p / 2 ≡ flags tss p
word_flags row tss p = (low_bit (row_after row tss p) (flags tss p)).1

pub word_low : (row : ℕ → Bool) (tss : List (List ℕ)) (p : ℕ) → word_of row tss p < 2 ^ suc (length tss)
word_low row tss p = omega (arith, flags-low tss p, twice (length tss), few (row_after row tss p))

-- the step's flag, as the code tests it
pub word_turned : (row : ℕ → Bool) (tss : List (List ℕ)) (k p : ℕ) → k < length tss → eqb (word_of row tss p / 2 / 2 ^ k % 2) 1 ≡ memb p (get_or tss k [])
word_turned row tss k p h = ap (λ (n : ℕ). eqb (n / 2 ^ k % 2) 1) (word_flags row tss p) ∙ ap (λ (n : ℕ). eqb n 1) (flag_at tss k p h) ∙ go (memb p (get_or tss k []))
  where
    go : (b : Bool) → eqb (cond b 1 0) 1 ≡ b
    go true = refl
    go false = refl

-- the word after a step that turns its place over, and after one that does not
flip-bit : (b : Bool) → 1 - cond b 1 0 ≡ cond (true ⊕ b) 1 0
flip-bit true = refl
flip-bit false = refl

pub word_more : (row : ℕ → Bool) (tss : List (List ℕ)) (ts : List ℕ) (p : ℕ) (b : Bool) → memb p ts ≡ b → word_of row (tss ++ (ts ∷ [])) p ≡ cond b (stamped_word (word_of row tss p) (length tss)) (word_of row tss p)
word_more row tss ts p true e =
    ap₂ (λ (x : Bool) (n : ℕ). cond x 1 0 + 2 * n)
    (row_more tss ts row p ∙ ap (λ (c : Bool). c ⊕ row_after row tss p) e)
    (flags-more tss ts p ∙ ap (λ (c : Bool). flags tss p + cond c (2 ^ length tss) 0) e)
    ∙ ap₂ (λ (m n : ℕ). m + 2 * (n + 2 ^ length tss)) (sym (flip-bit (row_after row tss p)) ∙ ap (λ (n : ℕ). 1 - n) (sym (word_bit row tss p))) (sym (word_flags row tss p))
word_more row tss ts p false e =
    ap₂ (λ (x : Bool) (n : ℕ). cond x 1 0 + 2 * n)
    (row_more tss ts row p ∙ ap (λ (c : Bool). c ⊕ row_after row tss p) e)
    (flags-more tss ts p ∙ ap (λ (c : Bool). flags tss p + cond c (2 ^ length tss) 0) e ∙ omega arith)

-- A pass over a list in place: below i each number is what f says, and the rest is as it was.
abbrev pub Passed : (ℕ → ℕ) → List ℕ → List ℕ → ℕ → Type 0
Passed f old new i = ((k : ℕ) → k < i → get_or new k 0 ≡ f k) × ((k : ℕ) → i ≤ k → get_or new k 0 ≡ get_or old k 0)
