-- What the rules put into a notice is a value of the notice's form.
use Rattle.std.proofs.Common.{◌≡◌, ℕ, zero, suc, ◌+◌, ◌-◌, ◌^◌, ◌<◌, ◌≤◌, Bool, true, false, cond, ◌&&◌, eqb, ltb, leb, ◌⊎◌, List, [], ◌∷◌, ◌++◌, map, length, get_or, sym, refl, ◌∙◌, subst, inl, inr, not-suc-le-zero, mod-lt, arith, length-append}
use mathlib.Core.Option.{none, some}
use Rattle.std.proofs.lemmas.Bool.{and_from, and_parts, leb-true, le-leb}
use Rattle.shared.specs.declared.sizes.Sizes.{Sizes}
use Rattle.shared.specs.Book.{Held, Slot, Book, Call, slots, value_at, other, turned, holding, step_for, written, placed, where_is, called}
use Rattle.shared.specs.Book.Outcome.{done}
use Rattle.shared.specs.Book.Call.{enter, change, strike}
use Rattle.shared.specs.Forms.{ascends, times_fits}
use Rattle.shared.specs.Kinds.{Hash}
use Rattle.shared.specs.Limits.{between}
use Rattle.shared.specs.Lists.{Among, up_from, kept, at2}
use Rattle.shared.specs.Notice.{Setting, Kind, Step, small, setting_form, step_fits, step_form, notice_form}
use Rattle.shared.specs.Table.{Part, slot_of, h0, h1}
use Rattle.history.specs.Premises.{Family, LawfulSetting, LawfulKind, LawfulCall}
use Rattle.chain_laws.proofs.Tools.{some_same, at2-same, at2-other, at2-cases, in_contents}
use Rattle.chain_laws.proofs.Chains.{chain-found, written_as, placed-last, placed-further}
use Rattle.history.proofs.Chains.{freed}
use Rattle.history.proofs.Calls.{parts_of, entered_as, changed_as, struck-as}

pub between-from : (low high n : ℕ) → low ≤ n → n ≤ high → between low high n ≡ true
between-from low high n a b = and_from (leb low n) (leb n high) (le-leb low n a) (le-leb n high b)

-- ascending places
abbrev Ascends : ℕ → List ℕ → Type 0
Ascends lo [] = Unit {0}
Ascends lo (x ∷ xs) = (lo ≤ x) × (x ≤ 65535) × Ascends (x + 1) xs

ascends-from : (lo lo' : ℕ) (xs : List ℕ) → lo ≤ lo' → Ascends lo' xs → Ascends lo xs
ascends-from lo lo' [] h a = tt
ascends-from lo lo' (x ∷ xs) h a = (let g : lo' ≤ x = a.0 in omega arith, a.1, a.2)

ascends-kept : (t : ℕ → Bool) (lo : ℕ) (xs : List ℕ) → Ascends lo xs → Ascends lo (kept t xs)
ascends-kept t lo [] a = tt
ascends-kept t lo (x ∷ xs) a = go (ascends-kept t (x + 1) xs a.2) (t x)
  where
    go : Ascends (x + 1) (kept t xs) → (b : Bool) → Ascends lo (cond b (x ∷ kept t xs) (kept t xs))
    go ih true = (a.0, a.1, ih)
    go ih false = let g : lo ≤ x = a.0 in ascends-from lo (x + 1) (kept t xs) (omega arith) ih

ascends-up : (lo n : ℕ) → lo + n ≤ 65536 → Ascends lo (up_from lo n)
ascends-up lo zero h = tt
ascends-up lo (suc n) h =
    (omega arith, omega arith, subst (λ (m : ℕ). Ascends m (up_from (suc lo) n)) (let q : suc lo ≡ lo + 1 = omega arith in q) (ascends-up (suc lo) n (omega arith)))

ascends-shift : (a lo : ℕ) (xs : List ℕ) → Ascends lo xs → Ascends (lo - a) (map (λ p. p - a) (kept (λ p. leb a p) xs))
ascends-shift a lo [] h = tt
ascends-shift a lo (x ∷ xs) h = go (ascends-shift a (x + 1) xs h.2) (leb a x) refl
  where
    rest : List ℕ
    rest = map (λ p. p - a) (kept (λ p. leb a p) xs)

    l1 : lo ≤ x
    l1 = h.0

    l2 : x ≤ 65535
    l2 = h.1

    go : Ascends (x + 1 - a) rest → (b : Bool) → leb a x ≡ b → Ascends (lo - a) (map (λ p. p - a) (cond b (x ∷ kept (λ p. leb a p) xs) (kept (λ p. leb a p) xs)))
    go ih true e =
        let g : a ≤ x = leb-true a x e in
        (omega (arith, l1), omega (arith, l2), subst (λ (m : ℕ). Ascends m rest) (let q : x + 1 - a ≡ x - a + 1 = omega arith in q) ih)
    go ih false e = ascends-from (lo - a) (x + 1 - a) rest (omega (arith, l1)) ih

ascends-fits : (lo : ℕ) (xs : List ℕ) → Ascends lo xs → ascends lo 65535 xs ≡ true
ascends-fits lo [] a = refl
ascends-fits lo (x ∷ xs) a = and_from (between lo 65535 x) (ascends (x + 1) 65535 xs) (between-from lo 65535 x a.0 a.1) (ascends-fits (x + 1) xs a.2)

-- a setting's numbers
numbers_fit : (xs : List ℕ) → ((i : ℕ) → get_or xs i 0 < 65536) → times_fits small (length xs) xs ≡ true
numbers_fit [] f = refl
numbers_fit (x ∷ xs) f =
    let l : x < 65536 = f 0 in
    and_from (between 0 65535 x) (times_fits small (length xs) xs) (between-from 0 65535 x (omega arith) (omega arith)) (numbers_fit xs (λ i. f (suc i)))

module _ (kind : Kind) (ok : LawfulKind kind) where
  setting_fits : (v : Setting) → LawfulSetting kind v → (setting_form kind).fits v ≡ true
  setting_fits [] l =
      let a : 1 ≤ kind.count = ok.some in
      let e : 0 ≡ kind.count = l.even in
      let z : 1 ≤ 0 = omega arith in
      absurd (not-suc-le-zero z)
  setting_fits (x ∷ xs) l =
      let e : suc (length xs) ≡ kind.count = l.even in
      let few : length xs ≡ kind.count - 1 = omega arith in
      let h : x < 65536 = l.low 0 in
      and_from (between 0 65535 x && times_fits small (kind.count - 1) xs) (kind.lawful (x ∷ xs))
      (and_from (between 0 65535 x) (times_fits small (kind.count - 1) xs) (between-from 0 65535 x (omega arith) (omega arith))
      (subst (λ (n : ℕ). times_fits small n xs ≡ true) few (numbers_fit xs (λ i. l.low (suc i)))))
      l.own

  abbrev pub StepsFit : List Step → Type 0
  StepsFit ss = times_fits (step_form kind) (length ss) ss ≡ true

  fits-append : (xs ys : List Step) → StepsFit xs → StepsFit ys → StepsFit (xs ++ ys)
  fits-append [] ys a b = b
  fits-append (x ∷ xs) ys a b =
      let p = and_parts (step_fits kind x) (times_fits (step_form kind) (length xs) xs) a in
      and_from (step_fits kind x) (times_fits (step_form kind) (length (xs ++ ys)) (xs ++ ys)) p.0 (fits-append xs ys p.1 b)

  -- a notice whose number and count are in their limits
  pub notice_fits : (n : ℕ) (ss : List Step) → 1 ≤ n → n ≤ 4000000000 → length ss ≤ 5 → StepsFit ss → (notice_form kind).fits (n, ss) ≡ true
  notice_fits n ss lo hi five f =
      and_from (between 1 4000000000 n && between 0 5 (length ss)) (times_fits (step_form kind) (length ss) ss)
      (and_from (between 1 4000000000 n) (between 0 5 (length ss)) (between-from 1 4000000000 n lo hi) (between-from 0 5 (length ss) (omega arith) five)) f

  abbrev pub HeldLawful : (ℕ → ℕ → Slot) → Type 0
  HeldLawful slot = (j i : ℕ) (h : Held) → slot j i ≡ some h → LawfulSetting kind h.1

  put-lawful : (slot : ℕ → ℕ → Slot) (j i : ℕ) (h : Held) → HeldLawful slot → LawfulSetting kind h.1 → HeldLawful (at2 slot j i (some h))
  put-lawful slot j i h f g p q x e = go (at2-cases j i p q)
    where
      go : ((p ≡ j) × (q ≡ i)) ⊎ (p ≡ j → q ≡ i → ⊥) → LawfulSetting kind x.1
      go (inl c) =
          subst (λ (y : Held). LawfulSetting kind y.1)
          (some_same (sym (at2-same slot j i (some h)) ∙ subst (λ (w : ℕ). at2 slot j i (some h) w i ≡ some x) c.0 (subst (λ (w : ℕ). at2 slot j i (some h) p w ≡ some x) c.1 e))) g
      go (inr n) = f p q x (sym (at2-other slot j i (some h) p q n) ∙ e)

  module _ (z : Sizes) (hash : Hash) where
    abbrev blank : Setting
    blank = kind.blank

    turned-ascends : (before : List Part) (row : ℕ → Bool) (j : ℕ) (k : Part) → Ascends 0 (turned z hash blank before row j k)
    turned-ascends before row j k = go _ _
      where
        go : (b : Bool) (hit : ℕ → Bool) → Ascends 0 (cond b (kept hit (up_from 0 (z.a + z.b))) [])
        go true hit = ascends-kept hit 0 (up_from 0 (z.a + z.b)) (ascends-up 0 (z.a + z.b) (omega arith))
        go false hit = tt

    value_lawful : (s : ℕ) (hs : List Held) → ((h : Held) → Among h hs → LawfulSetting kind h.1) → (i : ℕ) → LawfulSetting kind (value_at hash blank s hs i)
    value_lawful s [] f i = ok.blank
    value_lawful s (h ∷ hs) f i = go (value_lawful s hs (λ g m. f g (inr m)) i) (eqb (slot_of hash s h.0) i)
      where
        go : LawfulSetting kind (value_at hash blank s hs i) → (b : Bool) → LawfulSetting kind (cond b h.1 (value_at hash blank s hs i))
        go ih true = f h (inl refl)
        go ih false = ih

    step_fits_lem : (before : List Part) (b : Book) (j i : ℕ) (h : Held) (s : ℕ) → j ≤ 65535 → s < 256 → HeldLawful b.slot → LawfulSetting kind h.1 → step_fits kind (step_for z hash blank before b j i h s) ≡ true
    step_fits_lem before b j i h s low few f g =
        and_from ((between 0 65535 j && between 0 65535 s) && four) (ascends 0 65535 pa && ascends 0 65535 pb)
        (and_from (between 0 65535 j && between 0 65535 s) four
        (and_from (between 0 65535 j) (between 0 65535 s) (between-from 0 65535 j (omega arith) low) (between-from 0 65535 s (omega arith) (omega arith)))
        (and_from _ _ (v 0) (and_from _ _ (v 1) (and_from _ _ (v 2) (and_from _ _ (v 3) refl)))))
        (and_from (ascends 0 65535 pa) (ascends 0 65535 pb) (ascends-fits 0 pa (ascends-kept (λ p. ltb p z.a) 0 ps t))
        (ascends-fits 0 pb (subst (λ (m : ℕ). Ascends m pb) (let q : 0 - z.a ≡ 0 = omega arith in q) (ascends-shift z.a 0 ps t))))
      where
        ps : List ℕ
        ps = turned z hash blank before b.row j h.0

        pa : List ℕ
        pa = kept (λ p. ltb p z.a) ps

        pb : List ℕ
        pb = map (λ p. p - z.a) (kept (λ p. leb z.a p) ps)

        t : Ascends 0 ps
        t = turned-ascends before b.row j h.0

        value : ℕ → Setting
        value = value_at hash blank s (holding z hash blank b j i h)

        fit : Setting → Bool
        fit = (setting_form kind).fits

        four : Bool
        four = fit (value 0) && (fit (value 1) && (fit (value 2) && (fit (value 3) && true)))

        v : (n : ℕ) → fit (value n) ≡ true
        v n =
            setting_fits (value n)
            (value_lawful s (holding z hash blank b j i h) (λ k m. let c = in_contents (at2 b.slot j i (some h)) j k m in put-lawful b.slot j i h f g j c.0 k c.1) n)

    written-fits : (before : List Part) (b : Book) (j i : ℕ) (h : Held) (w : Book × Step) → j ≤ 65535 → HeldLawful b.slot → LawfulSetting kind h.1 → written z hash blank before b j i h ≡ some w
        → (step_fits kind w.1 ≡ true) × HeldLawful w.0.slot
    written-fits before b j i h w low f g e =
        let r = written_as z hash blank before b j h i w e in
        subst (λ (y : Book × Step). (step_fits kind y.1 ≡ true) × HeldLawful y.0.slot) r.2
        (step_fits_lem before b j i h r.0 low r.3 f g, put-lawful b.slot j i h f g)

    other-low : (k : Part) (j : ℕ) → other z hash k j ≤ 65535
    other-low k j = go (eqb (h0 z hash k) j)
      where
        go : (b : Bool) → cond b (h1 z hash k) (h0 z hash k) ≤ 65535
        go true = let l : h1 z hash k < z.buckets = mod-lt _ z.some_buckets in omega arith
        go false = let l : h0 z hash k < z.buckets = mod-lt _ z.some_buckets in omega arith

    placed-fits : (before : List Part) (is : List ℕ) (b : Book) (j : ℕ) (h : Held) (r : Book × List Step) → j ≤ 65535 → HeldLawful b.slot → LawfulSetting kind h.1 → placed z hash blank before b j h is ≡ some r
        → StepsFit r.1 × HeldLawful r.0.slot × (length r.1 ≡ suc (length is))
    placed-fits before [] b j h r low f g e =
        let a = placed-last z hash blank before b j h r e in
        let d = written-fits before b j a.0 h a.1 low f g a.3 in
        subst (λ (y : Book × List Step). StepsFit y.1 × HeldLawful y.0.slot × (length y.1 ≡ 1)) a.4 (and_from _ _ d.0 refl, d.1, refl)
    placed-fits before (i ∷ is) b j h r low f g e =
        let a = placed-further z hash blank before b j h i is r e in
        let k = a.0 in
        let m = placed-fits before is (slots b (at2 b.slot j i none)) (other z hash k.0 j) k a.1 (other-low k.0 j) (λ p q x u. f p q x (freed b.slot j i p q x u).0) (f j i k a.3) a.4 in
        let w = written-fits before a.1.0 j i h a.2 low m.1 g a.5 in
        let long : length a.1.1 ≡ suc (length is) = m.2 in
        subst (λ (y : Book × List Step). StepsFit y.1 × HeldLawful y.0.slot × (length y.1 ≡ suc (suc (length is)))) a.6
        (fits-append a.1.1 (a.2.1 ∷ []) m.0 (and_from _ _ w.0 refl), w.1, length-append a.1.1 (a.2.1 ∷ []) ∙ omega arith)

    -- an accepted call's steps, and what the book then holds
    pub call_fits : Family hash → (b : Book) → ((j : ℕ) → b.seed j < 256) → ((k : Part) (p : ℕ × ℕ) → where_is z b.slot k ≡ some p → p.0 < z.buckets)
        → (room : ℕ) (c : Call) → LawfulCall kind c → HeldLawful b.slot → (b' : Book) (ss : List Step) → called z hash kind b room c ≡ done b' ss
        → StepsFit ss × HeldLawful b'.slot × (length ss ≤ 5)
    call_fits low b seeds inside room (enter k v) g f b' ss e =
        let i = entered_as z hash kind b k v room b' ss e in
        let c = chain-found z hash b.slot k i.start i.chained in
        let r = placed-fits (parts_of z hash b) i.start.1 b i.start.0 (k, v) i.end (side i.start.0 c.side) f g i.put in
        let few : length i.start.1 ≤ 4 = c.few in
        let long : length i.end.1 ≡ suc (length i.start.1) = r.2 in
        subst (λ (y : List Step). StepsFit y × HeldLawful b'.slot × (length y ≤ 5)) i.steps
        (r.0, subst (λ (y : Book). HeldLawful y.slot) i.book r.1, omega arith)
      where
        side : (j : ℕ) → (j ≡ h0 z hash k) ⊎ (j ≡ h1 z hash k) → j ≤ 65535
        side j (inl q) = let l : h0 z hash k < z.buckets = mod-lt _ z.some_buckets in omega arith
        side j (inr q) = let l : h1 z hash k < z.buckets = mod-lt _ z.some_buckets in omega arith
    call_fits low b seeds inside room (change k v) g f b' ss e =
        let a = changed_as z hash kind b k v room b' ss e in
        let p = a.0 in
        let few : b.seed p.0 < 256 = seeds p.0 in
        let l : hash (b.seed p.0) k < 2 ^ 32 = low (b.seed p.0) k (omega arith) in
        let j : p.0 < z.buckets = inside k p a.1 in
        let most : z.buckets ≤ 4096 = z.few_buckets in
        subst (λ (y : List Step). StepsFit y × HeldLawful b'.slot × (length y ≤ 5)) a.3 (
          and_from _ _ (and_from _ _ (and_from _ _ (between-from 0 65535 p.0 (omega arith) (omega arith)) (between-from 0 65535 (slot_of hash (b.seed p.0) k) (omega arith) (omega arith))) (setting_fits v g)) refl,
          subst (λ (y : Book). HeldLawful y.slot) a.2 (put-lawful b.slot p.0 p.1 (k, v) f g),
          omega arith,
        )
    call_fits low b seeds inside room (strike k) g f b' ss e =
        let a = struck-as z hash kind b k room b' ss e in
        let p = a.0 in
        subst (λ (y : List Step). StepsFit y × HeldLawful b'.slot × (length y ≤ 5)) a.3
        (refl, subst (λ (y : Book). HeldLawful y.slot) a.2 (λ j i h u. f j i h (freed b.slot p.0 p.1 j i h u).0), omega arith)
