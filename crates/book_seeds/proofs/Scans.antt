-- The scan of some slots, from the first to the last, that looks for two parts in one slot.
use Rattle.std.proofs.Common.{◌≡◌, ℕ, zero, suc, eqb, ◌+◌, ◌<◌, Bool, true, false, not, ◌&&◌, ◌||◌, List, [], ◌∷◌, ◌++◌, map, length, get_or, take, drop, set, sym, refl, ap, ◌∙◌, subst, ap₂, inl, inr, arith, append-nil, length-set, get_or-set_other, get_or-set_same}
use Rattle.std.specs.Prelude.{Option, Some, None}
use Rattle.std.proofs.lemmas.List.{take_more, take-append-drop}
use Rattle.std.proofs.lemmas.Bool.{cases_eq, eq-eqb, ne_eqb}
use Rattle.shared.specs.Kinds.{Hash}
use Rattle.shared.specs.Lists.{apart, memb}
use Rattle.shared.specs.Table.{Part, slot_of}
use Rattle.book_slots.specs.declared.Held.{Held}
use Rattle.book_slots.specs.Slots.{parts}

-- no two of the parts share a slot under the seed
abbrev pub serves : Hash → List Part → ℕ → Bool
serves hash ks s = apart (map (slot_of hash s) ks)

-- one number more
or_swap : (a b c : Bool) → (a || (b || c)) ≡ (b || (a || c))
or_swap true true c = refl
or_swap true false c = refl
or_swap false true c = refl
or_swap false false c = refl

memb-last : (x y : ℕ) (xs : List ℕ) → memb x (xs ++ (y ∷ [])) ≡ memb x (y ∷ xs)
memb-last x y [] = refl
memb-last x y (z ∷ xs) = ap (λ (b : Bool). eqb x z || b) (memb-last x y xs) ∙ or_swap (eqb x z) (eqb x y) (memb x xs)

eqb-comm : (x y : ℕ) → eqb x y ≡ eqb y x
eqb-comm x y = elim (cases_eq x y) [ inl e ↦ eq-eqb x y e ∙ sym (eq-eqb y x (sym e)) | inr n ↦ ne_eqb x y n ∙ sym (ne_eqb y x (λ e. n (sym e))) ]

not_swap : (a m n c : Bool) → (not (a || m) && (not n && c)) ≡ (not (a || n) && (not m && c))
not_swap true m n c = refl
not_swap false true true c = refl
not_swap false true false c = refl
not_swap false false true c = refl
not_swap false false false c = refl

apart-last : (xs : List ℕ) (y : ℕ) → apart (xs ++ (y ∷ [])) ≡ (not (memb y xs) && apart xs)
apart-last [] y = refl
apart-last (x ∷ xs) y =
    ap₂ (λ (b c : Bool). not b && c) (memb-last x y xs) (apart-last xs y)
    ∙ ap (λ (b : Bool). not (b || memb x xs) && (not (memb y xs) && apart xs)) (eqb-comm x y)
    ∙ not_swap (eqb y x) (memb x xs) (memb y xs) (apart xs)

-- and if two of the first are the same, two of all are
not_first : (m n a b : Bool) → (m ≡ true → n ≡ true) → (a ≡ false → b ≡ false) → (not m && a) ≡ false → (not n && b) ≡ false
not_first true n a b to rest e = ap (λ (c : Bool). not c && b) (to refl)
not_first false true a b to rest e = refl
not_first false false a b to rest e = rest e

memb-first : (x : ℕ) (xs ys : List ℕ) → memb x xs ≡ true → memb x (xs ++ ys) ≡ true
memb-first x [] ys e = cc
memb-first x (z ∷ xs) ys e = go (eqb x z) (memb-first x xs ys) e
  where
    go : (b : Bool) → (memb x xs ≡ true → memb x (xs ++ ys) ≡ true) → (b || memb x xs) ≡ true → (b || memb x (xs ++ ys)) ≡ true
    go true rest e = refl
    go false rest e = rest e

apart-first : (xs ys : List ℕ) → apart xs ≡ false → apart (xs ++ ys) ≡ false
apart-first [] ys e = cc
apart-first (x ∷ xs) ys e = not_first (memb x xs) (memb x (xs ++ ys)) (apart xs) (apart (xs ++ ys)) (memb-first x xs ys) (apart-first xs ys) e

module _ {P S : Type 0} (f : List ℕ → ℕ) (bytes : P → List ℕ) where
  -- the slots that the parts take
  abbrev pub taken : List (Option (Held P S)) → List ℕ
  taken xs = map f (parts bytes xs)

  taken-append : (xs ys : List (Option (Held P S))) → taken (xs ++ ys) ≡ taken xs ++ taken ys
  unfolding parts
  taken-append [] ys = refl
  taken-append (None ∷ xs) ys = taken-append xs ys
  taken-append (Some h ∷ xs) ys = ap (λ (l : List ℕ). f (bytes h.part) ∷ l) (taken-append xs ys)

-- the flags say which of the four slots are among those taken
abbrev pub Used : List Bool → List ℕ → Type 0
Used used hs = (x : ℕ) → x < 4 → get_or used x false ≡ memb x hs

used_none : (x : ℕ) → x < 4 → get_or (false ∷ false ∷ false ∷ false ∷ []) x false ≡ false
used_none zero h = refl
used_none (suc zero) h = refl
used_none (suc (suc zero)) h = refl
used_none (suc (suc (suc zero))) h = refl
used_none (suc (suc (suc (suc x)))) h = absurd (omega arith)

used_more : (used : List Bool) (hs : List ℕ) (h : ℕ) → h < length used → Used used hs → Used (set used h true) (h ∷ hs)
used_more used hs h l u x b =
    elim (cases_eq x h) [
      | inl e ↦ ap (λ (q : ℕ). get_or (set used h true) q false) e ∙ get_or-set_same used h true false l ∙ sym (ap (λ (c : Bool). c || memb x hs) (eq-eqb x h e))
      | inr n ↦ get_or-set_other used h x true false n ∙ u x b ∙ sym (ap (λ (c : Bool). c || memb x hs) (ne_eqb x h n))
    ]

module _ {P S : Type 0} (f : List ℕ → ℕ) (bytes : P → List ℕ) (xs : List (Option (Held P S))) where
  -- what holds once the first n slots are scanned
  pub record Scan (used : List Bool) (n : ℕ) : Type 0 where
    pub flags : Used used (taken f bytes (take n xs))
    pub clear : apart (taken f bytes (take n xs)) ≡ true
    pub four : length used ≡ 4

  -- one slot more, that was read as x
  one_more : (n : ℕ) (x : Option (Held P S)) → n < length xs → x ≡ get_or xs n x → taken f bytes (take (n + 1) xs) ≡ taken f bytes (take n xs) ++ taken f bytes (x ∷ [])
  one_more n x h is =
      ap (taken f bytes) (take_more xs n x h ∙ ap (λ (y : Option (Held P S)). take n xs ++ (y ∷ [])) (sym is)) ∙ taken-append f bytes (take n xs) (x ∷ [])

  held_more : (n h : ℕ) (x : Option (Held P S)) (p : Held P S) → n < length xs → x ≡ get_or xs n x → x ≡ Some p → h ≡ f (bytes p.part) → taken f bytes (take (n + 1) xs) ≡ taken f bytes (take n xs) ++ (h ∷ [])
  unfolding parts
  held_more n h x p l is some e =
      one_more n x l is
      ∙ ap (λ (y : Option (Held P S)). taken f bytes (take n xs) ++ taken f bytes (y ∷ [])) some
      ∙ ap (λ (q : ℕ). taken f bytes (take n xs) ++ (q ∷ [])) (sym e)

  pub scan_start : Scan (false ∷ false ∷ false ∷ false ∷ []) 0
  unfolding parts
  scan_start = record { flags = used_none; clear = refl; four = refl }

  pub scan_empty : (used : List Bool) (n : ℕ) (x : Option (Held P S)) → n < length xs → x ≡ get_or xs n x → x ≡ None → Scan used n → Scan used (n + 1)
  unfolding parts
  scan_empty used n x l is empty s =
      let e : taken f bytes (take (n + 1) xs) ≡ taken f bytes (take n xs) =
      one_more n x l is ∙ ap (λ (y : Option (Held P S)). taken f bytes (take n xs) ++ taken f bytes (y ∷ [])) empty ∙ append-nil (taken f bytes (take n xs)) in
      record { flags = subst (Used used) (sym e) s.flags; clear = ap apart e ∙ s.clear; four = s.four }

  pub scan_held : (used : List Bool) (n h : ℕ) (x : Option (Held P S)) (p : Held P S) → n < length xs → x ≡ get_or xs n x → x ≡ Some p → h ≡ f (bytes p.part) → h < 4 → get_or used h false ≡ false → Scan used n → Scan (set used h true) (n + 1)
  scan_held used n h x p l is some eh low free s =
      let hs = taken f bytes (take n xs) in
      let e : taken f bytes (take (n + 1) xs) ≡ hs ++ (h ∷ []) = held_more n h x p l is some eh in
      let long : length used ≡ 4 = s.four in
      record {
        flags = λ q b. used_more used hs h (omega arith) s.flags q b ∙ sym (memb-last q h hs) ∙ sym (ap (memb q) e);
        clear = ap apart e ∙ apart-last hs h ∙ ap₂ (λ (m a : Bool). not m && a) (sym (s.flags h low) ∙ free) s.clear;
        four = length-set used h true ∙ s.four;
      }

  -- two parts in one slot
  pub scan_clash : (used : List Bool) (n h : ℕ) (x : Option (Held P S)) (p : Held P S) → n < length xs → x ≡ get_or xs n x → x ≡ Some p → h ≡ f (bytes p.part) → h < 4 → get_or used h false ≡ true → Scan used n → false ≡ apart (taken f bytes xs)
  scan_clash used n h x p l is some eh low full s =
      let hs = taken f bytes (take n xs) in
      let two : apart (taken f bytes (take (n + 1) xs)) ≡ false =
      ap apart (held_more n h x p l is some eh) ∙ apart-last hs h ∙ ap (λ (m : Bool). not m && apart hs) (sym (s.flags h low) ∙ full) in
      sym (ap (λ (ys : List (Option (Held P S))). apart (taken f bytes ys)) (sym (take-append-drop (n + 1) xs)) ∙ ap apart (taken-append f bytes (take (n + 1) xs) (drop (n + 1) xs)) ∙ apart-first (taken f bytes (take (n + 1) xs)) (taken f bytes (drop (n + 1) xs)) two)
