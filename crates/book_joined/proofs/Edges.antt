-- The ends of the slots' edges join what the edges of the standing parts join.
use Rattle.std.proofs.Common.{◌≡◌, ℕ, ◌+◌, ◌*◌, ◌<◌, Bool, true, false, cond, ◌⊎◌, List, [], ◌∷◌, map, length, get_or, sym, refl, ap, ◌∙◌, subst, ap₂, inl, inr, mod-lt, arith}
use lib.ListN.{length-map}
use Rattle.std.proofs.lemmas.List.{get_or-map}
use Rattle.std.proofs.lemmas.Bool.{eq-eqb, eqb-true}
use Rattle.shared.specs.declared.sizes.Sizes.{Sizes}
use Rattle.shared.specs.Graph.{Edge, Joined, joins, without}
use Rattle.shared.specs.Graph.Joined.{same, along, back}
use Rattle.shared.specs.Kinds.{Hash}
use Rattle.shared.specs.Lists.{Among, same_list}
use Rattle.shared.specs.Table.{Part, edge as places_of}
use Rattle.graph_laws.proofs.Walks.{follow, by_eq, joined_label, label-joined}
use Rattle.std.specs.Prelude.{Option, Some, None}
use Rattle.book_slots.specs.declared.Held.{Held}
use Rattle.book_slots.specs.Slots.{holds, parts}
use Rattle.book_joined.specs.Ends.{ends, pair, leaving, Ends, Left}
use Rattle.book_joined.specs.Marks.{edges_of, Ready, Marked}

-- two lists of edges that join the same places
same_joins : (es fs : List Edge) (x y : ℕ) → (Joined es x y → Joined fs x y) → (Joined fs x y → Joined es x y) → joins es x y ≡ joins fs x y
same_joins es fs x y to from = go (joins es x y) (joins fs x y) refl refl
  where
    go : (b c : Bool) → joins es x y ≡ b → joins fs x y ≡ c → b ≡ c
    go true true e f = refl
    go false false e f = refl
    go true false e f = sym (eq-eqb _ _ (joined_label (to (label-joined es x y (eqb-true _ _ e))))) ∙ f
    go false true e f = sym e ∙ eq-eqb _ _ (joined_label (from (label-joined fs x y (eqb-true _ _ f))))

module _ {P S : Type 0} (edge : Part → Edge) (bytes : P → List ℕ) where
  -- the edges of the slots, loops with them
  abbrev looped : List (Option (Held P S)) → List Edge
  looped xs = map (ends edge bytes) xs

  edges_of-looped : (xs : List (Option (Held P S))) → edges_of (map (λ x. pair (ends edge bytes x)) xs) ≡ looped xs
  edges_of-looped [] = refl
  edges_of-looped (x ∷ xs) = ap (λ (es : List Edge). ends edge bytes x ∷ es) (edges_of-looped xs)

  -- a loop joins nothing
  from-looped : (xs : List (Option (Held P S))) (x y : ℕ) → Among (x, y) (looped xs) → (x ≡ y) ⊎ Among (x, y) (map edge (parts bytes xs))
  unfolding parts
  from-looped [] x y m = absurd m
  from-looped (None ∷ xs) x y (inl e) = inl (ap (λ (d : Edge). d.0) e ∙ sym (ap (λ (d : Edge). d.1) e))
  from-looped (None ∷ xs) x y (inr m) = from-looped xs x y m
  from-looped (Some h ∷ xs) x y (inl e) = inr (inl e)
  from-looped (Some h ∷ xs) x y (inr m) = elim (from-looped xs x y m) [ inl e ↦ inl e | inr n ↦ inr (inr n) ]

  to_looped : (xs : List (Option (Held P S))) (e : Edge) → Among e (map edge (parts bytes xs)) → Among e (looped xs)
  unfolding parts
  to_looped [] e m = m
  to_looped (None ∷ xs) e m = inr (to_looped xs e m)
  to_looped (Some h ∷ xs) e (inl q) = inl q
  to_looped (Some h ∷ xs) e (inr m) = inr (to_looped xs e m)

  joined_from : (xs : List (Option (Held P S))) {x y : ℕ} → Joined (looped xs) x y → Joined (map edge (parts bytes xs)) x y
  joined_from xs same = same
  joined_from xs (along m p) = elim (from-looped xs _ _ m) [ inl e ↦ follow (by_eq e) (joined_from xs p) | inr n ↦ along n (joined_from xs p) ]
  joined_from xs (back m p) = elim (from-looped xs _ _ m) [ inl e ↦ follow (by_eq (sym e)) (joined_from xs p) | inr n ↦ back n (joined_from xs p) ]

  joined_to : (xs : List (Option (Held P S))) {x y : ℕ} → Joined (map edge (parts bytes xs)) x y → Joined (looped xs) x y
  joined_to xs same = same
  joined_to xs (along m p) = along (to_looped xs _ m) (joined_to xs p)
  joined_to xs (back m p) = back (to_looped xs _ m) (joined_to xs p)

  -- the ends of all slots, and marks over them
  joins-all : (xs : List (Option (Held P S))) (es : List (List ℕ)) → Ends edge bytes xs es → (x y : ℕ) → joins (edges_of es) x y ≡ joins (map edge (parts bytes xs)) x y
  joins-all xs es h x y =
      ap (λ (l : List (List ℕ)). joins (edges_of l) x y) h
      ∙ ap (λ (l : List Edge). joins l x y) (edges_of-looped xs)
      ∙ same_joins (looped xs) (map edge (parts bytes xs)) x y (joined_from xs) (joined_to xs)

  pub marked_all : (xs : List (Option (Held P S))) (es : List (List ℕ)) → Ends edge bytes xs es → (s : ℕ) (m : List ℕ) → Marked (edges_of es) s m → Marked (map edge (parts bytes xs)) s m
  marked_all xs es h s m marked p l = marked p l ∙ ap (λ (b : Bool). cond b 1 0) (joins-all xs es h s p)

  -- the slot, empty where it holds the part
  abbrev but : Part → Option (Held P S) → Option (Held P S)
  but k x = cond (holds bytes k x) None x

  leaving-but : (k : Part) (f : Option (Held P S) → List ℕ) → f None ≡ pair (0, 0) → (xs : List (Option (Held P S))) → leaving bytes k xs (map f xs) ≡ map f (map (but k) xs)
  unfolding leaving
  leaving-but k f e [] = refl
  leaving-but k f e (x ∷ xs) = ap₂ (λ (n : List ℕ) (ns : List (List ℕ)). n ∷ ns) (here (holds bytes k x)) (leaving-but k f e xs)
    where
      here : (b : Bool) → cond b (pair (0, 0)) (f x) ≡ f (cond b None x)
      here true = sym e
      here false = refl

  parts-but : (k : Part) (xs : List (Option (Held P S))) → parts bytes (map (but k) xs) ≡ without same_list k (parts bytes xs)
  unfolding parts
  parts-but k [] = refl
  parts-but k (None ∷ xs) = parts-but k xs
  parts-but k (Some h ∷ xs) = go (same_list k (bytes h.part)) (parts-but k xs)
    where
      go : (b : Bool) → parts bytes (map (but k) xs) ≡ without same_list k (parts bytes xs) → parts bytes (cond b None (Some h) ∷ map (but k) xs) ≡ cond b (without same_list k (parts bytes xs)) (bytes h.part ∷ without same_list k (parts bytes xs))
      go true e = e
      go false e = ap (λ (l : List (List ℕ)). bytes h.part ∷ l) e

  left-ends : (k : Part) (xs : List (Option (Held P S))) (es ks : List (List ℕ)) → Ends edge bytes xs es → Left bytes k xs es ks → Ends edge bytes (map (but k) xs) ks
  left-ends k xs es ks h l = l ∙ ap (leaving bytes k xs) h ∙ leaving-but k (λ x. pair (ends edge bytes x)) refl xs

  -- the ends with one part left out, and marks over them
  joins-left : (k : Part) (xs : List (Option (Held P S))) (es ks : List (List ℕ)) → Ends edge bytes xs es → Left bytes k xs es ks → (x y : ℕ) → joins (edges_of ks) x y ≡ joins (map edge (without same_list k (parts bytes xs))) x y
  joins-left k xs es ks h l x y =
      joins-all (map (but k) xs) ks (left-ends k xs es ks h l) x y
      ∙ ap (λ (ps : List (List ℕ)). joins (map edge ps) x y) (parts-but k xs)

  pub marked_left : (k : Part) (xs : List (Option (Held P S))) (es ks : List (List ℕ)) → Ends edge bytes xs es → Left bytes k xs es ks → (s : ℕ) (m : List ℕ) → Marked (edges_of ks) s m → Marked (map edge (without same_list k (parts bytes xs))) s m
  marked_left k xs es ks h left s m marked p l = marked p l ∙ ap (λ (b : Bool). cond b 1 0) (joins-left k xs es ks h left s p)

-- The ends are inside the sizes, so that they are ready for n places, as many as the sizes have.
module _ {P S : Type 0} (z : Sizes) (hash : Hash) (bytes : P → List ℕ) where
  low_a : (n : ℕ) → n ≡ z.a + z.b → (x : Option (Held P S)) → (ends (places_of z hash) bytes x).0 < n
  low_a n e None = omega (arith, z.some_a)
  low_a n e (Some h) = omega (arith, mod-lt (hash (258 + 4 * z.turn) (bytes h.part)) z.some_a)

  low_b : (n : ℕ) → n ≡ z.a + z.b → (x : Option (Held P S)) → (ends (places_of z hash) bytes x).1 < n
  low_b n e None = omega (arith, z.some_a)
  low_b n e (Some h) = omega (arith, mod-lt (hash (259 + 4 * z.turn) (bytes h.part)) z.some_b)

  ends_at : (xs : List (Option (Held P S))) (es : List (List ℕ)) → Ends (places_of z hash) bytes xs es → (k : ℕ) → k < length es → get_or es k [] ≡ pair (ends (places_of z hash) bytes (get_or xs k None))
  ends_at xs es h k l =
      let f : Option (Held P S) → List ℕ = λ x. pair (ends (places_of z hash) bytes x) in
      let less : k < length xs = omega (arith, ap length h, length-map xs f) in
      ap (λ (ls : List (List ℕ)). get_or ls k []) h ∙ get_or-map f xs k None [] less

  pub ready_all : (xs : List (Option (Held P S))) (es : List (List ℕ)) → Ends (places_of z hash) bytes xs es → (n : ℕ) → n ≡ z.a + z.b → Ready es n
  ready_all xs es h n e = record {
    low_a = λ k l. subst (λ (m : ℕ). m < n) (sym (ap (λ (d : List ℕ). get_or d 0 0) (ends_at xs es h k l))) (low_a n e (get_or xs k None));
    low_b = λ k l. subst (λ (m : ℕ). m < n) (sym (ap (λ (d : List ℕ). get_or d 1 0) (ends_at xs es h k l))) (low_b n e (get_or xs k None));
  }

  pub ready_left : (k : Part) (xs : List (Option (Held P S))) (es ks : List (List ℕ)) → Ends (places_of z hash) bytes xs es → Left bytes k xs es ks → (n : ℕ) → n ≡ z.a + z.b → Ready ks n
  ready_left k xs es ks h l = ready_all (map (but (places_of z hash) bytes k) xs) ks (left-ends (places_of z hash) bytes k xs es ks h l)
