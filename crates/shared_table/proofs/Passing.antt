-- Steps applied piece by piece are the rules' steps.
use Rattle.std.proofs.Common.{◌≡◌, ℕ, zero, suc, ◌+◌, ◌-◌, ◌<◌, ◌≤◌, Bool, true, false, cond, not, ◌&&◌, ◌||◌, eqb, ltb, List, [], ◌∷◌, ◌++◌, map, length, get_or, sym, refl, ap, ◌∙◌, subst, inl, inr, arith}
use Rattle.std.proofs.lemmas.List.{get_or_past}
use Rattle.std.proofs.lemmas.Bool.{cases_lt, eqb-true, ne_eqb, ltb-true, lt-ltb, le-ltb, cond-true, cond-false, and_parts, and_right, not-true, or_from, true≢false}
use Rattle.shared.specs.declared.sizes.Sizes.{Sizes}
use Rattle.shared.specs.Graph.{◌⊕◌}
use Rattle.shared.specs.Lists.{memb, apart, all_below, at2}
use Rattle.shared.specs.Notice.{Setting, Step, bucket, single}
use Rattle.shared.specs.Table.{Table, applied, applied_all, within}
use Rattle.shared_text.specs.Events.{Event, row_b, flip, end_bucket, step_events, events_of}
use Rattle.shared_table.specs.Passes.{seed_put, setting_put, place_turned, Midst, place_in, event_done, events_done, shaped, FourSlots, EventsApply}
use Rattle.shared_table.proofs.Views.{same_table, same_place}

-- the parts of what is asked of a bucket step
and4 : (a b c d : Bool) → (a && b && c && d) ≡ true → (a ≡ true) × (b ≡ true) × (c ≡ true) × (d ≡ true)
and4 a b c d h =
    let abc = and_parts (a && b && c) d h in
    let ab = and_parts (a && b) c abc.0 in
    let front = and_parts a b ab.0 in
    (front.0, front.1, ab.1, abc.1)

and5 : (a b c d e : Bool) → (a && b && c && d && e) ≡ true → (c ≡ true) × (e ≡ true)
and5 a b c d e h =
    let abcd = and_parts (a && b && c && d) e h in
    let abc = and_parts (a && b && c) d abcd.0 in
    ((and_parts (a && b) c abc.0).1, abcd.1)

and3 : (a b c : Bool) → (a && b && c) ≡ true → (b ≡ true) × (c ≡ true)
and3 a b c h = let ab = and_parts (a && b) c h in ((and_parts a b ab.0).1, ab.1)

-- four settings put one by one are the bucket's
module _ (f : ℕ → ℕ → Setting) (blank : Setting) (four : (j i : ℕ) → 4 ≤ i → f j i ≡ blank) (a b c d : Setting) (j : ℕ) where
  four-put : (p q : ℕ)
      → at2 (at2 (at2 (at2 f j 0 a) j 1 b) j 2 c) j 3 d p q ≡ cond (eqb p j) (get_or (a ∷ b ∷ c ∷ d ∷ []) q blank) (f p q)
  four-put p q = go (eqb p j) q
    where
      go : (x : Bool) (q : ℕ)
          → cond (x && eqb q 3) d (cond (x && eqb q 2) c (cond (x && eqb q 1) b (cond (x && eqb q 0) a (f p q))))
          ≡ cond x (get_or (a ∷ b ∷ c ∷ d ∷ []) q blank) (f p q)
      go false q = refl
      go true zero = refl
      go true (suc zero) = refl
      go true (suc (suc zero)) = refl
      go true (suc (suc (suc zero))) = refl
      go true (suc (suc (suc (suc q)))) =
          let n : ℕ = suc (suc (suc (suc q))) in
          cond-false (eqb n 3) _ _ (ne_eqb n 3 (λ e. omega arith)) ∙ cond-false (eqb n 2) _ _ (ne_eqb n 2 (λ e. omega arith))
          ∙ cond-false (eqb n 1) _ _ (ne_eqb n 1 (λ e. omega arith)) ∙ cond-false (eqb n 0) _ _ (ne_eqb n 0 (λ e. omega arith))
          ∙ four p n (omega arith)

-- a place turned over, and then others
join : (a b c : Bool) → (a ≡ true → b ≡ false) → b ⊕ (a ⊕ c) ≡ (a || b) ⊕ c
join true true c h = absurd (true≢false (h refl))
join true false c h = refl
join false b c h = refl

outside : (n q : ℕ) (ps : List ℕ) → all_below n ps ≡ true → n ≤ q → memb q ps ≡ false
outside n q [] low h = refl
outside n q (p ∷ ps) low h =
    let l = and_parts (ltb p n) (all_below n ps) low in
    or_from (eqb q p) (memb q ps) (ne_eqb q p (λ e. omega (arith, ltb-true p n l.0))) (outside n q ps l.1 h)

module _ (z : Sizes) where
  done_append : (m : Midst) (xs ys : List Event) → events_done z m (xs ++ ys) ≡ events_done z (events_done z m xs) ys
  done_append m [] ys = refl
  done_append m (x ∷ xs) ys = done_append (event_done z m x) xs ys

  -- all the places of a row turned over
  abbrev turn_all : Table → Bool → List ℕ → Table
  turn_all t second [] = t
  turn_all t second (p ∷ ps) = turn_all (place_turned t (place_in z second p)) second ps

  abbrev turned : Midst → List ℕ → Midst
  turned m ps = record { table = turn_all m.table m.second ps; current = m.current; second = m.second }

  flips-done : (m : Midst) (ps : List ℕ) (es : List Event) → events_done z m (map flip ps ++ es) ≡ events_done z (turned m ps) es
  flips-done m [] es = refl
  flips-done m (p ∷ ps) es = flips-done (event_done z m (flip p)) ps es

  -- only the rows are other
  turn_rest : (t : Table) (second : Bool) (ps : List ℕ)
      → ((turn_all t second ps).setting ≡ t.setting) × ((turn_all t second ps).seed ≡ t.seed) × ((turn_all t second ps).number ≡ t.number)
  turn_rest t second [] = (refl, refl, refl)
  turn_rest t second (p ∷ ps) = turn_rest (place_turned t (place_in z second p)) second ps

  -- a place that is x in its row's own numbering, and one that is not in the row
  turn_row : (q x : ℕ) (second : Bool) → ((p : ℕ) → eqb q (place_in z second p) ≡ eqb x p) → (t : Table) (ps : List ℕ) → apart ps ≡ true
      → (turn_all t second ps).row q ≡ memb x ps ⊕ t.row q
  turn_row q x second same t [] h = refl
  turn_row q x second same t (p ∷ ps) h =
      let a = and_parts (not (memb p ps)) (apart ps) h in
      turn_row q x second same (place_turned t (place_in z second p)) ps a.1
      ∙ ap (λ (b : Bool). memb x ps ⊕ (b ⊕ t.row q)) (same p)
      ∙ join (eqb x p) (memb x ps) (t.row q) (λ e. ap (λ (y : ℕ). memb y ps) (eqb-true x p e) ∙ not-true (memb p ps) a.0)

  turn_away : (q : ℕ) (second : Bool) → ((p : ℕ) → eqb q (place_in z second p) ≡ false) → (t : Table) (ps : List ℕ)
      → (turn_all t second ps).row q ≡ t.row q
  turn_away q second away t [] = refl
  turn_away q second away t (p ∷ ps) =
      turn_away q second away (place_turned t (place_in z second p)) ps ∙ ap (λ (b : Bool). b ⊕ t.row q) (away p)

  both-rows : (t : Table) (pa pb : List ℕ) → all_below z.a pa ≡ true → apart pa ≡ true → apart pb ≡ true → (q : ℕ)
      → (turn_all (turn_all t false pa) true pb).row q ≡ cond (ltb q z.a) (memb q pa) (memb (q - z.a) pb) ⊕ t.row q
  both-rows t pa pb low ha hb q =
      elim (cases_lt q z.a) [
        | inl l ↦
            turn_away q true (λ p. ne_eqb q (z.a + p) (λ e. omega arith)) (turn_all t false pa) pb
            ∙ turn_row q q false (λ p. refl) t pa ha
            ∙ ap (λ (b : Bool). b ⊕ t.row q) (sym (cond-true (ltb q z.a) (memb q pa) (memb (q - z.a) pb) (lt-ltb q z.a l)))
        | inr l ↦
            turn_row q (q - z.a) true (λ p. sym (same_place z.a p q l)) (turn_all t false pa) pb hb
            ∙ ap (λ (b : Bool). memb (q - z.a) pb ⊕ b) (turn_row q q false (λ p. refl) t pa ha ∙ ap (λ (b : Bool). b ⊕ t.row q) (outside z.a q pa low l))
            ∙ ap (λ (b : Bool). b ⊕ t.row q) (sym (cond-false (ltb q z.a) (memb q pa) (memb (q - z.a) pb) (le-ltb q z.a l)))
      ]

  module _ (blank : Setting) where
    bucket_done : (m : Midst) (j s : ℕ) (vs : List Setting) (pa pb : List ℕ) → FourSlots blank m.table → length vs ≡ 4
        → all_below z.a pa ≡ true → apart pa ≡ true → apart pb ≡ true
        → (events_done z m (step_events (bucket j s vs pa pb))).table ≡ applied z blank m.table (bucket j s vs pa pb)
    bucket_done m j s [] pa pb four len low ha hb = absurd (omega arith)
    bucket_done m j s (a ∷ []) pa pb four len low ha hb = absurd (omega arith)
    bucket_done m j s (a ∷ b ∷ []) pa pb four len low ha hb = absurd (omega arith)
    bucket_done m j s (a ∷ b ∷ c ∷ []) pa pb four len low ha hb = absurd (omega arith)
    bucket_done m j s (a ∷ b ∷ c ∷ d ∷ e ∷ vs) pa pb four len low ha hb = absurd (omega arith)
    bucket_done m j s (a ∷ b ∷ c ∷ d ∷ []) pa pb four len low ha hb =
        let t : Table = setting_put (setting_put (setting_put (setting_put (seed_put m.table j s) j 0 a) j 1 b) j 2 c) j 3 d in
        let at_a : Midst = record { table = t; current = j; second = false } in
        let at_b : Midst = record { table = turn_all t false pa; current = j; second = true } in
        let r1 = turn_rest t false pa in
        let r2 = turn_rest (turn_all t false pa) true pb in
        ap (λ (x : Midst). x.table) (flips-done at_a pa (row_b ∷ (map flip pb ++ (end_bucket ∷ []))) ∙ flips-done at_b pb (end_bucket ∷ []))
        ∙ same_table _ _
        (λ p q. ap (λ (f : ℕ → ℕ → Setting). f p q) (r2.0 ∙ r1.0) ∙ four-put m.table.setting blank four a b c d j p q)
        (both-rows t pa pb low ha hb)
        (λ p. ap (λ (f : ℕ → ℕ). f p) (r2.1 ∙ r1.1))
        (r2.2 ∙ r1.2)

    bucket_four : (t : Table) (j s : ℕ) (vs : List Setting) (pa pb : List ℕ) → FourSlots blank t → length vs ≡ 4
        → FourSlots blank (applied z blank t (bucket j s vs pa pb))
    bucket_four t j s vs pa pb four len p i h = go (eqb p j)
      where
        go : (x : Bool) → cond x (get_or vs i blank) (t.setting p i) ≡ blank
        go true = get_or_past vs i blank (omega arith)
        go false = four p i h

    single_four : (t : Table) (j i : ℕ) (v : Setting) → FourSlots blank t → i < 4 → FourSlots blank (applied z blank t (single j i v))
    single_four t j i v four low p q h =
        cond-false (eqb p j && eqb q i) _ _ (and_right (eqb p j) (eqb q i) (ne_eqb q i (λ e. omega arith))) ∙ four p q h

    steps-done : (m : Midst) → FourSlots blank m.table → (ss : List Step) → within z ss ≡ true → shaped ss ≡ true
        → (events_done z m (events_of ss)).table ≡ applied_all z blank m.table ss
    steps-done m four [] w h = refl
    steps-done m four (bucket j s vs pa pb ∷ ss) w h =
        let x = and5 (ltb j z.buckets) (ltb s 256) (all_below z.a pa) (all_below z.b pb) (within z ss) w in
        let y = and4 (eqb (length vs) 4) (apart pa) (apart pb) (shaped ss) h in
        let len : length vs ≡ 4 = eqb-true (length vs) 4 y.0 in
        let next : Midst = events_done z m (step_events (bucket j s vs pa pb)) in
        let e : next.table ≡ applied z blank m.table (bucket j s vs pa pb) = bucket_done m j s vs pa pb four len x.0 y.1 y.2 in
        ap (λ (n : Midst). n.table) (done_append m (step_events (bucket j s vs pa pb)) (events_of ss))
        ∙ steps-done next (subst (FourSlots blank) (sym e) (bucket_four m.table j s vs pa pb four len)) ss x.1 y.3
        ∙ ap (λ (t : Table). applied_all z blank t ss) e
    steps-done m four (single j i v ∷ ss) w h =
        let x = and3 (ltb j z.buckets) (ltb i 4) (within z ss) w in
        steps-done (record { table = setting_put m.table j i v; current = m.current; second = m.second })
        (single_four m.table j i v four (ltb-true i 4 x.0)) ss x.1 h

pub events_apply : EventsApply
events_apply z blank m four steps w h = steps-done z blank m four steps w h
