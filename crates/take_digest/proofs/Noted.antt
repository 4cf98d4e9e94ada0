-- The digest after a notice's steps.
use Rattle.std.proofs.Common.{◌≡◌, ℕ, suc, ◌+◌, ◌*◌, ◌<◌, ◌≤◌, Bool, true, false, ◌&&◌, eqb, ltb, List, [], ◌∷◌, ◌++◌, map, length, fold, sym, refl, ap, ◌∙◌, append_assoc, arith, length-append}
use Rattle.std.proofs.Math.Bool.{and_assoc, and-true}
use Rattle.std.proofs.lemmas.List.{append-nil}
use Rattle.std.proofs.lemmas.Bool.{cond-true, lt-ltb, and_parts, eqb-true}
use Rattle.shared.specs.declared.sizes.Sizes.{Sizes}
use Rattle.shared.specs.Lists.{all_below, apart}
use Rattle.shared.specs.Notice.{Setting, Step, bucket, single}
use Rattle.shared.specs.Table.{within}
use Rattle.shared_table.specs.Passes.{shaped}
use Rattle.std.proofs.lemmas.List.Sums.{fold-append}
use Rattle.shared_text.specs.declared.row.Row.{Row}
use Rattle.shared_text.specs.declared.row.Row.TheVariants.{A, B}
use Rattle.shared_text.specs.Events.{Event, row_a, row_b, flip, end_bucket, settings_from, step_events, events_of}
use Rattle.take_digest.specs.declared.digest.Digest.{Digest}
use Rattle.take_digest.specs.declared.digest.Head.{Head}
use Rattle.take_digest.specs.declared.digest.Write.{Write}
use Rattle.take_digest.specs.Digests.{whole_head, slot_head, write_of, limit_of, pushed, noted, empty, digested}
use Rattle.take_digest.specs.Shows.{heads_of, writes_from, writes_of, Shows}

all_tests : (b t u v w : Bool) → ((((b && t) && u) && v) && w) ≡ (b && (((t && u) && v) && w))
all_tests true t u v w = refl
all_tests false t u v w = refl

pushed-room : {T : Type 0} (n : ℕ) (xs : List T) (x : T) → length xs < n → pushed n xs x ≡ xs ++ (x ∷ [])
pushed-room n xs x l = cond-true (ltb (length xs) n) _ xs (lt-ltb (length xs) n l)

writes_four : (j i : ℕ) (vs : List Setting) → length (writes_from j i vs) ≡ length vs
writes_four j i [] = refl
writes_four j i (v ∷ vs) = ap suc (writes_four j (suc i) vs)

module _ (z : Sizes) where
  settings_noted : (i : ℕ) (vs : List Setting) (hs : List Head) (ws : List Write) (b : Bool) (j : ℕ) (x : Row) → length ws + length vs ≤ 20
      → fold digested (noted z hs ws b j x) (settings_from i vs) ≡ noted z hs (ws ++ writes_from j i vs) b j x
  settings_noted i [] hs ws b j x l = ap (λ k. noted z hs k b j x) (sym (append-nil ws))
  settings_noted i (v ∷ vs) hs ws b j x l =
      let w : Write = write_of j i v in
      ap (λ k. fold digested (noted z hs k b j x) (settings_from (suc i) vs)) (pushed-room 20 ws w (omega arith))
      ∙ settings_noted (suc i) vs hs (ws ++ (w ∷ [])) b j x (omega (arith, length-append ws (w ∷ [])))
      ∙ ap (λ k. noted z hs k b j x) (append_assoc ws (w ∷ []) (writes_from j (suc i) vs))

  flips_noted : (ps : List ℕ) (hs : List Head) (ws : List Write) (b : Bool) (j : ℕ) (x : Row)
      → fold digested (noted z hs ws b j x) (map flip ps) ≡ noted z hs ws (b && all_below (limit_of z x) ps) j x
  flips_noted [] hs ws b j x = ap (λ t. noted z hs ws t j x) (sym (and-true b))
  flips_noted (p ∷ ps) hs ws b j x =
      flips_noted ps hs ws (b && ltb p (limit_of z x)) j x
      ∙ ap (λ t. noted z hs ws t j x) (and_assoc b (ltb p (limit_of z x)) (all_below (limit_of z x) ps))

  whole_noted : (hs : List Head) (ws : List Write) (b : Bool) (k : ℕ) (x : Row) (j s : ℕ) (vs : List Setting) (pa pb : List ℕ)
      → length hs < 5 → length ws + length vs ≤ 20
      → fold digested (noted z hs ws b k x) (step_events (bucket j s vs pa pb))
      ≡ noted z (hs ++ (whole_head j s ∷ [])) (ws ++ writes_from j 0 vs) (((b && (ltb j z.buckets && ltb s 256)) && all_below z.a pa) && all_below z.b pb) j B
  whole_noted hs ws b k x j s vs pa pb l m =
      let hs' : List Head = hs ++ (whole_head j s ∷ []) in
      let ws' : List Write = ws ++ writes_from j 0 vs in
      let b1 : Bool = b && (ltb j z.buckets && ltb s 256) in
      let b2 : Bool = b1 && all_below z.a pa in
      let last : List Event = end_bucket ∷ [] in
      let for_b : List Event = map flip pb ++ last in
      let for_a : List Event = map flip pa ++ (row_b ∷ for_b) in
      ap (λ g. fold digested (noted z g ws b1 j x) (settings_from 0 vs ++ (row_a ∷ for_a))) (pushed-room 5 hs (whole_head j s) l)
      ∙ fold-append digested (noted z hs' ws b1 j x) (settings_from 0 vs) (row_a ∷ for_a)
      ∙ ap (λ d. fold digested d (row_a ∷ for_a)) (settings_noted 0 vs hs' ws b1 j x m)
      ∙ fold-append digested (noted z hs' ws' b1 j A) (map flip pa) (row_b ∷ for_b)
      ∙ ap (λ d. fold digested d (row_b ∷ for_b)) (flips_noted pa hs' ws' b1 j A)
      ∙ fold-append digested (noted z hs' ws' b2 j B) (map flip pb) last
      ∙ flips_noted pb hs' ws' b2 j B

  regrouped : {hs hs' : List Head} {ws ws' : List Write} {b b' : Bool} → hs ≡ hs' → ws ≡ ws' → b ≡ b' → (j : ℕ) (x : Row) → noted z hs ws b j x ≡ noted z hs' ws' b' j x
  regrouped p q r j x = λ i. noted z (p i) (q i) (r i) j x

  -- after all the steps, in some bucket and some row
  steps_noted : (ss : List Step) (hs : List Head) (ws : List Write) (b : Bool) (k : ℕ) (x : Row) → shaped ss ≡ true
      → length hs + length ss ≤ 5 → length ws + 4 * length ss ≤ 20
      → (j : ℕ) × (y : Row) × (fold digested (noted z hs ws b k x) (events_of ss) ≡ noted z (hs ++ heads_of ss) (ws ++ writes_of ss) (b && within z ss) j y)
  steps_noted [] hs ws b k x h l m =
      (k, x, regrouped (sym (append-nil hs)) (sym (append-nil ws)) (sym (and-true b)) k x)
  steps_noted (bucket j s vs pa pb ∷ ss) hs ws b k x h l m =
      let shape = and_parts (eqb (length vs) 4 && apart pa && apart pb) (shaped ss) h in
      let four : length vs ≡ 4 = eqb-true (length vs) 4 (and_parts (eqb (length vs) 4) (apart pa) (and_parts (eqb (length vs) 4 && apart pa) (apart pb) shape.0).0).0 in
      let t : Bool = ltb j z.buckets && ltb s 256 in
      let one : List Head = whole_head j s ∷ [] in
      let rest = steps_noted ss (hs ++ one) (ws ++ writes_from j 0 vs) (((b && t) && all_below z.a pa) && all_below z.b pb) j B shape.1
      (omega (arith, length-append hs one)) (omega (arith, length-append ws (writes_from j 0 vs), writes_four j 0 vs)) in (
        rest.0,
        rest.1,
        fold-append digested (noted z hs ws b k x) (step_events (bucket j s vs pa pb)) (events_of ss)
            ∙ ap (λ d. fold digested d (events_of ss)) (whole_noted hs ws b k x j s vs pa pb (omega arith) (omega arith))
            ∙ rest.2
            ∙ regrouped (append_assoc hs one (heads_of ss)) (append_assoc ws (writes_from j 0 vs) (writes_of ss))
            (all_tests b t (all_below z.a pa) (all_below z.b pb) (within z ss)) rest.0 rest.1,
      )
  steps_noted (single j i v ∷ ss) hs ws b k x h l m =
      let t : Bool = ltb j z.buckets && ltb i 4 in
      let one : List Head = slot_head j ∷ [] in
      let w : List Write = write_of j i v ∷ [] in
      let rest = steps_noted ss (hs ++ one) (ws ++ w) (b && t) k x h (omega (arith, length-append hs one)) (omega (arith, length-append ws w)) in (
        rest.0,
        rest.1,
        ap (λ g. fold digested (noted z g (pushed 20 ws (write_of j i v)) (b && t) k x) (events_of ss)) (pushed-room 5 hs (slot_head j) (omega arith))
            ∙ ap (λ g. fold digested (noted z (hs ++ one) g (b && t) k x) (events_of ss)) (pushed-room 20 ws (write_of j i v) (omega arith))
            ∙ rest.2
            ∙ regrouped (append_assoc hs one (heads_of ss)) (append_assoc ws w (writes_of ss)) (and_assoc b t (within z ss)) rest.0 rest.1,
      )

  heads-few : (ss : List Step) → length (heads_of ss) ≡ length ss
  heads-few [] = refl
  heads-few (bucket j s vs pa pb ∷ ss) = ap suc (heads-few ss)
  heads-few (single j i v ∷ ss) = ap suc (heads-few ss)

  writes-few : (ss : List Step) → shaped ss ≡ true → length (writes_of ss) ≤ 4 * length ss
  writes-few [] h = omega arith
  writes-few (bucket j s vs pa pb ∷ ss) h =
      let shape = and_parts (eqb (length vs) 4 && apart pa && apart pb) (shaped ss) h in
      let four : length vs ≡ 4 = eqb-true (length vs) 4 (and_parts (eqb (length vs) 4) (apart pa) (and_parts (eqb (length vs) 4 && apart pa) (apart pb) shape.0).0).0 in
      omega (arith, length-append (writes_from j 0 vs) (writes_of ss), writes_four j 0 vs, writes-few ss shape.1)
  writes-few (single j i v ∷ ss) h = omega (arith, writes-few ss h)

  -- a digest that began empty shows the steps
  pub digest_shows : (ss : List Step) → length ss ≤ 5 → shaped ss ≡ true → Shows z ss (fold digested (empty z) (events_of ss))
  digest_shows ss few shape =
      let n = (steps_noted ss [] [] true 0 A shape (omega arith) (omega arith)).2 in
      record {
        heads = ap (λ (d : Digest). d.heads.items) n;
        writes = ap (λ (d : Digest). d.writes.items) n;
        inside = ap (λ (d : Digest). d.inside) n;
        few_heads = omega (arith, ap (λ (d : Digest). length d.heads.items) n, heads-few ss);
        few_writes = omega (arith, ap (λ (d : Digest). length d.writes.items) n, writes-few ss shape);
      }
