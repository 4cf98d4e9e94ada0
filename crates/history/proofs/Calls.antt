-- Each accepted call keeps book and table together.
use Rattle.std.proofs.Common.{◌≡◌, ℕ, suc, ◌<◌, Bool, true, false, cond, eqb, ◌⊎◌, List, [], ◌∷◌, map, sym, refl, ap, ◌∙◌, subst, ap₂, inl, inr, arith}
use mathlib.Core.Option.{Option, none, some}
use Rattle.std.proofs.lemmas.Bool.{eq-eqb, cond-true, cond-false, both_ways, or_left}
use Rattle.shared.specs.declared.sizes.Sizes.{Sizes}
use Rattle.shared.specs.Book.{Held, Slot, Book, Outcome, Call, part_of, slots, chain, placed, standing, unless, given, where_is, told, called, raised}
use Rattle.shared.specs.Book.Outcome.{refused, done}
use Rattle.shared.specs.Book.Call.{enter, change, strike}
use Rattle.shared.specs.Graph.{Joined, joins, Forest}
use Rattle.shared.specs.Kinds.{Hash}
use Rattle.shared.specs.Ledger.{stands, last_writing}
use Rattle.shared.specs.Lists.{Among, same_list, up_from, first_answer, ◌then◌, is_found, at2}
use Rattle.shared.specs.Notice.{Setting, Kind, Step}
use Rattle.shared.specs.Notice.Step.{bucket, single}
use Rattle.shared.specs.Table.{Part, Table, slot_of, edge, choose, applied, applied_all, next_table, overflows}
use Rattle.graph_laws.proofs.Same.{same_sound, same_own}
use Rattle.graph_laws.proofs.Walks.{Within, wider, decided}
use Rattle.graph_laws.proofs.Forest.{among_map, from-map, map-within, without_in, forest_within, forest_enter}
use Rattle.chain_laws.specs.Chains.{ChainFor}
use Rattle.history.specs.Premises.{Family}
use Rattle.history.specs.Sound.{Mid}
use Rattle.chain_laws.proofs.Tools.{never, some_same, then_some, first_answer_lem, no_answer, at2-same, at2-other, at2-cases, among_up, contents-in, contents-from, from-contents}
use Rattle.chain_laws.proofs.Chains.{chain-found}
use Rattle.history.proofs.Chains.{Holds, Brought, freed, free_keeps, unique, brought}

pub no_book : {n : ℕ} {b : Book} {ss : List Step} → refused n ≡ done b ss → ⊥
no_book e = let z : ◌≡◌ {A = ℕ} 0 1 = cc in omega arith

pub unless-done : (t : Bool) (n : ℕ) (rest : Unit {0} → Outcome) (b : Book) (ss : List Step) → unless t n rest ≡ done b ss → (t ≡ false) × (rest tt ≡ done b ss)
unless-done true n rest b ss e = absurd (no_book e)
unless-done false n rest b ss e = (refl, e)

pub given-done : {A : Type 0} (o : Option A) (n : ℕ) (rest : A → Outcome) (b : Book) (ss : List Step) → given o n rest ≡ done b ss → (x : A) × (o ≡ some x) × (rest x ≡ done b ss)
given-done none n rest b ss e = absurd (no_book e)
given-done (some x) n rest b ss e = (x, refl, e)

-- an accepted call's book and steps
pub told-as : (kind : Kind) (room : ℕ) (c : Book) (steps : List Step) (b : Book) (ss : List Step) → told kind room c steps ≡ done b ss → (raised c ≡ b) × (steps ≡ ss)
told-as kind room c steps b ss e =
    let f : done (raised c) steps ≡ done b ss = (unless-done _ 11 (λ u. done (raised c) steps) b ss e).1 in
    (cc, cc)

-- where a part was found, and that it was not
module _ (z : Sizes) (slot : ℕ → ℕ → Slot) (k : Part) where
  test : ℕ → ℕ → Held → Option (ℕ × ℕ)
  test j i h = cond (same_list k h.0) (some (j, i)) none

  pub found_at : (p : ℕ × ℕ) → where_is z slot k ≡ some p → (h : Held) × (slot p.0 p.1 ≡ some h) × (k ≡ h.0)
  unfolding test
  found_at p e =
      let a = first_answer_lem (λ j. first_answer (λ i. slot j i then test j i) 0 4) 0 z.buckets p e in
      let c = first_answer_lem (λ i. slot a.0 i then test a.0 i) 0 4 p a.1 in
      let d = then_some (slot a.0 c.0) (test a.0 c.0) p c.1 in
      go a.0 c.0 d.0 d.1 (same_list k d.0.0) refl d.2
    where
      go : (j i : ℕ) (h : Held) → slot j i ≡ some h → (b : Bool) → same_list k h.0 ≡ b → cond b (some (j, i)) none ≡ some p → (x : Held) × (slot p.0 p.1 ≡ some x) × (k ≡ x.0)
      go j i h s true y q = (h, subst (λ (w : ℕ × ℕ). slot w.0 w.1 ≡ some h) (some_same q) s, same_sound k h.0 y)
      go j i h s false y q = absurd (never q)

  pub not_found : is_found (where_is z slot k) ≡ false → (j i : ℕ) (h : Held) → j < z.buckets → i < 4 → slot j i ≡ some h → h.0 ≡ k → ⊥
  unfolding test
  not_found e j i h lj li s q =
      let a = no_answer (λ p. first_answer (λ i. slot p i then test p i) 0 4) 0 z.buckets (lost (where_is z slot k) e) j (omega arith) (omega arith) in
      let c = no_answer (λ i. slot j i then test j i) 0 4 a i (omega arith) (omega arith) in
      let d = subst (λ (o : Slot). (o then test j i) ≡ none) s c in
      never (sym (sym (cond-true (same_list k h.0) (some (j, i)) none (subst (λ (w : Part). same_list k w ≡ true) (sym q) (same_own k))) ∙ d))
    where
      lost : {A : Type 0} (o : Option A) → is_found o ≡ false → o ≡ none
      lost none f = refl
      lost (some x) f = absurd (both_ways true f refl)

module _ (z : Sizes) (hash : Hash) where
  abbrev pub parts_of : Book → List Part
  parts_of b = map part_of (standing z b.slot)

  -- the parts that stand, as a list
  pub restand : (xs : List Part) (b : Book) (t : Table) → Mid z hash xs b t → Mid z hash (parts_of b) b t
  restand xs b t m = record {
    row = m.row;
    seed = m.seed;
    seeds = m.seeds;
    chosen = m.chosen;
    value = m.value;
    apart = m.apart;
    range = m.range;
    stood = λ j i h e.
        let r = m.range j i h e in
        among_map part_of (standing z b.slot) h (contents-from b.slot j h (up_from 0 z.buckets) (among_up j 0 z.buckets (omega arith) (omega arith)) (contents-in b.slot j i h r.1 e));
  }

  pub stood_only : (xs : List Part) (b : Book) (t : Table) → Mid z hash xs b t → Within (parts_of b) xs
  stood_only xs b t m x n =
      let a = from-map part_of (standing z b.slot) x n in
      let c = from-contents b.slot a.0 (up_from 0 z.buckets) a.1 in
      subst (λ (w : Part). Among w xs) (sym a.2) (m.stood c.0 c.1 a.0 c.2)

  pub next-keeps : (xs : List Part) (b : Book) (t : Table) → Mid z hash xs b t → Mid z hash xs (raised b) (next_table t)
  next-keeps xs b t m = record { row = m.row; seed = m.seed; seeds = m.seeds; chosen = m.chosen; value = m.value; apart = m.apart; range = m.range; stood = m.stood }

one_number : (z : Sizes) (blank : Setting) (t : Table) (s : Step) → (applied z blank t s).number ≡ t.number
one_number z blank t (bucket j s vs pa pb) = refl
one_number z blank t (single j i v) = refl

pub all_number : (z : Sizes) (blank : Setting) (t : Table) (ss : List Step) → (applied_all z blank t ss).number ≡ t.number
all_number z blank t [] = refl
all_number z blank t (s ∷ ss) = all_number z blank (applied z blank t s) ss ∙ one_number z blank t s

-- how an enter was accepted
pub record Entered (z : Sizes) (hash : Hash) (kind : Kind) (b : Book) (k : Part) (v : Setting) (b' : Book) (ss : List Step) : Type 0 where
  pub new : is_found (where_is z b.slot k) ≡ false
  pub apart : joins (map (edge z hash) (parts_of z hash b)) (edge z hash k).0 (edge z hash k).1 ≡ false
  pub start : ℕ × List ℕ
  pub chained : chain z hash b.slot k ≡ some start
  pub end : Book × List Step
  pub put : placed z hash kind.blank (parts_of z hash b) b start.0 (k, v) start.1 ≡ some end
  pub few : overflows z b.seed end.1 ≡ false
  pub book : raised end.0 ≡ b'
  pub steps : end.1 ≡ ss

pub entered_as : (z : Sizes) (hash : Hash) (kind : Kind) (b : Book) (k : Part) (v : Setting) (room : ℕ) (b' : Book) (ss : List Step) → called z hash kind b room (enter k v) ≡ done b' ss → Entered z hash kind b k v b' ss
entered_as z hash kind b k v room b' ss e =
    let s1 = unless-done _ 5 _ b' ss e in
    let s2 = unless-done _ 8 _ b' ss s1.1 in
    let s3 = given-done _ 7 _ b' ss s2.1 in
    let s4 = given-done _ 9 _ b' ss s3.2 in
    let r = s4.0 in
    let s5 = unless-done (overflows z b.seed r.1) 10 (λ u. told kind room r.0 r.1) b' ss s4.2 in
    let s6 = told-as kind room r.0 r.1 b' ss s5.1 in
    record { new = s1.0; apart = s2.0; start = s3.0; chained = s3.1; end = s4.0; put = s4.1; few = s5.0; book = s6.0; steps = s6.1 }

-- how a change and a strike were accepted: p is where the part stands
pub changed_as : (z : Sizes) (hash : Hash) (kind : Kind) (b : Book) (k : Part) (v : Setting) (room : ℕ) (b' : Book) (ss : List Step) → called z hash kind b room (change k v) ≡ done b' ss
    → (p : ℕ × ℕ) × (where_is z b.slot k ≡ some p) × (raised (slots b (at2 b.slot p.0 p.1 (some (k, v)))) ≡ b') × ((single p.0 (slot_of hash (b.seed p.0) k) v ∷ []) ≡ ss)
changed_as z hash kind b k v room b' ss e =
    let a = given-done (where_is z b.slot k) 6 (λ p. told kind room (slots b (at2 b.slot p.0 p.1 (some (k, v)))) (single p.0 (slot_of hash (b.seed p.0) k) v ∷ [])) b' ss e in
    let q = told-as kind room (slots b (at2 b.slot a.0.0 a.0.1 (some (k, v)))) (single a.0.0 (slot_of hash (b.seed a.0.0) k) v ∷ []) b' ss a.2 in
    (a.0, a.1, q.0, q.1)

pub struck-as : (z : Sizes) (hash : Hash) (kind : Kind) (b : Book) (k : Part) (room : ℕ) (b' : Book) (ss : List Step) → called z hash kind b room (strike k) ≡ done b' ss
    → (p : ℕ × ℕ) × (where_is z b.slot k ≡ some p) × (raised (slots b (at2 b.slot p.0 p.1 none)) ≡ b') × ([] ≡ ss)
struck-as z hash kind b k room b' ss e =
    let a = given-done (where_is z b.slot k) 6 (λ p. told kind room (slots b (at2 b.slot p.0 p.1 none)) []) b' ss e in
    let q = told-as kind room (slots b (at2 b.slot a.0.0 a.0.1 none)) [] b' ss a.2 in
    (a.0, a.1, q.0, q.1)

-- what is kept: book and table together, no circle, and the ledger's standing parts with their settings
pub record Kept (z : Sizes) (hash : Hash) (b : Book) (t : Table) (cs : List Call) : Type 0 where
  pub mid : Mid z hash (parts_of z hash b) b t
  pub forest : Forest same_list (edge z hash) (parts_of z hash b)
  pub number : t.number ≡ b.number
  pub led : (k : Part) (v : Setting) → stands cs k ≡ true → last_writing cs k ≡ some v → Holds b.slot (k, v)
  pub only : (k : Part) (v : Setting) → Holds b.slot (k, v) → (stands cs k ≡ true) × (last_writing cs k ≡ some v)

pub differ : (k x : Part) → (k ≡ x → ⊥) → same_list k x ≡ false
differ k x n = go (same_list k x) refl
  where
    go : (d : Bool) → same_list k x ≡ d → d ≡ false
    go true e = absurd (n (same_sound k x e))
    go false e = refl

module _ (z : Sizes) (hash : Hash) (kind : Kind) (low : Family hash) (b : Book) (t : Table) (cs : List Call) (kept : Kept z hash b t cs) where
  abbrev P : List Part
  P = parts_of z hash b

  -- from what holds over a list of parts with no circle
  settle : (xs : List Part) (c : Book) (u : Table) (call : Call) → Forest same_list (edge z hash) xs → Mid z hash xs c u → u.number ≡ c.number
      → ((k : Part) (v : Setting) → stands (call ∷ cs) k ≡ true → last_writing (call ∷ cs) k ≡ some v → Holds c.slot (k, v))
      → ((k : Part) (v : Setting) → Holds c.slot (k, v) → (stands (call ∷ cs) k ≡ true) × (last_writing (call ∷ cs) k ≡ some v))
      → Kept z hash (raised c) (next_table u) (call ∷ cs)
  settle xs c u call f m n l o = record {
    mid = next-keeps z hash (parts_of z hash c) c u (restand z hash xs c u m);
    forest = forest_within same_list same_sound same_own (edge z hash) xs (parts_of z hash c) (stood_only z hash xs c u m) f;
    number = ap suc n;
    led = l;
    only = o;
  }

  -- the part of an accepted enter did not stand, and its places are free
  pub entered_new : (k : Part) (v : Setting) (b' : Book) (ss : List Step) → Entered z hash kind b k v b' ss → (p q : ℕ) (g : Held) → b.slot p q ≡ some g → g.0 ≡ k → ⊥
  entered_new k v b' ss i p q g u w = let n = kept.mid.range p q g u in not_found z b.slot k i.new p q g n.0 n.1 u w

  pub entered_free : (k : Part) (v : Setting) (b' : Book) (ss : List Step) → Entered z hash kind b k v b' ss → Joined (map (edge z hash) P) (edge z hash k).0 (edge z hash k).1 → ⊥
  entered_free k v b' ss i j = both_ways (joins (map (edge z hash) P) (edge z hash k).0 (edge z hash k).1) i.apart (decided (map (edge z hash) P) (edge z hash k).0 (edge z hash k).1 j)

  pub entered_brought : (k : Part) (v : Setting) (b' : Book) (ss : List Step) (i : Entered z hash kind b k v b' ss) → Brought z hash kind.blank P b t i.start.0 (k, v) (i.start.0 ∷ []) i.end
  entered_brought k v b' ss i =
      brought z hash kind.blank low P kept.forest c.1 b t kept.mid c.0 (k, v) (c.0 ∷ [])
      (entered_new k v b' ss i)
      found.side (λ j. entered_free k v b' ss i (wider (map-within (edge z hash) _ _ (λ x n. (without_in same_list same_sound same_own k P x n).0)) j))
      (or_left (eqb c.0 c.0) false (eq-eqb c.0 c.0 refl)) found.moves i.end i.put
    where
      c : ℕ × List ℕ
      c = i.start

      found : ChainFor z hash b.slot k c
      found = chain-found z hash b.slot k c i.chained

  enter_keeps : (k : Part) (v : Setting) (room : ℕ) (b' : Book) (ss : List Step) → called z hash kind b room (enter k v) ≡ done b' ss → Kept z hash b' (next_table (applied_all z kind.blank t ss)) (enter k v ∷ cs)
  enter_keeps k v room b' ss e =
      subst (λ (c : Book). Kept z hash c (next_table (applied_all z kind.blank t ss)) (enter k v ∷ cs)) i.book
      (subst (λ (xs : List Step). Kept z hash (raised r.0) (next_table (applied_all z kind.blank t xs)) (enter k v ∷ cs)) i.steps
      (settle (k ∷ P) r.0 (applied_all z kind.blank t r.1) (enter k v) (forest_enter same_list same_sound same_own (edge z hash) P k kept.forest (entered_free k v b' ss i)) br.mid (all_number z kind.blank t r.1 ∙ kept.number ∙ sym br.number) led' only'))
    where
      i : Entered z hash kind b k v b' ss
      i = entered_as z hash kind b k v room b' ss e

      r : Book × List Step
      r = i.end

      br : Brought z hash kind.blank P b t i.start.0 (k, v) (i.start.0 ∷ []) r
      br = entered_brought k v b' ss i

      led' : (x : Part) (w : Setting) → stands (enter k v ∷ cs) x ≡ true → last_writing (enter k v ∷ cs) x ≡ some w → Holds r.0.slot (x, w)
      led' x w = go (same_list k x) refl
        where
          go : (d : Bool) → same_list k x ≡ d → cond d true (stands cs x) ≡ true → cond d (some v) (last_writing cs x) ≡ some w → Holds r.0.slot (x, w)
          go true y a l = subst (λ (h : Held). Holds r.0.slot h) (ap₂ (λ (p : Part) (q : Setting). (p, q)) (same_sound k x y) (some_same l)) br.own
          go false y a l = br.holds (x, w) (kept.led x w a l)

      Known : Held → Type 0
      Known h = (stands (enter k v ∷ cs) h.0 ≡ true) × (last_writing (enter k v ∷ cs) h.0 ≡ some h.1)

      only' : (x : Part) (w : Setting) → Holds r.0.slot (x, w) → Known (x, w)
      only' x w o = go (br.only (x, w) o)
        where
          go : (◌≡◌ {A = Held} (x, w) (k, v)) ⊎ Holds b.slot (x, w) → Known (x, w)
          go (inl e) = subst Known (sym e) (cond-true (same_list k k) _ _ (same_own k), cond-true (same_list k k) _ _ (same_own k))
          go (inr u) =
              let n = differ k x (λ y. entered_new k v b' ss i u.0 u.1 (x, w) u.2 (sym y)) in
              let a = kept.only x w u in
              (cond-false (same_list k x) _ _ n ∙ a.0, cond-false (same_list k x) _ _ n ∙ a.1)

  -- a part elsewhere than in the slot of k is another part
  not_own : (j i : ℕ) (h : Held) → b.slot j i ≡ some h → (k : Part) → k ≡ h.0 → (p q : ℕ) (g : Held) → b.slot p q ≡ some g → (p ≡ j → q ≡ i → ⊥) → same_list k g.0 ≡ false
  not_own j i h e k own p q g f n = differ k g.0 (λ y. let u = unique z hash P b t kept.mid p q j i g h f e (sym y ∙ own) in n u.0 u.1)

  -- an update at the slot (j, i) of h, seen from another part
  elsewhere : (j i : ℕ) (h : Held) → b.slot j i ≡ some h → (s : Slot) (x : Held) → (h.0 ≡ x.0 → ⊥) → Holds b.slot x → Holds (at2 b.slot j i s) x
  elsewhere j i h e s x n o =
      (o.0, o.1, at2-other b.slot j i s o.0 o.1 (λ u w. n (ap (λ (g : Held). g.0) (some_same (sym e ∙ subst (λ (p : ℕ). b.slot p i ≡ some x) u (subst (λ (q : ℕ). b.slot o.0 q ≡ some x) w o.2))))) ∙ o.2)

  strike_keeps : (k : Part) (room : ℕ) (b' : Book) (ss : List Step) → called z hash kind b room (strike k) ≡ done b' ss → Kept z hash b' (next_table (applied_all z kind.blank t ss)) (strike k ∷ cs)
  strike_keeps k room b' ss e =
      let a = struck-as z hash kind b k room b' ss e in
      go a.0 a.1 (a.2, a.3)
    where
      go : (p : ℕ × ℕ) → where_is z b.slot k ≡ some p → (raised (slots b (at2 b.slot p.0 p.1 none)) ≡ b') × ([] ≡ ss) → Kept z hash b' (next_table (applied_all z kind.blank t ss)) (strike k ∷ cs)
      go p f q =
          subst (λ (c : Book). Kept z hash c (next_table (applied_all z kind.blank t ss)) (strike k ∷ cs)) q.0
          (subst (λ (xs : List Step). Kept z hash (raised gap) (next_table (applied_all z kind.blank t xs)) (strike k ∷ cs)) q.1
          (settle P gap t (strike k) kept.forest (free_keeps z hash P b t p.0 p.1 kept.mid) kept.number led' only'))
        where
          gap : Book
          gap = slots b (at2 b.slot p.0 p.1 none)

          h : (g : Held) × (b.slot p.0 p.1 ≡ some g) × (k ≡ g.0)
          h = found_at z b.slot k p f

          led' : (x : Part) (w : Setting) → stands (strike k ∷ cs) x ≡ true → last_writing (strike k ∷ cs) x ≡ some w → Holds gap.slot (x, w)
          led' x w = at_test (same_list k x) refl
            where
              at_test : (d : Bool) → same_list k x ≡ d → cond d false (stands cs x) ≡ true → last_writing cs x ≡ some w → Holds gap.slot (x, w)
              at_test true y n l = absurd (both_ways false refl n)
              at_test false y n l =
                  elsewhere p.0 p.1 h.0 h.1 none (x, w) (λ u. both_ways (same_list k x) y (subst (λ (v : Part). same_list k v ≡ true) (h.2 ∙ u) (same_own k))) (kept.led x w n l)

          only' : (x : Part) (w : Setting) → Holds gap.slot (x, w) → (stands (strike k ∷ cs) x ≡ true) × (last_writing (strike k ∷ cs) x ≡ some w)
          only' x w o =
              let f = freed b.slot p.0 p.1 o.0 o.1 (x, w) o.2 in
              let a = kept.only x w (o.0, o.1, f.0) in
              (cond-false (same_list k x) _ _ (not_own p.0 p.1 h.0 h.1 k h.2 o.0 o.1 (x, w) f.0 f.1) ∙ a.0, a.1)

  -- a new setting in the slot of a part
  module _ (k : Part) (v : Setting) (j i : ℕ) (h : Held) (e : b.slot j i ≡ some h) (own : k ≡ h.0) where
    abbrev put : ℕ → ℕ → Slot
    put = at2 b.slot j i (some (k, v))

    abbrev wrote : Table
    wrote = applied z kind.blank t (single j (slot_of hash (b.seed j) k) v)

    -- what stood there before: the same part
    was : (p q : ℕ) (g : Held) → put p q ≡ some g → (x : Held) × (b.slot p q ≡ some x) × (g.0 ≡ x.0) × (((g ≡ x) × (p ≡ j → q ≡ i → ⊥)) ⊎ ((p ≡ j) × (g ≡ (k, v))))
    was p q g f = go (at2-cases j i p q)
      where
        go : ((p ≡ j) × (q ≡ i)) ⊎ (p ≡ j → q ≡ i → ⊥) → (x : Held) × (b.slot p q ≡ some x) × (g.0 ≡ x.0) × (((g ≡ x) × (p ≡ j → q ≡ i → ⊥)) ⊎ ((p ≡ j) × (g ≡ (k, v))))
        go (inl c) =
            let same-held : g ≡ (k, v) = some_same (sym (subst (λ (w : ℕ). put w i ≡ some g) c.0 (subst (λ (w : ℕ). put p w ≡ some g) c.1 f)) ∙ at2-same b.slot j i (some (k, v))) in
            (h, subst (λ (w : ℕ). b.slot w q ≡ some h) (sym c.0) (subst (λ (w : ℕ). b.slot j w ≡ some h) (sym c.1) e), ap (λ (w : Held). w.0) same-held ∙ own, inr (c.0, same-held))
        go (inr n) = (g, sym (at2-other b.slot j i (some (k, v)) p q n) ∙ f, refl, inl (refl, n))

    change_mid : Mid z hash P (slots b put) wrote
    change_mid = record {
      row = kept.mid.row;
      seed = kept.mid.seed;
      seeds = kept.mid.seeds;
      chosen = λ p q g f. let x = was p q g f in ap (choose z hash b.row) x.2 ∙ kept.mid.chosen p q x.0 x.1;
      value = λ p q g f. let x = was p q g f in at_value p q g x.0 x.1 x.3;
      apart = λ p q r g f u w s.
          let x = was p q g u in
          let y = was p r f w in
          kept.mid.apart p q r x.0 y.0 x.1 y.1 (ap (slot_of hash (b.seed p)) (sym x.2) ∙ s ∙ ap (slot_of hash (b.seed p)) y.2);
      range = λ p q g f. let x = was p q g f in kept.mid.range p q x.0 x.1;
      stood = λ p q g f. let x = was p q g f in subst (λ (w : Part). Among w P) (sym x.2) (kept.mid.stood p q x.0 x.1);
    }
      where
        at_value : (p q : ℕ) (g x : Held) → b.slot p q ≡ some x → ((g ≡ x) × (p ≡ j → q ≡ i → ⊥)) ⊎ ((p ≡ j) × (g ≡ (k, v))) → wrote.setting p (slot_of hash (b.seed p) g.0) ≡ g.1
        at_value p q g x f (inl c) =
            at2-other t.setting j (slot_of hash (b.seed j) k) v p (slot_of hash (b.seed p) g.0) clash
            ∙ subst (λ (w : Held). t.setting p (slot_of hash (b.seed p) w.0) ≡ w.1) (sym c.0) (kept.mid.value p q x f)
          where
            clash : p ≡ j → slot_of hash (b.seed p) g.0 ≡ slot_of hash (b.seed j) k → ⊥
            clash u w =
                c.1 u (kept.mid.apart j q i x h (subst (λ (y : ℕ). b.slot y q ≡ some x) u f) e
                (ap (λ (y : Held). slot_of hash (b.seed j) y.0) (sym c.0) ∙ subst (λ (y : ℕ). slot_of hash (b.seed y) g.0 ≡ slot_of hash (b.seed j) k) u w ∙ ap (slot_of hash (b.seed j)) own))
        at_value p q g x f (inr c) =
            subst (λ (y : Held). wrote.setting p (slot_of hash (b.seed p) y.0) ≡ y.1) (sym c.1)
            (subst (λ (y : ℕ). wrote.setting y (slot_of hash (b.seed y) k) ≡ v) (sym c.0) (at2-same t.setting j (slot_of hash (b.seed j) k) v))

    change_led : (x : Part) (w : Setting) → stands (change k v ∷ cs) x ≡ true → last_writing (change k v ∷ cs) x ≡ some w → Holds put (x, w)
    change_led x w n = at_test (same_list k x) refl
      where
        at_test : (d : Bool) → same_list k x ≡ d → cond d (some v) (last_writing cs x) ≡ some w → Holds put (x, w)
        at_test true y l = subst (λ (g : Held). Holds put g) (ap₂ (λ (p : Part) (q : Setting). (p, q)) (same_sound k x y) (some_same l)) (j, i, at2-same b.slot j i (some (k, v)))
        at_test false y l = elsewhere j i h e (some (k, v)) (x, w) (λ u. both_ways (same_list k x) y (subst (λ (p : Part). same_list k p ≡ true) (own ∙ u) (same_own k))) (kept.led x w n l)

    change_only : (x : Part) (w : Setting) → Holds put (x, w) → (stands (change k v ∷ cs) x ≡ true) × (last_writing (change k v ∷ cs) x ≡ some w)
    change_only x w o = go (was o.0 o.1 (x, w) o.2)
      where
        Known : Held → Type 0
        Known g = (stands (change k v ∷ cs) g.0 ≡ true) × (last_writing (change k v ∷ cs) g.0 ≡ some g.1)

        go : (y : Held) × (b.slot o.0 o.1 ≡ some y) × (x ≡ y.0) × ((((x, w) ≡ y) × (o.0 ≡ j → o.1 ≡ i → ⊥)) ⊎ ((o.0 ≡ j) × (◌≡◌ {A = Held} (x, w) (k, v)))) → Known (x, w)
        go y = at-or y.3
          where
            at-or : (((x, w) ≡ y.0) × (o.0 ≡ j → o.1 ≡ i → ⊥)) ⊎ ((o.0 ≡ j) × (◌≡◌ {A = Held} (x, w) (k, v))) → Known (x, w)
            at-or (inl u) =
                let f : b.slot o.0 o.1 ≡ some (x, w) = y.1 ∙ ap (λ (g : Held). some g) (sym u.0) in
                let a = kept.only x w (o.0, o.1, f) in
                (a.0, cond-false (same_list k x) _ _ (not_own j i h e k own o.0 o.1 (x, w) f u.1) ∙ a.1)
            at-or (inr u) = subst Known (sym u.1) (subst (λ (q : Part). stands cs q ≡ true) (sym own) (kept.only h.0 h.1 (j, i, e)).0, cond-true (same_list k k) _ _ (same_own k))

  change_keeps : (k : Part) (v : Setting) (room : ℕ) (b' : Book) (ss : List Step) → called z hash kind b room (change k v) ≡ done b' ss → Kept z hash b' (next_table (applied_all z kind.blank t ss)) (change k v ∷ cs)
  change_keeps k v room b' ss e =
      let a = changed_as z hash kind b k v room b' ss e in
      go a.0 a.1 (a.2, a.3)
    where
      go : (p : ℕ × ℕ) → where_is z b.slot k ≡ some p → (raised (slots b (at2 b.slot p.0 p.1 (some (k, v)))) ≡ b') × ((single p.0 (slot_of hash (b.seed p.0) k) v ∷ []) ≡ ss)
          → Kept z hash b' (next_table (applied_all z kind.blank t ss)) (change k v ∷ cs)
      go p f q =
          let h = found_at z b.slot k p f in
          subst (λ (c : Book). Kept z hash c (next_table (applied_all z kind.blank t ss)) (change k v ∷ cs)) q.0
          (subst (λ (xs : List Step). Kept z hash (raised (slots b (at2 b.slot p.0 p.1 (some (k, v))))) (next_table (applied_all z kind.blank t xs)) (change k v ∷ cs)) q.1
          (settle P (slots b (at2 b.slot p.0 p.1 (some (k, v)))) (wrote k v p.0 p.1 h.0 h.1 h.2) (change k v) kept.forest
          (change_mid k v p.0 p.1 h.0 h.1 h.2) kept.number (change_led k v p.0 p.1 h.0 h.1 h.2) (change_only k v p.0 p.1 h.0 h.1 h.2)))

  pub call_keeps : (c : Call) (room : ℕ) (b' : Book) (ss : List Step) → called z hash kind b room c ≡ done b' ss → Kept z hash b' (next_table (applied_all z kind.blank t ss)) (c ∷ cs)
  call_keeps (enter k v) = enter_keeps k v
  call_keeps (change k v) = change_keeps k v
  call_keeps (strike k) = strike_keeps k
