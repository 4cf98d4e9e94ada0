-- Each call is accepted exactly where no cause of refusal holds.
use Rattle.std.proofs.Common.{◌≡◌, ℕ, suc, ◌<◌, ◌≤◌, Bool, true, false, not, eqb, ltb, List, [], ◌∷◌, map, length, sym, refl, ap, ◌∙◌, subst, not-suc-le-zero, arith}
use mathlib.Core.Option.{Option, none, some}
use Rattle.std.proofs.lemmas.Bool.{both_ways, eqb-true, eqb-false, eq-eqb, not-true, not-false, ltb-true, ltb-false, or_left}
use Rattle.shared.specs.declared.sizes.Sizes.{Sizes}
use Rattle.shared.specs.Book.{Book, Call, Request, told, raised, called, answered, where_is, chain, placed, last_number}
use Rattle.shared.specs.Book.Outcome.{done}
use Rattle.shared.specs.Book.Call.{enter, change, strike}
use Rattle.shared.specs.Graph.{joins, Joined}
use Rattle.shared.specs.Kinds.{Hash}
use Rattle.shared.specs.Ledger.{accepted_calls, stands}
use Rattle.shared.specs.Lists.{memb, is_found}
use Rattle.shared.specs.Notice.{Setting, Kind, Step, notice_text}
use Rattle.shared.specs.Notice.Step.{single}
use Rattle.shared.specs.Table.{Part, Table, edge, slot_of, overflows, entries_used}
use Rattle.graph_laws.proofs.Walks.{decides, decided}
use Rattle.history.specs.Acceptance.{cause, Seeded, Overfull, Stands, standing_parts, EnterSteps, TooLong, of_call, causes, CallsJudged}
use Rattle.chain_laws.specs.Chains.{ChainFor, Used}
use Rattle.history.specs.History.{Story, story}
use Rattle.chain_laws.proofs.Tools.{never, some_same}
use Rattle.history.proofs.Chains.{unique}
use Rattle.history.proofs.Calls.{Kept, parts_of, found_at, not_found}
use Rattle.history.proofs.Entries.{over-found, room_after}
use Rattle.history.proofs.Judged.{Judged, unless-judged, given-judged, answer-judged}
use Rattle.history.proofs.Least.{chain-none, chain-used, used_same}
use Rattle.history.proofs.Seeds.{seeded, seeded-placed, placed-number}
use Rattle.history.proofs.Stages.{from_call, from_number, from_sheet, from_entries, from_seeds, from_chain, from_edges, changed, changed_step, struck}
use Rattle.history.proofs.Stories.{same, story-kept, answered-numbers}
use Rattle.history.proofs.Tales.{tale, sure, table_after}
use Rattle.history.proofs.TheLaw.{writing}

found_some : {A : Type 0} (o : Option A) → is_found o ≡ true → (x : A) × (o ≡ some x)
found_some none e = absurd (both_ways false refl e)
found_some (some x) e = (x, refl)

module _ (shut : Bool) (z : Sizes) (hash : Hash) (kind : Kind) (w : Story) (q : Request) (t : Table) (kept : Kept z hash w.book t (accepted_calls w.fed)) (roomy : entries_used z w.book.seed ≤ z.overflow) where
  abbrev b : Book
  b = w.book

  abbrev room : ℕ
  room = length q.buffer

  -- the book holds the parts that stand
  found_stands : (k : Part) (p : ℕ × ℕ) → where_is z b.slot k ≡ some p → Stands shut z hash kind w q k
  found_stands k p e =
      let h = found_at z b.slot k p e in
      subst (λ (x : Part). stands (accepted_calls w.fed) x ≡ true) (sym h.2) (kept.only h.0.0 h.0.1 (p.0, p.1, h.1)).0

  lost_stands : (k : Part) → is_found (where_is z b.slot k) ≡ false → Stands shut z hash kind w q k → ⊥
  lost_stands k e s =
      let v = writing (accepted_calls w.fed) k s in
      let o = kept.led k v.0 s v.1 in
      let r = kept.mid.range o.0 o.1 (k, v.0) o.2 in
      not_found z b.slot k e o.0 o.1 (k, v.0) r.0 r.1 o.2 refl

  -- the last check
  told-judged : (c : Book) (ss : List Step) (C : Type 0) → c.number ≡ b.number → (TooLong shut z hash kind w q ss → C) → (C → TooLong shut z hash kind w q ss) → Judged (told kind room c ss) (cause 11 C ∷ [])
  told-judged c ss C same_number yes-long no-long =
      unless-judged (ltb room long) 11 (λ _. done (raised c) ss) C []
      (λ e. yes-long (subst (λ (n : ℕ). room < length (notice_text kind (suc n) ss)) same_number (ltb-true room long e)))
      (λ e x. clash (ltb-false room long e) (subst (λ (n : ℕ). room < length (notice_text kind (suc n) ss)) (sym same_number) (no-long x)))
      (λ e. tt)
    where
      long : ℕ
      long = length (notice_text kind (suc c.number) ss)

      clash : {m n : ℕ} → n ≤ m → m < n → ⊥
      clash p r = let h : 1 ≤ 0 = omega arith in not-suc-le-zero h

  -- an enter: c is the chain that the book uses, r what its steps come to
  module _ (k : Part) (v : Setting) where
    abbrev parts : List Part
    parts = standing_parts shut z hash kind w q

    abbrev put : ℕ × List ℕ → Option (Book × List Step)
    put c = placed z hash kind.blank parts b c.0 (k, v) c.1

    first_bucket : (j : ℕ) → memb j (j ∷ []) ≡ true
    first_bucket j = or_left (eqb j j) false (eq-eqb j j refl)

    abbrev C9 : Type 0
    C9 = (c : ℕ × List ℕ) × Used z hash b.slot k c × (Seeded z hash b.slot c.0 (k, v) c.1 → ⊥)

    abbrev C10 : Type 0
    C10 = (steps : List Step) × EnterSteps shut z hash kind w q k v steps × Overfull z b.seed steps

    abbrev C11 : Type 0
    C11 = (steps : List Step) × EnterSteps shut z hash kind w q k v steps × TooLong shut z hash kind w q steps

    module _ (c : ℕ × List ℕ) (chosen : chain z hash b.slot k ≡ some c) where
      used : Used z hash b.slot k c
      used = chain-used z hash b.slot k c chosen

      no-seed : put c ≡ none → C9
      no-seed e =
          (c, used, λ s. let r = seeded-placed z hash kind.blank parts c.1 b c.0 (k, v) (c.0 ∷ []) (first_bucket c.0) used.own.moves s in never (sym e ∙ r.1))

      module _ (r : Book × List Step) (e : put c ≡ some r) where
        all-seeded : C9 → ⊥
        all-seeded x =
            x.2 (subst (λ (d : ℕ × List ℕ). Seeded z hash b.slot d.0 (k, v) d.1) (used_same z hash b.slot k c x.0 used x.1)
            (seeded z hash kind.blank parts c.1 b c.0 (k, v) (c.0 ∷ []) (first_bucket c.0) used.own.moves r e))

        -- the enter's steps are those of r
        its-steps : EnterSteps shut z hash kind w q k v r.1
        its-steps = record { path = c; used = used; after = r.0; put = e }

        only-steps : (steps : List Step) → EnterSteps shut z hash kind w q k v steps → steps ≡ r.1
        only-steps steps s =
            let f : put c ≡ some (s.after, steps) = subst (λ (d : ℕ × List ℕ). put d ≡ some (s.after, steps)) (used_same z hash b.slot k s.path c s.used used) s.put in
            ap (λ (x : Book × List Step). x.1) (some_same (sym f ∙ e))

        entries-judged : Judged (from_entries z hash kind b room k v r) (cause 10 C10 ∷ cause 11 C11 ∷ [])
        entries-judged =
            unless-judged (overflows z b.seed r.1) 10 (λ _. told kind room r.0 r.1) C10 (cause 11 C11 ∷ [])
            (λ o. (r.1, its-steps, over-found z b.seed r.1 o))
            (λ o x. let f = x.2 in clash (room_after z b.seed r.1 roomy o f.0 f.1 (f.2 ∙ only-steps x.0 x.1)) f.3)
            (λ o. told-judged r.0 r.1 C11 (placed-number z hash kind.blank parts c.1 b c.0 (k, v) r e) (λ l. (r.1, its-steps, l))
            (λ x. subst (λ (ss : List Step). TooLong shut z hash kind w q ss) (only-steps x.0 x.1) x.2))
          where
            clash : {m n : ℕ} → n ≤ m → m < n → ⊥
            clash p l = let h : 1 ≤ 0 = omega arith in not-suc-le-zero h

      seeds-judged : Judged (from_seeds z hash kind b room k v c) (cause 9 C9 ∷ cause 10 C10 ∷ cause 11 C11 ∷ [])
      seeds-judged = given-judged (put c) 9 (from_entries z hash kind b room k v) C9 (cause 10 C10 ∷ cause 11 C11 ∷ []) no-seed all-seeded entries-judged

    abbrev C7 : Type 0
    C7 = (c : ℕ × List ℕ) → ChainFor z hash b.slot k c → ⊥

    abbrev C8 : Type 0
    C8 = Joined (map (edge z hash) parts) (edge z hash k).0 (edge z hash k).1

    enter_judged : Judged (called z hash kind b room (enter k v)) (of_call shut z hash kind w q (enter k v))
    enter_judged =
        unless-judged (is_found (where_is z b.slot k)) 5 (from_edges z hash kind b room k v) (Stands shut z hash kind w q k) (cause 8 C8 ∷ cause 7 C7 ∷ cause 9 C9 ∷ cause 10 C10 ∷ cause 11 C11 ∷ [])
        (λ e. let p = found_some (where_is z b.slot k) e in found_stands k p.0 p.1) (lost_stands k)
        (λ _. unless-judged tested 8 (from_chain z hash kind b room k v) C8 (cause 7 C7 ∷ cause 9 C9 ∷ cause 10 C10 ∷ cause 11 C11 ∷ [])
        (λ e. decides (map (edge z hash) parts) (edge z hash k).0 (edge z hash k).1 e)
        (λ e j. both_ways tested e (decided (map (edge z hash) parts) (edge z hash k).0 (edge z hash k).1 j))
        (λ _. given-judged (chain z hash b.slot k) 7 (from_seeds z hash kind b room k v) C7 (cause 9 C9 ∷ cause 10 C10 ∷ cause 11 C11 ∷ [])
        (chain-none z hash b.slot k) (λ c e n. n c (chain-used z hash b.slot k c e).own) seeds-judged))
      where
        tested : Bool
        tested = joins (map (edge z hash) parts) (edge z hash k).0 (edge z hash k).1

  -- a change and a strike: p is where the part stands
  lost : (k : Part) → where_is z b.slot k ≡ none → Stands shut z hash kind w q k → ⊥
  lost k e = lost_stands k (ap is_found e)

  change_judged : (k : Part) (v : Setting) → Judged (called z hash kind b room (change k v)) (of_call shut z hash kind w q (change k v))
  change_judged k v =
      given-judged (where_is z b.slot k) 6 (λ p. told kind room (changed z hash kind b room k v p) (changed_step z hash kind b room k v p)) (Stands shut z hash kind w q k → ⊥) (cause 11 C ∷ [])
      (lost k) (λ p e n. n (found_stands k p e)) (λ p e. told-judged (changed z hash kind b room k v p) (changed_step z hash kind b room k v p) C refl (there p e) (back p e))
    where
      long : ℕ → Type 0
      long j = TooLong shut z hash kind w q (single j (slot_of hash (b.seed j) k) v ∷ [])

      C : Type 0
      C = (j : ℕ) × (i : ℕ) × (x : Setting) × (b.slot j i ≡ some (k, x)) × long j

      there : (p : ℕ × ℕ) → where_is z b.slot k ≡ some p → long p.0 → C
      there p e l =
          let h = found_at z b.slot k p e in
          (p.0, p.1, h.0.1, h.1 ∙ ap (λ (y : Part). some (y, h.0.1)) (sym h.2), l)

      back : (p : ℕ × ℕ) → where_is z b.slot k ≡ some p → C → long p.0
      back p e x =
          let h = found_at z b.slot k p e in
          let u = unique z hash (parts_of z hash b) b t kept.mid x.0 x.1 p.0 p.1 (k, x.2) h.0 x.3 h.1 h.2 in
          subst long u.0 x.4

  strike_judged : (k : Part) → Judged (called z hash kind b room (strike k)) (of_call shut z hash kind w q (strike k))
  strike_judged k =
      given-judged (where_is z b.slot k) 6 (λ p. told kind room (struck z hash kind b room k p) []) (Stands shut z hash kind w q k → ⊥) (cause 11 (TooLong shut z hash kind w q []) ∷ [])
      (lost k) (λ p e n. n (found_stands k p e)) (λ p e. told-judged (struck z hash kind b room k p) [] (TooLong shut z hash kind w q []) refl (λ l. l) (λ l. l))

  call_judged : (c : Call) → Judged (called z hash kind b room c) (of_call shut z hash kind w q c)
  call_judged (enter k v) = enter_judged k v
  call_judged (change k v) = change_judged k v
  call_judged (strike k) = strike_judged k

  judged : Judged (answered z hash kind shut b q) (causes shut z hash kind w q)
  judged =
      unless-judged shut 2 (from_sheet z hash kind b q) (shut ≡ true) (cause 13 (q.sheet ≡ 0 → ⊥) ∷ cause 12 (b.number ≡ last_number) ∷ of_call shut z hash kind w q q.call)
      (λ e. e) (λ e f. both_ways shut e f)
      (λ _. unless-judged (not (eqb q.sheet 0)) 13 (from_number z hash kind b q) (q.sheet ≡ 0 → ⊥) (cause 12 (b.number ≡ last_number) ∷ of_call shut z hash kind w q q.call)
      (λ e. eqb-false q.sheet 0 (not-true (eqb q.sheet 0) e)) (λ e n. n (eqb-true q.sheet 0 (not-false (eqb q.sheet 0) e)))
      (λ _. unless-judged (eqb b.number last_number) 12 (from_call z hash kind b q) (b.number ≡ last_number) (of_call shut z hash kind w q q.call)
      (λ e. eqb-true b.number last_number e) (λ e f. eqb-false b.number last_number e f)
      (λ _. call_judged q.call)))

pub calls_judged : (kind : Kind) → CallsJudged kind
calls_judged kind shut z hash low qs q =
    let w = story shut z hash kind qs in
    let v = tale shut z hash kind qs in
    let roomy : entries_used z w.book.seed ≤ z.overflow = subst (λ (b : Book). entries_used z b.seed ≤ z.overflow) (sym (same z hash kind shut qs).book) (sure z hash kind low shut qs).roomy in
    answer-judged kind w.book q (causes shut z hash kind w q) (answered z hash kind shut w.book q) (answered-numbers z hash kind shut w.book q)
    (judged shut z hash kind w q (table_after z hash kind v.notices) (story-kept z hash kind low shut qs) roomy)
