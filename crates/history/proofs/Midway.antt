-- Finding between two steps of a notice, in a controller's life.
use Rattle.std.proofs.Common.{◌≡◌, ℕ, ◌≤◌, Bool, true, false, eqb, ◌⊎◌, List, [], ◌∷◌, ◌++◌, length, sym, refl, ap, ◌∙◌, subst, inl, inr, append_assoc, arith}
use mathlib.Core.Option.{some}
use Rattle.std.proofs.lemmas.Bool.{cond-false, or_left, eq-eqb}
use Rattle.shared.specs.declared.sizes.Sizes.{Sizes}
use Rattle.shared.specs.Book.{Book, Outcome, Call, Request, slots, where_is, answered, called, raised}
use Rattle.shared.specs.Book.Outcome.{refused, done}
use Rattle.shared.specs.Book.Call.{enter, change, strike}
use Rattle.shared.specs.Kinds.{Hash}
use Rattle.shared.specs.Ledger.{accepted_calls, up_to, stands, last_writing}
use Rattle.shared.specs.Lists.{same_list, at2}
use Rattle.shared.specs.Notice.{Setting, Kind, Step}
use Rattle.shared.specs.Notice.Step.{single}
use Rattle.shared.specs.Table.{Part, Table, edge, slot_of, find, applied_all, next_table}
use Rattle.graph_laws.proofs.Same.{same_sound, same_own}
use Rattle.graph_laws.proofs.Walks.{wider}
use Rattle.graph_laws.proofs.Forest.{map-within, without_in}
use Rattle.chain_laws.specs.Chains.{ChainFor}
use Rattle.history.specs.History.{story}
use Rattle.history.specs.Lives.{book_of, table_of, last_written}
use Rattle.history.specs.Midway.{Spares, FoundMidway}
use Rattle.history.specs.Premises.{Family, LawfulKind, ReadsBack}
use Rattle.chain_laws.proofs.Chains.{chain-found}
use Rattle.history.proofs.Calls.{Kept, parts_of, Entered, entered_as, entered_new, entered_free, differ, changed_as, struck-as, call_keeps}
use Rattle.history.proofs.Between.{between, find-held, nil_front, fronts}
use Rattle.history.proofs.Tales.{Tale, tale, heard, Sure, sure, table_after, table-number, answered-done, up_more, up_all}
use Rattle.history.proofs.Stories.{Same, same}
use Rattle.history.proofs.TheLaw.{writing, life_follows}

module _ (z : Sizes) (hash : Hash) (kind : Kind) (low : Family hash) (b : Book) (t : Table) (cs : List Call) (kept : Kept z hash b t cs) where
  at-start : (k : Part) (v : Setting) → stands cs k ≡ true → last_writing cs k ≡ some v → find z hash t k ≡ v
  at-start k v s l = find-held z hash (parts_of z hash b) b t kept.mid (k, v) (kept.led k v s l)

  midway_call : (c : Call) (room : ℕ) (b' : Book) (ss : List Step) → called z hash kind b room c ≡ done b' ss → (xs ys : List Step) → xs ++ ys ≡ ss
      → (k : Part) (v : Setting) → Spares c k → stands cs k ≡ true → last_writing cs k ≡ some v → find z hash (applied_all z kind.blank t xs) k ≡ v
  midway_call (enter p x) room b' ss e xs ys q k v n s l =
      (between z hash kind.blank low (parts_of z hash b) kept.forest i.start.1 b t kept.mid j (p, x) (j ∷ []) (entered_new z hash kind low b t cs kept p x b' ss i) f.side
      (λ u. entered_free z hash kind low b t cs kept p x b' ss i (wider (map-within (edge z hash) _ _ (λ y m. (without_in same_list same_sound same_own p (parts_of z hash b) y m).0)) u))
      (or_left (eqb j j) false (eq-eqb j j refl)) f.moves i.end i.put
      ).held xs ys (q ∙ sym i.steps) (k, v) (kept.led k v s l)
    where
      i : Entered z hash kind b p x b' ss
      i = entered_as z hash kind b p x room b' ss e

      j : ℕ
      j = i.start.0

      f : ChainFor z hash b.slot p i.start
      f = chain-found z hash b.slot p i.start i.chained
  midway_call (change p x) room b' ss e xs ys q k v n s l = go (fronts xs ys [] step (q ∙ sym a.3))
    where
      a : (i : ℕ × ℕ) × (where_is z b.slot p ≡ some i) × (raised (slots b (at2 b.slot i.0 i.1 (some (p, x)))) ≡ b') × ((single i.0 (slot_of hash (b.seed i.0) p) x ∷ []) ≡ ss)
      a = changed_as z hash kind b p x room b' ss e

      step : Step
      step = single a.0.0 (slot_of hash (b.seed a.0.0) p) x

      next : Kept z hash b' (next_table (applied_all z kind.blank t ss)) (change p x ∷ cs)
      next = call_keeps z hash kind low b t cs kept (change p x) room b' ss e

      go : ((zs : List Step) × (xs ++ zs ≡ [])) ⊎ (xs ≡ step ∷ []) → find z hash (applied_all z kind.blank t xs) k ≡ v
      go (inl r) = ap (λ (y : List Step). find z hash (applied_all z kind.blank t y) k) (nil_front xs r.0 r.1) ∙ at-start k v s l
      go (inr r) =
          ap (λ (y : List Step). find z hash (applied_all z kind.blank t y) k) (r ∙ a.3)
          ∙ find-held z hash (parts_of z hash b') b' (next_table (applied_all z kind.blank t ss)) next.mid (k, v) (next.led k v s (cond-false (same_list p k) (some x) (last_writing cs k) (differ p k (λ y. n (sym y))) ∙ l))
  midway_call (strike p) room b' ss e xs ys q k v n s l =
      let a = struck-as z hash kind b p room b' ss e in
      ap (λ (y : List Step). find z hash (applied_all z kind.blank t y) k) (nil_front xs ys (q ∙ sym a.3)) ∙ at-start k v s l

-- later calls leave the oldest notices and calls as they were
module _ (shut : Bool) (z : Sizes) (hash : Hash) (kind : Kind) (rs : List Request) where
  abbrev old : Tale
  old = tale shut z hash kind rs

  record Longer (w : Tale) : Type 0 where
    long : length old.notices ≤ length w.notices
    calls_long : length old.calls ≤ length w.calls
    notices : (n : ℕ) → n ≤ length old.notices → up_to n w.notices ≡ up_to n old.notices
    calls : (n : ℕ) → n ≤ length old.calls → up_to n w.calls ≡ up_to n old.calls

  longer : (later : List Request) → Longer (tale shut z hash kind (later ++ rs))
  longer [] = record { long = (let h : length old.notices ≤ length old.notices = omega arith in h); calls_long = (let h : length old.calls ≤ length old.calls = omega arith in h); notices = λ n h. refl; calls = λ n h. refl }
  longer (q ∷ later) = go (longer later) (answered z hash kind shut w.book q)
    where
      w : Tale
      w = tale shut z hash kind (later ++ rs)

      go : Longer w → (o : Outcome) → Longer (heard w q.call o)
      go ih (refused n) = ih
      go ih (done b ss) =
          let l1 : length old.notices ≤ length w.notices = ih.long in
          let l2 : length old.calls ≤ length w.calls = ih.calls_long in
          record {
            long = omega arith;
            calls_long = omega arith;
            notices = λ n h. up_more n (b.number, ss) w.notices (omega arith) ∙ ih.notices n h;
            calls = λ n h. up_more n q.call w.calls (omega arith) ∙ ih.calls n h;
          }

module _ (kind : Kind) (ok : LawfulKind kind) (back : ReadsBack kind) where
  pub found_midway : FoundMidway kind
  found_midway c later q qs at number after steps e xs ys front k spares st =
      lw ∙ ap (λ (x : Setting). some x) (sym (subst (λ (t : Table). find z hash (applied_all z kind.blank t xs) k ≡ v.0) (sym table) found))
    where
      z : Sizes
      z = c.sizes

      hash : Hash
      hash = c.hash

      w : Tale
      w = tale c.book_shut z hash kind qs

      s : Same z hash kind (story c.book_shut z hash kind qs) w
      s = same z hash kind c.book_shut qs

      sw : Sure z hash kind w
      sw = sure z hash kind c.family c.book_shut qs

      told : Tale
      told = tale c.book_shut z hash kind c.requests

      more : Longer c.book_shut z hash kind qs told
      more = subst (λ (l : List Request). Longer c.book_shut z hash kind qs (tale c.book_shut z hash kind l)) (append_assoc later (q ∷ []) qs ∙ sym at) (longer c.book_shut z hash kind qs (later ++ (q ∷ [])))

      n : ℕ
      n = (table_of c).number

      at_n : n ≡ length w.notices
      at_n = number ∙ ap (λ (b : Book). b.number) s.book ∙ sym sw.kept.number ∙ table-number z hash kind w.notices

      table : table_of c ≡ table_after z hash kind w.notices
      table =
          let l : n ≤ length w.notices = (let h = at_n in omega arith) in
          (life_follows kind ok back c).0 ∙ ap (table_after z hash kind) (more.notices n l ∙ ap (λ (i : ℕ). up_to i w.notices) at_n ∙ up_all w.notices)

      calls : up_to n (accepted_calls (book_of c).fed) ≡ w.calls
      calls =
          let e1 : n ≡ length w.calls = at_n ∙ sym sw.long in
          ap (up_to n) (same z hash kind c.book_shut c.requests).calls ∙ more.calls n (omega arith) ∙ ap (λ (i : ℕ). up_to i w.calls) e1 ∙ up_all w.calls

      v : (x : Setting) × (last_writing w.calls k ≡ some x)
      v = writing w.calls k (subst (λ (cs : List Call). stands cs k ≡ true) calls st)

      lw : last_written c k ≡ some v.0
      lw = ap (λ (cs : List Call). last_writing cs k) calls ∙ v.1

      found : find z hash (applied_all z kind.blank (table_after z hash kind w.notices) xs) k ≡ v.0
      found =
          midway_call z hash kind c.family w.book (table_after z hash kind w.notices) w.calls sw.kept q.call (length q.buffer) after steps
          (answered-done z hash kind c.book_shut w.book q after steps (subst (λ (b : Book). answered z hash kind c.book_shut b q ≡ done after steps) s.book e)).3
          xs ys front k v.0 spares (subst (λ (cs : List Call). stands cs k ≡ true) calls st) v.1
