-- A book's story, as its calls' answers and buffers tell it, has the texts of the notices and the accepted calls.
use Rattle.std.proofs.Common.{◌≡◌, ℕ, Bool, true, false, cond, not, eqb, List, [], ◌∷◌, ◌++◌, map, length, take, drop, sym, refl, ap, ◌∙◌, subst, ap₂, arith}
use mathlib.Core.Option.{Option, none, some}
use Rattle.std.proofs.lemmas.List.{take-append-le, take_all}
use Rattle.std.proofs.lemmas.Bool.{ne_eqb}
use Rattle.shared.specs.declared.sizes.Sizes.{Sizes}
use Rattle.shared.specs.Book.{Book, Outcome, Call, Request, answered, called, unless, given, told, raised, left, leaves, where_is, chain, placed, last_number}
use Rattle.shared.specs.Book.Outcome.{refused, done}
use Rattle.shared.specs.Book.Call.{enter, change, strike}
use Rattle.shared.specs.Graph.{joins}
use Rattle.shared.specs.Kinds.{Hash}
use Rattle.shared.specs.Ledger.{accepted_calls}
use Rattle.shared.specs.Lists.{is_found}
use Rattle.shared.specs.Notice.{Kind, Step, Notice, notice_text}
use Rattle.shared.specs.Table.{edge, overflows}
use Rattle.history.specs.History.{Story, story, grown, notice_in}
use Rattle.history.specs.Premises.{Family}
use Rattle.history.proofs.Calls.{Kept, no_book}
use Rattle.history.proofs.Stages.{from_call, from_number, from_sheet, before, from_entries, from_seeds, from_chain, from_edges, changed, changed_step, struck}
use Rattle.history.proofs.Tales.{Tale, tale, heard, sure, table_after}

-- no refusal has the number 0
pub record Numbers (o : Outcome) : Type 0 where
  pub some : (n : ℕ) → o ≡ refused n → n ≡ 0 → ⊥

same_number : {m n : ℕ} → refused m ≡ refused n → m ≡ n
same_number e = cc

unless-numbers : (t : Bool) (n : ℕ) (rest : Unit {0} → Outcome) → (n ≡ 0 → ⊥) → Numbers (rest tt) → Numbers (unless t n rest)
unless-numbers true n rest nz h = record { some = λ m e f. nz (same_number e ∙ f) }
unless-numbers false n rest nz h = h

given-numbers : {A : Type 0} (o : Option A) (n : ℕ) (rest : A → Outcome) → (n ≡ 0 → ⊥) → ((x : A) → Numbers (rest x)) → Numbers (given o n rest)
given-numbers none n rest nz h = record { some = λ m e f. nz (same_number e ∙ f) }
given-numbers (some x) n rest nz h = h x

module _ (z : Sizes) (hash : Hash) (kind : Kind) where
  told-numbers : (room : ℕ) (b : Book) (ss : List Step) → Numbers (told kind room b ss)
  told-numbers room b ss = unless-numbers _ 11 (λ _. done (raised b) ss) (omega arith) (record { some = λ n e. absurd (no_book (sym e)) })

  called-numbers : (b : Book) (room : ℕ) (c : Call) → Numbers (called z hash kind b room c)
  called-numbers b room (enter k v) =
      unless-numbers (is_found (where_is z b.slot k)) 5 (from_edges z hash kind b room k v) (omega arith)
      (unless-numbers (joins (map (edge z hash) (before z hash kind b room k v)) (edge z hash k).0 (edge z hash k).1) 8 (from_chain z hash kind b room k v) (omega arith)
      (given-numbers (chain z hash b.slot k) 7 (from_seeds z hash kind b room k v) (omega arith) (λ c.
      given-numbers (placed z hash kind.blank (before z hash kind b room k v) b c.0 (k, v) c.1) 9 (from_entries z hash kind b room k v) (omega arith) (λ r.
      unless-numbers (overflows z b.seed r.1) 10 (λ _. told kind room r.0 r.1) (omega arith) (told-numbers room r.0 r.1)))))
  called-numbers b room (change k v) =
      given-numbers (where_is z b.slot k) 6 (λ p. told kind room (changed z hash kind b room k v p) (changed_step z hash kind b room k v p)) (omega arith)
      (λ p. told-numbers room (changed z hash kind b room k v p) (changed_step z hash kind b room k v p))
  called-numbers b room (strike k) =
      given-numbers (where_is z b.slot k) 6 (λ p. told kind room (struck z hash kind b room k p) []) (omega arith) (λ p. told-numbers room (struck z hash kind b room k p) [])

  pub answered-numbers : (shut : Bool) (b : Book) (q : Request) → Numbers (answered z hash kind shut b q)
  answered-numbers shut b q =
      unless-numbers shut 2 (from_sheet z hash kind b q) (omega arith)
      (unless-numbers (not (eqb q.sheet 0)) 13 (from_number z hash kind b q) (omega arith)
      (unless-numbers (eqb b.number last_number) 12 (from_call z hash kind b q) (omega arith) (called-numbers b (length q.buffer) q.call)))

  -- what a call adds to a story
  abbrev pub text_of : Notice → List ℕ
  text_of m = notice_text kind m.0 m.1

  front : (text rest : List ℕ) → take (length text) (text ++ rest) ≡ text
  front text rest = take-append-le (length text) text rest (omega arith) ∙ take_all (length text) text (omega arith)

  pub record Same (w : Story) (v : Tale) : Type 0 where
    pub book : w.book ≡ v.book
    pub texts : w.texts ≡ map text_of v.notices
    pub calls : accepted_calls w.fed ≡ v.calls

  same_more : (w : Story) (v : Tale) → Same w v → (q : Request) (o : Outcome) → Numbers o → Same (grown w q (left kind w.book q o)) (heard v q.call o)
  same_more w v s q (refused n) nz =
      let off = ne_eqb n 0 (nz.some n refl) in
      record {
        book = s.book;
        texts = ap (λ (a : Bool). cond a (notice_in (left kind w.book q (refused n)) ∷ w.texts) w.texts) off ∙ s.texts;
        calls = ap (λ (a : Bool). cond a (q.call ∷ accepted_calls w.fed) (accepted_calls w.fed)) off ∙ s.calls;
      }
  same_more w v s q (done b ss) nz = record {
    book = refl;
    texts = ap₂ (λ (x : List ℕ) (xs : List (List ℕ)). x ∷ xs) (front (notice_text kind b.number ss) (drop (length (notice_text kind b.number ss)) q.buffer)) s.texts;
    calls = ap (λ (cs : List Call). q.call ∷ cs) s.calls;
  }

  pub same : (shut : Bool) (qs : List Request) → Same (story shut z hash kind qs) (tale shut z hash kind qs)
  same shut [] = record { book = refl; texts = refl; calls = refl }
  same shut (q ∷ qs) =
      let s = same shut qs in
      let w = story shut z hash kind qs in
      let v = tale shut z hash kind qs in
      subst (λ (b : Book). Same (grown w q (leaves shut z hash kind w.book q)) (heard v q.call (answered z hash kind shut b q))) s.book
      (same_more w v s q (answered z hash kind shut w.book q) (answered-numbers shut w.book q))

  -- what is kept, of the story
  pub story-kept : Family hash → (shut : Bool) (qs : List Request) → Kept z hash (story shut z hash kind qs).book (table_after z hash kind (tale shut z hash kind qs).notices) (accepted_calls (story shut z hash kind qs).fed)
  story-kept low shut qs =
      let s = same shut qs in
      let w = story shut z hash kind qs in
      let v = tale shut z hash kind qs in
      let t = table_after z hash kind v.notices in
      subst (λ (b : Book). Kept z hash b t (accepted_calls w.fed)) (sym s.book) (subst (λ (cs : List Call). Kept z hash v.book t cs) (sym s.calls) (sure z hash kind low shut qs).kept)
