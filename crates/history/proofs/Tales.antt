-- A book's history over the steps of its notices, before they are texts: what each accepted call keeps, call by call.
use Rattle.std.proofs.Common.{◌≡◌, ℕ, suc, ◌-◌, ◌<◌, ◌≤◌, Bool, true, false, not, eqb, ◌⊎◌, List, [], ◌∷◌, length, drop, sym, refl, ap, ◌∙◌, subst, ap₂, inl, inr, append-nil, arith, drop_of_length-le}
use Rattle.std.proofs.lemmas.Bool.{cases_lt, both_ways, eqb-true, eqb-false, not-false}
use Rattle.shared.specs.declared.sizes.Sizes.{Sizes}
use Rattle.shared.specs.Book.{Book, Outcome, Call, Request, fresh_book, answered, called, unless, last_number}
use Rattle.shared.specs.Book.Outcome.{refused, done}
use Rattle.shared.specs.Kinds.{Hash}
use Rattle.shared.specs.Ledger.{up_to}
use Rattle.shared.specs.Lists.{Among}
use Rattle.shared.specs.Notice.{Kind, Step, Notice, notice_form}
use Rattle.shared.specs.Table.{Part, Table, fresh_table, applied_all, next_table, entries_used}
use Rattle.history.specs.Premises.{Family, LawfulKind, LawfulRequests}
use Rattle.history.specs.Sound.{Mid}
use Rattle.chain_laws.proofs.Tools.{never}
use Rattle.history.proofs.Calls.{Kept, parts_of, stood_only, all_number, unless-done, call_keeps}
use Rattle.history.proofs.Entries.{applied-seeds, fresh_entries, room_after}
use Rattle.history.proofs.Fits.{HeldLawful, StepsFit, call_fits, notice_fits}
use Rattle.history.proofs.Takes.{Takeable, call_takes, found_inside}

-- the book, its notices, and its accepted calls
pub record Tale : Type 0 where
  pub book : Book
  pub notices : List Notice
  pub calls : List Call

abbrev pub heard : Tale → Call → Outcome → Tale
heard w c (refused n) = w
heard w c (done b steps) = record { book = b; notices = (b.number, steps) ∷ w.notices; calls = c ∷ w.calls }

abbrev pub tale : Bool → Sizes → Hash → Kind → List Request → Tale
tale shut z hash kind [] = record { book = fresh_book; notices = []; calls = [] }
tale shut z hash kind (q ∷ qs) = let w = tale shut z hash kind qs in heard w q.call (answered z hash kind shut w.book q)

-- the oldest n of a list
pub up_all : {A : Type 0} (xs : List A) → up_to (length xs) xs ≡ xs
up_all xs = ap (λ (k : ℕ). drop k xs) (let e : length xs - length xs ≡ 0 = omega arith in e)

pub up_more : {A : Type 0} (n : ℕ) (x : A) (xs : List A) → n ≤ length xs → up_to n (x ∷ xs) ≡ up_to n xs
up_more n x xs h = ap (λ (k : ℕ). drop k (x ∷ xs)) (let e : suc (length xs) - n ≡ suc (length xs - n) = omega arith in e)

pub up_none : {A : Type 0} (xs : List A) → up_to 0 xs ≡ []
up_none xs = drop_of_length-le xs (let e : length xs ≤ length xs - 0 = omega arith in e)

-- notices are numbered from 1
abbrev pub Numbered : List Notice → Type 0
Numbered [] = Unit {0}
Numbered (m ∷ ms) = (m.0 ≡ suc (length ms)) × Numbered ms

pub at-notice : (ns : List Notice) → Numbered ns → (m : Notice) → Among m ns → (n : ℕ) → m.0 ≡ suc n → (up_to (suc n) ns ≡ m ∷ up_to n ns) × (suc n ≤ length ns)
at-notice [] c m a n e = absurd a
at-notice (x ∷ xs) c m (inl q) n e =
    let l : suc n ≡ suc (length xs) = sym e ∙ ap (λ (w : Notice). w.0) q ∙ c.0 in
    let k : n ≡ length xs = omega arith in
    (ap (λ (w : ℕ). up_to w (x ∷ xs)) l ∙ up_all (x ∷ xs) ∙ ap₂ (λ (u : Notice) (w : List Notice). u ∷ w) (sym q) (sym (up_more n x xs (omega arith) ∙ ap (λ (w : ℕ). up_to w xs) k ∙ up_all xs)), omega arith)
at-notice (x ∷ xs) c m (inr a) n e =
    let r = at-notice xs c.1 m a n e in
    let h : suc n ≤ length xs = r.1 in
    (up_more (suc n) x xs h ∙ r.0 ∙ ap (λ (w : List Notice). m ∷ w) (sym (up_more n x xs (omega arith))), omega arith)

pub numbered_low : (ns : List Notice) → Numbered ns → (m : Notice) → Among m ns → (1 ≤ m.0) × (m.0 ≤ length ns)
numbered_low [] c m a = absurd a
numbered_low (x ∷ xs) c m (inl q) = let e : m.0 ≡ suc (length xs) = ap (λ (w : Notice). w.0) q ∙ c.0 in (omega arith, omega arith)
numbered_low (x ∷ xs) c m (inr a) = let r = numbered_low xs c.1 m a in let h : m.0 ≤ length xs = r.1 in (r.0, omega arith)

-- an accepted call: the book is open, the sheet blank, and the number not the last
pub answered-done : (z : Sizes) (hash : Hash) (kind : Kind) (shut : Bool) (b : Book) (q : Request) (b' : Book) (ss : List Step) → answered z hash kind shut b q ≡ done b' ss
    → (shut ≡ false) × (q.sheet ≡ 0) × (b.number ≡ last_number → ⊥) × (called z hash kind b (length q.buffer) q.call ≡ done b' ss)
answered-done z hash kind shut b q b' ss e =
    let s1 = unless-done shut 2 (λ _. unless (not (eqb q.sheet 0)) 13 (λ _. unless (eqb b.number last_number) 12 (λ _. called z hash kind b (length q.buffer) q.call))) b' ss e in
    let s2 = unless-done (not (eqb q.sheet 0)) 13 (λ _. unless (eqb b.number last_number) 12 (λ _. called z hash kind b (length q.buffer) q.call)) b' ss s1.1 in
    let s3 = unless-done (eqb b.number last_number) 12 (λ _. called z hash kind b (length q.buffer) q.call) b' ss s2.1 in
    (s1.0, eqb-true q.sheet 0 (not-false (eqb q.sheet 0) s2.0), eqb-false b.number last_number s3.0, s3.1)

module _ (z : Sizes) (hash : Hash) (kind : Kind) where
  -- the table that the notices make, one after the other
  abbrev pub table_after : List Notice → Table
  table_after [] = fresh_table kind.blank
  table_after (m ∷ ms) = next_table (applied_all z kind.blank (table_after ms) m.1)

  pub table-number : (ns : List Notice) → (table_after ns).number ≡ length ns
  table-number [] = refl
  table-number (m ∷ ms) = ap suc (all_number z kind.blank (table_after ms) m.1 ∙ table-number ms)

  -- each notice is one that a table which is so far takes
  abbrev pub AllTaken : List Notice → Type 0
  AllTaken [] = Unit {0}
  AllTaken (m ∷ ms) = Takeable z (table_after ms).seed m.1 × AllTaken ms

  fresh_mid : (xs : List Part) → Mid z hash xs fresh_book (fresh_table kind.blank)
  fresh_mid xs = record {
    row = refl;
    seed = refl;
    seeds = λ j. (let h : 0 < 256 = omega arith in h);
    chosen = λ j i h e. absurd (never e);
    value = λ j i h e. absurd (never e);
    apart = λ j i k g h e f s. absurd (never e);
    range = λ j i h e. absurd (never e);
    stood = λ j i h e. absurd (never e);
  }

  fresh_kept : Kept z hash fresh_book (fresh_table kind.blank) []
  fresh_kept = record {
    mid = fresh_mid (parts_of z hash fresh_book);
    forest = λ k m j. stood_only z hash [] fresh_book (fresh_table kind.blank) (fresh_mid []) k m;
    number = refl;
    led = λ k v e f. absurd (both_ways false refl e);
    only = λ k v o. absurd (never o.2);
  }

  pub record Sure (w : Tale) : Type 0 where
    pub kept : Kept z hash w.book (table_after w.notices) w.calls
    pub numbered : Numbered w.notices
    pub taken : AllTaken w.notices
    pub long : length w.calls ≡ length w.notices
    pub few : length w.notices ≤ last_number
    pub roomy : entries_used z w.book.seed ≤ z.overflow
    pub past : (n : ℕ) → n ≤ length w.notices → (b : Book) × Kept z hash b (table_after (up_to n w.notices)) (up_to n w.calls)

  module _ (low : Family hash) (shut : Bool) where
    sure_more : (w : Tale) → Sure w → (q : Request) (b : Book) (ss : List Step) → answered z hash kind shut w.book q ≡ done b ss → Sure (heard w q.call (done b ss))
    sure_more w ih q b ss e = record {
      kept = now;
      numbered = (sym now.number ∙ table-number ((b.number, ss) ∷ w.notices), ih.numbered);
      taken = (good, ih.taken);
      long = ap suc ih.long;
      few = below w.book.number (length w.notices) (sym ih.kept.number ∙ table-number w.notices) u.2 ih.few;
      roomy = room;
      past = λ n h. at-or n (cases_lt n (suc (length w.notices))) h;
    }
      where
        u : (shut ≡ false) × (q.sheet ≡ 0) × (w.book.number ≡ last_number → ⊥) × (called z hash kind w.book (length q.buffer) q.call ≡ done b ss)
        u = answered-done z hash kind shut w.book q b ss e

        now : Kept z hash b (table_after ((b.number, ss) ∷ w.notices)) (q.call ∷ w.calls)
        now = call_keeps z hash kind low w.book (table_after w.notices) w.calls ih.kept q.call (length q.buffer) b ss u.3

        t : Table
        t = table_after w.notices

        good : Takeable z t.seed ss
        good = call_takes z hash kind low w.book t w.calls ih.kept q.call (length q.buffer) b ss u.3

        room : entries_used z b.seed ≤ z.overflow
        room =
            subst (λ (f : ℕ → ℕ). entries_used z f ≤ z.overflow) (sym (applied-seeds z kind.blank t ss) ∙ now.mid.seed)
            (room_after z t.seed ss (subst (λ (f : ℕ → ℕ). entries_used z f ≤ z.overflow) (sym ih.kept.mid.seed) ih.roomy) good.few ss [] (append-nil ss))

        below : (n l : ℕ) → n ≡ l → (n ≡ 4000000000 → ⊥) → l ≤ 4000000000 → suc l ≤ 4000000000
        below n l x v y = omega arith

        at-or : (n : ℕ) → (n < suc (length w.notices)) ⊎ (suc (length w.notices) ≤ n) → n ≤ suc (length w.notices)
            → (c : Book) × Kept z hash c (table_after (up_to n ((b.number, ss) ∷ w.notices))) (up_to n (q.call ∷ w.calls))
        at-or n (inl l) h =
            let lo : n ≤ length w.notices = omega arith in
            let eq : length w.calls ≡ length w.notices = ih.long in
            let lo2 : n ≤ length w.calls = omega arith in
            let r = ih.past n lo in (
              r.0,
              subst (λ (x : List Notice). Kept z hash r.0 (table_after x) (up_to n (q.call ∷ w.calls))) (sym (up_more n (b.number, ss) w.notices lo))
                  (subst (λ (x : List Call). Kept z hash r.0 (table_after (up_to n w.notices)) x) (sym (up_more n q.call w.calls lo2)) r.1),
            )
        at-or n (inr g) h =
            let eq : length w.calls ≡ length w.notices = ih.long in
            let e1 : n ≡ suc (length w.notices) = omega arith in
            let e2 : n ≡ suc (length w.calls) = omega arith in (
              b,
              subst (λ (x : List Notice). Kept z hash b (table_after x) (up_to n (q.call ∷ w.calls))) (sym (ap (λ (k : ℕ). up_to k ((b.number, ss) ∷ w.notices)) e1 ∙ up_all ((b.number, ss) ∷ w.notices)))
                  (subst (λ (x : List Call). Kept z hash b (table_after ((b.number, ss) ∷ w.notices)) x) (sym (ap (λ (k : ℕ). up_to k (q.call ∷ w.calls)) e2 ∙ up_all (q.call ∷ w.calls))) now),
            )

    pub sure : (qs : List Request) → Sure (tale shut z hash kind qs)
    sure [] = record {
      kept = fresh_kept;
      numbered = tt;
      taken = tt;
      long = refl;
      few = (let h : 0 ≤ 4000000000 = omega arith in h);
      roomy = fresh_entries z;
      past = λ n h. (fresh_book, let e : 0 ≡ n = omega arith in subst (λ (k : ℕ). Kept z hash fresh_book (table_after (up_to k [])) (up_to k [])) e fresh_kept);
    }
    sure (q ∷ qs) = go (sure qs) (answered z hash kind shut w.book q) refl
      where
        w : Tale
        w = tale shut z hash kind qs

        go : Sure w → (o : Outcome) → answered z hash kind shut w.book q ≡ o → Sure (heard w q.call o)
        go ih (refused n) e = ih
        go ih (done b ss) e = sure_more w ih q b ss e

    -- where the calls bring settings of the kind, each notice is a value of its form
    module _ (ok : LawfulKind kind) where
      abbrev Fitting : Tale → Type 0
      Fitting w = HeldLawful kind ok w.book.slot × ((m : Notice) → Among m w.notices → (notice_form kind).fits m ≡ true)

      fitting : (qs : List Request) → LawfulRequests kind qs → Fitting (tale shut z hash kind qs)
      fitting [] f = (λ j i h e. absurd (never e), λ m a. absurd a)
      fitting (q ∷ qs) f = go (fitting qs f.1) (answered z hash kind shut w.book q) refl
        where
          w : Tale
          w = tale shut z hash kind qs

          go : Fitting w → (o : Outcome) → answered z hash kind shut w.book q ≡ o → Fitting (heard w q.call o)
          go ih (refused n) e = ih
          go ih (done b ss) e = (c.1, at-or)
            where
              s : Sure w
              s = sure qs

              next : Sure (heard w q.call (done b ss))
              next = sure_more w s q b ss e

              c : StepsFit kind ok ss × HeldLawful kind ok b.slot × (length ss ≤ 5)
              c =
                  call_fits kind ok z hash low w.book s.kept.mid.seeds (found_inside z hash kind low w.book (table_after w.notices) w.calls s.kept) (length q.buffer) q.call f.0 ih.0 b ss
                  (answered-done z hash kind shut w.book q b ss e).3

              low-number : (1 ≤ b.number) × (b.number ≤ suc (length w.notices))
              low-number = numbered_low ((b.number, ss) ∷ w.notices) next.numbered (b.number, ss) (inl refl)

              at-or : (m : Notice) → Among m ((b.number, ss) ∷ w.notices) → (notice_form kind).fits m ≡ true
              at-or m (inl a) =
                  let lo : 1 ≤ b.number = low-number.0 in
                  let hi : b.number ≤ suc (length w.notices) = low-number.1 in
                  let most : suc (length w.notices) ≤ 4000000000 = next.few in
                  subst (λ (y : Notice). (notice_form kind).fits y ≡ true) (sym a) (notice_fits kind ok b.number ss lo (omega arith) c.2 c.0)
              at-or m (inr a) = ih.1 m a

      pub all_fit : (qs : List Request) → LawfulRequests kind qs → (m : Notice) → Among m (tale shut z hash kind qs).notices → (notice_form kind).fits m ≡ true
      all_fit qs f = (fitting qs f).1
