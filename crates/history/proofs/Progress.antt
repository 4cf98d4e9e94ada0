-- A controller gets on.
use Rattle.std.proofs.Common.{◌≡◌, ℕ, zero, suc, ◌-◌, ◌≤◌, Bool, true, false, cond, not, eqb, ◌⊎◌, List, [], ◌∷◌, ◌++◌, map, length, drop, Result, sym, refl, ap, ◌∙◌, subst, inl, inr, arith}
use mathlib.Core.Option.{some}
use lib.ListN.{length-map}
use Rattle.std.proofs.lemmas.Bool.{cases_eq, eqb-true, eq-eqb, ne_eqb, not_from_true, not_from_false}
use Rattle.shared.specs.declared.refusal.Fault.{Fault}
use Rattle.shared.specs.declared.sizes.Sizes.{Sizes}
use Rattle.shared.specs.Answers.{accepted, refused_with}
use Rattle.shared.specs.Book.{Book}
use Rattle.shared.specs.Kinds.{Hash}
use Rattle.shared.specs.Ledger.{up_to}
use Rattle.shared.specs.Lists.{Among, apart}
use Rattle.shared.specs.Notice.{Setting, Kind, Notice, read_notice}
use Rattle.shared.specs.Table.{Table, Taking, applied_all, next_table, overflows, within, buckets_of, barring, taken, taken_read, take_text, take_answer, held}
use Rattle.shared.specs.Table.Taking.{refused_take, took}
use Rattle.graph_laws.proofs.Forest.{among_map, from-map}
use Rattle.history.specs.History.{controller, OfBook}
use Rattle.history.specs.Lives.{Life, book_of, table_of}
use Rattle.history.specs.Premises.{LawfulKind, ReadsBack}
use Rattle.history.specs.Progress.{notice_of, takes, TakesNone}
use Rattle.chain_laws.proofs.Tools.{never, some_same, among_append_right, from-append}
use Rattle.history.proofs.Calls.{all_number}
use Rattle.history.proofs.Takes.{Takeable}
use Rattle.history.proofs.Tales.{Tale, tale, Sure, AllTaken, table_after, Numbered, at-notice, table-number}
use Rattle.history.proofs.Stories.{Same, same, text_of}
use Rattle.history.proofs.TheLaw.{notice_read, follows, life_sure, life_follows}

-- the notice behind a book's n-th text
pub nth_notice : (f : Notice → List ℕ) (ns : List Notice) → Numbered ns → (n : ℕ) (x : List ℕ) → notice_of (map f ns) n ≡ some x → (m : Notice) × Among m ns × (x ≡ f m) × (m.0 ≡ n)
nth_notice f [] c n x e = absurd (never e)
nth_notice f (m ∷ ms) c n x e = go (nth_notice f ms c.1 n x) (eqb n (suc (length (map f ms)))) refl e
  where
    go : (notice_of (map f ms) n ≡ some x → (k : Notice) × Among k ms × (x ≡ f k) × (k.0 ≡ n)) → (d : Bool) → eqb n (suc (length (map f ms))) ≡ d → cond d (some (f m)) (notice_of (map f ms) n) ≡ some x
        → (k : Notice) × Among k (m ∷ ms) × (x ≡ f k) × (k.0 ≡ n)
    go ih true q r = (m, inl refl, sym (some_same r), c.0 ∙ sym (eqb-true n (suc (length (map f ms))) q ∙ ap suc (length-map ms f)))
    go ih false q r = let a = ih r in (a.0, inr a.1, a.2, a.3)

module _ (z : Sizes) (hash : Hash) (kind : Kind) where
  all_drop : (i : ℕ) (ns : List Notice) → AllTaken z hash kind ns → AllTaken z hash kind (drop i ns)
  all_drop zero ns a = a
  all_drop (suc i) [] a = a
  all_drop (suc i) (m ∷ ms) a = all_drop i ms a.1

-- the checks of a take, where all pass, and where the number is another
took_all : (z : Sizes) (blank : Setting) (t : Table) (m : Notice) → m.0 ≡ suc t.number → Takeable z t.seed m.1 → taken z blank t m ≡ took (next_table (applied_all z blank t m.1))
took_all z blank t m e ok =
    ap (λ (d : Bool). barring d 15 (λ _. from16 (not (within z m.1)))) (not_from_true _ (eq-eqb m.0 (suc t.number) e))
    ∙ ap (λ (d : Bool). from16 d) (not_from_true _ ok.inside)
    ∙ ap (λ (d : Bool). barring d 17 (λ _. from10 (overflows z t.seed m.1))) (not_from_true _ ok.once)
    ∙ ap (λ (d : Bool). from10 d) ok.few
  where
    from10 : Bool → Taking
    from10 d = barring d 10 (λ _. took (next_table (applied_all z blank t m.1)))

    from16 : Bool → Taking
    from16 d = barring d 16 (λ _. barring (not (apart (buckets_of m.1))) 17 (λ _. from10 (overflows z t.seed m.1)))

not-next : (z : Sizes) (blank : Setting) (t : Table) (m : Notice) → (m.0 ≡ suc t.number → ⊥) → taken z blank t m ≡ refused_take 15
not-next z blank t m n = ap (λ (d : Bool). barring d 15 (λ _. rest)) (not_from_false _ (ne_eqb m.0 (suc t.number) n))
  where
    rest : Taking
    rest = barring (not (within z m.1)) 16 (λ _. barring (not (apart (buckets_of m.1))) 17 (λ _. barring (overflows z t.seed m.1) 10 (λ _. took (next_table (applied_all z blank t m.1)))))

module _ (kind : Kind) (ok : LawfulKind kind) (back : ReadsBack kind) (c : Life kind) where
  abbrev z : Sizes
  z = c.sizes

  abbrev told : Tale
  told = tale c.book_shut z c.hash kind c.requests

  abbrev t : Table
  t = table_of c

  -- the book's n-th text, as the notice that it is read as
  nth_read : (n : ℕ) (x : List ℕ) → notice_of (book_of c).texts n ≡ some x → (m : Notice) × Among m told.notices × (m.0 ≡ n) × (take_text false z kind t x ≡ taken z kind.blank t m)
  nth_read n x e =
      let s = same z c.hash kind c.book_shut c.requests in
      let texts : (book_of c).texts ≡ map (text_of z c.hash kind) told.notices = s.texts in
      let a = nth_notice (text_of z c.hash kind) told.notices (life_sure kind ok back c).numbered n x (subst (λ (l : List (List ℕ)). notice_of l n ≡ some x) texts e) in (
        a.0,
        a.1,
        a.3,
        ap (λ (y : Result Notice Fault). taken_read z kind.blank t y)
            (ap (read_notice kind) a.2 ∙ notice_read kind ok back z c.hash c.family c.book_shut c.requests c.settings a.0 a.1),
      )

  abbrev ns : List Notice
  ns = told.notices

  u : Sure z c.hash kind told
  u = life_sure kind ok back c

  -- the next notice is one that a table which follows the book takes
  next-takeable : (v : Table) → v ≡ table_after z c.hash kind (up_to v.number ns) → (m : Notice) → Among m ns → m.0 ≡ suc v.number → Takeable z v.seed m.1
  next-takeable v f m a e =
      let r = at-notice ns u.numbered m a v.number e in
      let all : AllTaken z c.hash kind (m ∷ up_to v.number ns) =
      subst (λ (l : List Notice). AllTaken z c.hash kind l) r.0 (all_drop z c.hash kind (length ns - suc v.number) ns u.taken) in
      subst (λ (x : Table). Takeable z x.seed m.1) (sym f) all.0

  pub takes-next : c.shut ≡ false → (n : ℕ) (x : List ℕ) → notice_of (book_of c).texts n ≡ some x
      → (n ≡ suc t.number → takes c x ≡ accepted (n ∷ [])) × ((n ≡ suc t.number → ⊥) → takes c x ≡ refused_with 15)
  takes-next open' n x e = (
    λ q. as-open ∙ ap take_answer (r.3 ∙ took_all z kind.blank t r.0 (r.2 ∙ q) (next-takeable t (life_follows kind ok back c).0 r.0 r.1 (r.2 ∙ q))) ∙ ap (λ (i : ℕ). accepted (i ∷ [])) (ap suc (all_number z kind.blank t r.0.1) ∙ sym q),
    λ q. as-open ∙ ap take_answer (r.3 ∙ not-next z kind.blank t r.0 (λ y. q (sym r.2 ∙ y))),
  )
    where
      as-open : takes c x ≡ take_answer (take_text false z kind t x)
      as-open = ap (λ (d : Bool). take_answer (take_text d z kind t x)) open'

      r : (m : Notice) × Among m told.notices × (m.0 ≡ n) × (take_text false z kind t x ≡ taken z kind.blank t m)
      r = nth_read n x e

  -- brought the notices ms in order, a table has come at least as far
  module _ (older : List (List ℕ)) (own : OfBook older (book_of c)) where
    abbrev after : List Notice → Table
    after ms = controller false z kind (map (text_of z c.hash kind) ms ++ older)

    s : Same z c.hash kind (book_of c) told
    s = same z c.hash kind c.book_shut c.requests

    still_own : (ms : List Notice) → ((m : Notice) → Among m ms → Among m ns) → OfBook (map (text_of z c.hash kind) ms ++ older) (book_of c)
    still_own ms sub x i = go (from-append (map (text_of z c.hash kind) ms) older x i)
      where
        go : Among x (map (text_of z c.hash kind) ms) ⊎ Among x older → Among x (book_of c).texts
        go (inl a) =
            let r = from-map (text_of z c.hash kind) ms x a in
            subst (λ (l : List (List ℕ)). Among x l) (sym s.texts) (subst (λ (y : List ℕ). Among y (map (text_of z c.hash kind) ns)) (sym r.2) (among_map (text_of z c.hash kind) ns r.0 (sub r.0 r.1)))
        go (inr a) = own x a

    reaches : (ms : List Notice) → Numbered ms → ((m : Notice) → Among m ms → Among m ns) → length ms ≤ (after ms).number
    reaches [] n sub = omega arith
    reaches (m ∷ ms) n sub =
        subst (λ (y : Result Notice Fault). suc (length ms) ≤ (held v (taken_read z kind.blank v y)).number)
        (sym (notice_read kind ok back z c.hash c.family c.book_shut c.requests c.settings m (sub m (inl refl))))
        (go (cases_eq v.number (length ms)) (reaches ms n.1 (λ x i. sub x (inr i))))
      where
        v : Table
        v = after ms

        f : (v ≡ table_after z c.hash kind (up_to v.number ns)) × (v.number ≤ length ns)
        f = follows kind ok back z c.hash c.family c.book_shut c.requests c.settings false (map (text_of z c.hash kind) ms ++ older) (still_own ms (λ x i. sub x (inr i)))

        go : (v.number ≡ length ms) ⊎ (v.number ≡ length ms → ⊥) → length ms ≤ v.number → suc (length ms) ≤ (held v (taken z kind.blank v m)).number
        go (inl e) h =
            let next : m.0 ≡ suc v.number = n.0 ∙ ap suc (sym e) in
            subst (λ (x : Taking). suc (length ms) ≤ (held v x).number) (sym (took_all z kind.blank v m next (next-takeable v f.0 m (sub m (inl refl)) next)))
            (let q : (applied_all z kind.blank v m.1).number ≡ v.number = all_number z kind.blank v m.1 in omega arith)
        go (inr d) h =
            subst (λ (x : Taking). suc (length ms) ≤ (held v x).number) (sym (not-next z kind.blank v m (λ x. let y : suc (length ms) ≡ suc v.number = sym n.0 ∙ x in d (omega arith))))
            (omega arith)

  pub catches_up : c.shut ≡ false → (older : List (List ℕ)) → c.brought ≡ (book_of c).texts ++ older → (t.number ≡ (book_of c).book.number) × ((book_of c).book.number ≡ length (book_of c).texts)
  catches_up open' older all = (reached, counted)
    where
      own : OfBook older (book_of c)
      own x i = c.own x (subst (λ (l : List (List ℕ)). Among x l) (sym all) (among_append_right (book_of c).texts older x i))

      texts : (book_of c).texts ≡ map (text_of z c.hash kind) ns
      texts = (s older own).texts

      at-end : t ≡ after older own ns
      at-end =
          ap (λ (d : Bool). controller d z kind c.brought) open' ∙ ap (λ (l : List (List ℕ)). controller false z kind l) (all ∙ ap (λ (l : List (List ℕ)). l ++ older) texts)

      book : (book_of c).book.number ≡ length ns
      book = ap (λ (b : Book). b.number) (s older own).book ∙ sym u.kept.number ∙ table-number z c.hash kind ns

      reached : t.number ≡ (book_of c).book.number
      reached =
          let lo : length ns ≤ t.number = subst (λ (v : Table). length ns ≤ v.number) (sym at-end) (reaches older own ns u.numbered (λ m i. i)) in
          let hi : t.number ≤ length ns = (life_follows kind ok back c).1 in
          let e : (book_of c).book.number ≡ length ns = book in
          omega arith

      counted : (book_of c).book.number ≡ length (book_of c).texts
      counted = book ∙ sym (ap length texts ∙ length-map ns (text_of z c.hash kind))

-- a shut controller takes nothing
pub takes_none : (kind : Kind) → TakesNone kind
takes_none kind c s x = ap (λ (b : Bool). take_answer (take_text b c.sizes kind (table_of c) x)) s
