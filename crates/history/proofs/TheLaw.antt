-- The law, from what each accepted call keeps and from reading notices back.
use Rattle.std.proofs.Common.{◌≡◌, ℕ, suc, ◌<◌, ◌≤◌, Bool, true, false, cond, not, eqb, List, [], ◌∷◌, length, Ok, Result, sym, refl, ap, ◌∙◌, subst, inl, inr, arith}
use mathlib.Core.Option.{some}
use Rattle.std.proofs.lemmas.Bool.{eqb-true, both_ways}
use Rattle.shared.specs.declared.refusal.Fault.{Fault}
use Rattle.shared.specs.declared.sizes.Sizes.{Sizes}
use Rattle.shared.specs.Answers.{Answer, accepted, refused_with}
use Rattle.shared.specs.Book.{Book, Call, Request}
use Rattle.shared.specs.Book.Call.{enter, change, strike}
use Rattle.shared.specs.Kinds.{Hash}
use Rattle.shared.specs.Ledger.{accepted_calls, up_to, stands, last_writing}
use Rattle.shared.specs.Lists.{Among, same_list, apart}
use Rattle.shared.specs.Notice.{Setting, Kind, Notice, read_notice}
use Rattle.shared.specs.Table.{Part, Table, Taking, find, fresh_table, applied_all, next_table, overflows, within, buckets_of, barring, taken, taken_read, take_text, held, find_answer}
use Rattle.shared.specs.Table.Taking.{took}
use Rattle.graph_laws.proofs.Forest.{from-map}
use Rattle.history.specs.History.{story, controller, OfBook}
use Rattle.history.specs.Law.{Agree, FindsJudged}
use Rattle.history.specs.Lives.{Life, book_of, table_of, finds, stands_there, last_written}
use Rattle.history.specs.Premises.{Family, LawfulKind, LawfulRequests, ReadsBack}
use Rattle.chain_laws.proofs.Tools.{some_same}
use Rattle.history.proofs.Calls.{Kept, all_number}
use Rattle.history.proofs.Between.{find-held}
use Rattle.history.proofs.Tales.{Tale, tale, Sure, sure, all_fit, table_after, Numbered, at-notice, up_none}
use Rattle.history.proofs.Stories.{same, text_of}

-- a part that stands has a last writing
pub writing : (cs : List Call) (k : Part) → stands cs k ≡ true → (v : Setting) × (last_writing cs k ≡ some v)
writing [] k e = absurd (both_ways false refl e)
writing (enter p v ∷ cs) k e = go (writing cs k) (same_list p k) e
  where
    go : (stands cs k ≡ true → (x : Setting) × (last_writing cs k ≡ some x)) → (d : Bool) → cond d true (stands cs k) ≡ true → (x : Setting) × (cond d (some v) (last_writing cs k) ≡ some x)
    go ih true f = (v, refl)
    go ih false f = ih f
writing (change p v ∷ cs) k e = go (writing cs k e) (same_list p k)
  where
    go : (x : Setting) × (last_writing cs k ≡ some x) → (d : Bool) → (x : Setting) × (cond d (some v) (last_writing cs k) ≡ some x)
    go ih true = (v, refl)
    go ih false = ih
writing (strike p ∷ cs) k e = go (writing cs k) (same_list p k) e
  where
    go : (stands cs k ≡ true → (x : Setting) × (last_writing cs k ≡ some x)) → (d : Bool) → cond d false (stands cs k) ≡ true → (x : Setting) × (last_writing cs k ≡ some x)
    go ih true f = absurd (both_ways false refl f)
    go ih false f = ih f

-- a controller that is brought a book's notices has the table of the first n of them, n its number
module _ (z : Sizes) (hash : Hash) (kind : Kind) (ns : List Notice) (numbered : Numbered ns) where
  abbrev pub Follows : Table → Type 0
  Follows t = (t ≡ table_after z hash kind (up_to t.number ns)) × (t.number ≤ length ns)

  follows_fresh : Follows (fresh_table kind.blank)
  follows_fresh = (ap (table_after z hash kind) (sym (up_none ns)), omega arith)

  follows_take : (t : Table) → Follows t → (m : Notice) → Among m ns → Follows (held t (taken z kind.blank t m))
  follows_take t ih m from = t15 (eqb m.0 (suc t.number)) refl
    where
      good : Taking
      good = took (next_table (applied_all z kind.blank t m.1))

      t10 : m.0 ≡ suc t.number → (d : Bool) → Follows (held t (barring d 10 (λ _. good)))
      t10 e true = ih
      t10 e false =
          let r = at-notice ns numbered m from t.number e in
          let same_number : (applied_all z kind.blank t m.1).number ≡ t.number = all_number z kind.blank t m.1 in (
            ap (λ (x : Table). next_table (applied_all z kind.blank x m.1)) ih.0 ∙ ap (table_after z hash kind) (sym r.0) ∙ ap (λ (k : ℕ). table_after z hash kind (up_to (suc k) ns)) (sym same_number),
            let h : suc t.number ≤ length ns = r.1 in subst (λ (k : ℕ). suc k ≤ length ns) (sym same_number) h,
          )

      from17 : Unit {0} → Taking
      from17 _ = barring (overflows z t.seed m.1) 10 (λ _. good)

      t17 : m.0 ≡ suc t.number → (d : Bool) → Follows (held t (barring (not d) 17 from17))
      t17 e true = t10 e (overflows z t.seed m.1)
      t17 e false = ih

      from16 : Unit {0} → Taking
      from16 _ = barring (not (apart (buckets_of m.1))) 17 from17

      t16 : m.0 ≡ suc t.number → (d : Bool) → Follows (held t (barring (not d) 16 from16))
      t16 e true = t17 e (apart (buckets_of m.1))
      t16 e false = ih

      from15 : Unit {0} → Taking
      from15 _ = barring (not (within z m.1)) 16 from16

      t15 : (d : Bool) → eqb m.0 (suc t.number) ≡ d → Follows (held t (barring (not d) 15 from15))
      t15 true q = t16 (eqb-true m.0 (suc t.number) q) (within z m.1)
      t15 false q = ih

-- a shut controller takes nothing
pub shut_fresh : (z : Sizes) (kind : Kind) (xs : List (List ℕ)) → controller true z kind xs ≡ fresh_table kind.blank
shut_fresh z kind [] = refl
shut_fresh z kind (x ∷ xs) = shut_fresh z kind xs

module _ (kind : Kind) (ok : LawfulKind kind) (back : ReadsBack kind) where
  module _ (z : Sizes) (hash : Hash) (low : Family hash) (book_shut : Bool) (qs : List Request) (lawful : LawfulRequests kind qs) where
    abbrev w : Tale
    w = tale book_shut z hash kind qs

    pub notice_read : (m : Notice) → Among m w.notices → read_notice kind (text_of z hash kind m) ≡ Ok m
    notice_read m a = back m.0 m.1 (all_fit z hash kind low book_shut ok qs lawful m a)

    -- a text of the book is that of a notice, and is read as that notice
    text_read : (x : List ℕ) → Among x (story book_shut z hash kind qs).texts → (m : Notice) × Among m w.notices × (read_notice kind x ≡ Ok m)
    text_read x a =
        let s = same z hash kind book_shut qs in
        let r = from-map (text_of z hash kind) w.notices x (subst (λ (l : List (List ℕ)). Among x l) s.texts a) in
        (r.0, r.1, ap (read_notice kind) r.2 ∙ notice_read r.0 r.1)

    pub follows : (shut : Bool) (xs : List (List ℕ)) → OfBook xs (story book_shut z hash kind qs) → Follows z hash kind w.notices (sure z hash kind low book_shut qs).numbered (controller shut z kind xs)
    follows shut [] a = follows_fresh z hash kind w.notices (sure z hash kind low book_shut qs).numbered
    follows shut (x ∷ xs) a = go shut (follows shut xs (λ y i. a y (inr i)))
      where
        ns : List Notice
        ns = w.notices

        numbered : Numbered ns
        numbered = (sure z hash kind low book_shut qs).numbered

        r : (m : Notice) × Among m ns × (read_notice kind x ≡ Ok m)
        r = text_read x (a x (inl refl))

        go : (d : Bool) → Follows z hash kind ns numbered (controller shut z kind xs) → Follows z hash kind ns numbered (held (controller shut z kind xs) (take_text d z kind (controller shut z kind xs) x))
        go true ih = ih
        go false ih =
            subst (λ (y : Result Notice Fault). Follows z hash kind ns numbered (held (controller shut z kind xs) (taken_read z kind.blank (controller shut z kind xs) y))) (sym r.2)
            (follows_take z hash kind ns numbered (controller shut z kind xs) ih r.0 r.1)

  module _ (c : Life kind) where
    abbrev z : Sizes
    z = c.sizes

    abbrev hash : Hash
    hash = c.hash

    abbrev told : Tale
    told = tale c.book_shut z hash kind c.requests

    abbrev n : ℕ
    n = (table_of c).number

    pub life_sure : Sure z hash kind told
    life_sure = sure z hash kind c.family c.book_shut c.requests

    pub life_follows : (table_of c ≡ table_after z hash kind (up_to n told.notices)) × (n ≤ length told.notices)
    life_follows = follows z hash c.family c.book_shut c.requests c.settings c.shut c.brought c.own

    -- the book as it was at the controller's number
    pub life_past : (b : Book) × Kept z hash b (table_of c) (up_to n (accepted_calls (book_of c).fed))
    life_past =
        let p = life_sure.past n life_follows.1 in (
          p.0,
          subst (λ (t : Table). Kept z hash p.0 t (up_to n (accepted_calls (book_of c).fed))) (sym life_follows.0)
              (subst (λ (cs : List Call). Kept z hash p.0 (table_after z hash kind (up_to n told.notices)) (up_to n cs)) (sym (same z hash kind c.book_shut c.requests).calls) p.1),
        )

    -- the controller's seeds are below 256
    pub life_seeds : (j : ℕ) → (table_of c).seed j < 256
    life_seeds j = subst (λ (f : ℕ → ℕ). f j < 256) (sym life_past.1.mid.seed) (life_past.1.mid.seeds j)

    -- it answers the last writing of a part that stands
    pub answers_last : (k : Part) → stands_there c k ≡ true → last_written c k ≡ some (find z hash (table_of c) k)
    answers_last k e =
        let v = writing (up_to n (accepted_calls (book_of c).fed)) k e in
        let p = life_past in
        v.1 ∙ ap (λ (x : Setting). some x) (sym (find-held z hash _ p.0 (table_of c) p.1.mid (k, v.0) (p.1.led k v.0 e v.1)))

    -- where a part stands at its number, it is open
    pub open_there : (k : Part) → stands_there c k ≡ true → c.shut ≡ false
    open_there k e = go c.shut refl
      where
        go : (d : Bool) → c.shut ≡ d → d ≡ false
        go true q =
            let t : table_of c ≡ fresh_table kind.blank = ap (λ (d : Bool). controller d z kind c.brought) q ∙ shut_fresh z kind c.brought in
            absurd (both_ways (stands_there c k)
            (ap (λ (u : Table). stands (up_to u.number (accepted_calls (book_of c).fed)) k) t ∙ ap (λ (cs : List Call). stands cs k) (up_none (accepted_calls (book_of c).fed))) e)
        go false q = refl

    pub finds-last : (k : Part) → stands_there c k ≡ true → finds c k ≡ accepted (find z hash (table_of c) k)
    finds-last k e = ap (λ (d : Bool). cond d (refused_with 2) (accepted (find z hash (table_of c) k))) (open_there k e)

  same_setting : {v x : Setting} → accepted v ≡ accepted x → v ≡ x
  same_setting e = ap (λ (a : Answer). a.1) e

  pub agree : Agree kind
  agree c d k s t =
      let one = answers_last c k s in
      let two = answers_last d k t in (
        λ e. one ∙ ap (λ (x : Setting). some x) (same_setting (sym (finds-last c k s) ∙ e ∙ finds-last d k t)) ∙ sym two,
        λ e. finds-last c k s ∙ ap accepted (some_same (sym one ∙ e ∙ two)) ∙ sym (finds-last d k t),
      )

-- a find as its controller is shut or open
pub finds-judged : (kind : Kind) → FindsJudged kind
finds-judged kind c k = (
  λ s. ap (λ (b : Bool). find_answer b c.sizes c.hash (table_of c) k) s,
  λ s. ap (λ (b : Bool). find_answer b c.sizes c.hash (table_of c) k) s,
)
