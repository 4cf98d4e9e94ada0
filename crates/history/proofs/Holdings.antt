-- A book's slots hold what its ledger says.
use Rattle.std.proofs.Common.{◌≡◌, ℕ, Bool, true, false, ◌⊎◌, List, [], ◌∷◌, map, sym, refl, ap, ◌∙◌, subst, ap₂, inl, inr, arith}
use mathlib.Core.Option.{Option, none, some}
use Rattle.std.proofs.lemmas.Bool.{both_ways}
use Rattle.shared.specs.declared.sizes.Sizes.{Sizes}
use Rattle.shared.specs.Answers.{accepted}
use Rattle.shared.specs.Book.{Held, Call, standing, lookup, told_setting}
use Rattle.shared.specs.Kinds.{Hash}
use Rattle.shared.specs.Ledger.{accepted_calls, stands, last_writing}
use Rattle.shared.specs.Lists.{Among, same_list, up_from}
use Rattle.shared.specs.Notice.{Setting, notice_text, notice_form}
use Rattle.shared.specs.Table.{Part, Table}
use Rattle.graph_laws.proofs.Same.{same_sound, same_own}
use Rattle.history.specs.History.{Story, story}
use Rattle.history.specs.Ledgers.{Holding, HoldingLaw, NoticesLaw}
use Rattle.history.specs.Progress.{notice_of}
use Rattle.chain_laws.proofs.Tools.{never, some_same, among_up, contents-in, contents-from, from-contents}
use Rattle.history.proofs.Calls.{Kept}
use Rattle.history.proofs.Progress.{nth_notice}
use Rattle.history.proofs.Stories.{same, text_of, story-kept}
use Rattle.history.proofs.Tales.{tale, sure, table_after, all_fit}

-- a look-up finds a part that is there, and what it finds is there
lookup-found : (k : Part) (hs : List Held) (v : Setting) → lookup k hs ≡ some v → Among (k, v) hs
lookup-found k [] v e = absurd (never e)
lookup-found k (h ∷ hs) v e = go (lookup-found k hs v) (same_list k h.0) refl e
  where
    go : (lookup k hs ≡ some v → Among (k, v) hs) → (d : Bool) → same_list k h.0 ≡ d → elim d as (λ (c : Bool). Option Setting) [ true ↦ some h.1 | false ↦ lookup k hs ] ≡ some v
        → (◌≡◌ {A = Held} (k, v) h) ⊎ Among (k, v) hs
    go ih true q r = inl (ap₂ (λ (x : Part) (y : Setting). (x, y)) (same_sound k h.0 q) (sym (some_same r)))
    go ih false q r = inr (ih r)

lookup-there : (k : Part) (hs : List Held) (v : Setting) → Among (k, v) hs → (x : Setting) × (lookup k hs ≡ some x)
lookup-there k [] v m = absurd m
lookup-there k (h ∷ hs) v m = go (lookup-there k hs v) (same_list k h.0) refl m
  where
    go : (Among (k, v) hs → (x : Setting) × (lookup k hs ≡ some x)) → (d : Bool) → same_list k h.0 ≡ d → (◌≡◌ {A = Held} (k, v) h) ⊎ Among (k, v) hs
        → (x : Setting) × (elim d as (λ (c : Bool). Option Setting) [ true ↦ some h.1 | false ↦ lookup k hs ] ≡ some x)
    go ih true q n = (h.1, refl)
    go ih false q (inl e) = absurd (both_ways (same_list k h.0) q (subst (λ (x : Part). same_list k x ≡ true) (ap (λ (g : Held). g.0) e) (same_own k)))
    go ih false q (inr n) = ih n

module _ (z : Sizes) (hash : Hash) (w : Story) (t : Table) (kept : Kept z hash w.book t (accepted_calls w.fed)) where
  abbrev cs : List Call
  cs = accepted_calls w.fed

  abbrev hs : List Held
  hs = standing z w.book.slot

  from-slots : (k : Part) (v : Setting) → Among (k, v) hs → (stands cs k ≡ true) × (last_writing cs k ≡ some v)
  from-slots k v m = kept.only k v (from-contents w.book.slot (k, v) (up_from 0 z.buckets) m)

  in_slots : (k : Part) (v : Setting) → stands cs k ≡ true → last_writing cs k ≡ some v → Among (k, v) hs
  in_slots k v s l =
      let o = kept.led k v s l in
      let r = kept.mid.range o.0 o.1 (k, v) o.2 in
      contents-from w.book.slot o.0 (k, v) (up_from 0 z.buckets) (among_up o.0 0 z.buckets (omega arith) (omega arith)) (contents-in w.book.slot o.0 o.1 (k, v) r.1 o.2)

  holding : Holding z w
  holding = record {
    held = λ k v. (from-slots k v, λ s. in_slots k v s.0 s.1);
    told = λ k v s l.
        let x = lookup-there k hs v (in_slots k v s l) in
        let f = from-slots k x.0 (lookup-found k hs x.0 x.1) in
        ap told_setting x.1 ∙ ap accepted (some_same (sym f.1 ∙ l));
    untold = λ k s. ap told_setting (absent k s (lookup k hs) refl);
  }
    where
      absent : (k : Part) → stands cs k ≡ false → (o : Option Setting) → lookup k hs ≡ o → o ≡ none
      absent k s none e = refl
      absent k s (some x) e = absurd (both_ways (stands cs k) s (from-slots k x (lookup-found k hs x e)).0)

pub holding-law : HoldingLaw
holding-law shut z hash low kind qs = holding z hash (story shut z hash kind qs) (table_after z hash kind (tale shut z hash kind qs).notices) (story-kept z hash kind low shut qs)

pub notices_law : NoticesLaw
notices_law shut z hash low kind ok qs lawful n x e =
    let s = same z hash kind shut qs in
    let v = tale shut z hash kind qs in
    let texts : (story shut z hash kind qs).texts ≡ map (text_of z hash kind) v.notices = s.texts in
    let a = nth_notice (text_of z hash kind) v.notices (sure z hash kind low shut qs).numbered n x (subst (λ (l : List (List ℕ)). notice_of l n ≡ some x) texts e) in
    let m = a.0 in
    (m.1, a.2 ∙ ap (λ (i : ℕ). notice_text kind i m.1) a.3, subst (λ (i : ℕ). (notice_form kind).fits (i, m.1) ≡ true) a.3 (all_fit z hash kind low shut ok qs lawful m a.1))
