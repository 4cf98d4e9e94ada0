-- The plan of an enter over a book's memory.
use Rattle.std.proofs.Common.{◌≡◌, ℕ, suc, ◌+◌, ◌<◌, Bool, true, false, cond, eqb, List, [], map, length, get_or, sym, refl, ap, ◌∙◌, subst, ap₂, arith}
use Rattle.shared.specs.declared.sizes.Sizes.{Sizes}
use Rattle.shared.specs.Book.{Held, Book}
use Rattle.shared.specs.Graph.{Edge, joins}
use Rattle.shared.specs.Kinds.{Hash}
use Rattle.shared.specs.Notice.{Setting, Kind}
use Rattle.shared.specs.Table.{Part}
use Rattle.chain_laws.specs.Plans.{turns, outcome_of}
use Rattle.chain_laws.proofs.Ranges.{length-map_up}
use Rattle.book_flips.specs.Words.{Words}
use Rattle.book_flips.proofs.Turns.{length-turns}
use Rattle.book_steps.specs.declared.plan.Placing.{Placing}
use Rattle.book_steps.specs.Plans.{placement_at, placements_of, shown_steps}
use Rattle.book_steps.proofs.Shown.{turns-ranged, steps-shown}
use Rattle.book_turns.specs.Turning.{TurnsAll}
use Rattle.book_notice.specs.Lengths.{notice_length}

one-test : (b : Bool) → eqb (cond b 1 0) 1 ≡ b
one-test true = refl
one-test false = refl

-- the mark of one end of a part's edge, where the places joined to the other are marked
pub joined-test : (e : Part → Edge) (ps : List Part) (k : Part) (a b : ℕ) → a ≡ (e k).0 → b ≡ (e k).1 → (mark : ℕ) → mark ≡ cond (joins (map e ps) a b) 1 0 → eqb mark 1 ≡ joins (map e ps) (e k).0 (e k).1
joined-test e ps k a b is_a is_b mark is = ap (λ (n : ℕ). eqb n 1) is ∙ one-test (joins (map e ps) a b) ∙ ap₂ (λ (x y : ℕ). joins (map e ps) x y) is_a is_b

-- words that were loaded with the rows' bits
module _ (n : ℕ) (row : ℕ → Bool) (words : List ℕ) (long : length words ≡ n) (own : (p : ℕ) → p < length words → get_or words p 0 ≡ cond (row p) 1 0) where
  pub loaded_words : Words n row [] words
  loaded_words p h = own p (omega arith) ∙ omega arith

-- the steps that the words show are those of the outcome
module _ (z : Sizes) (hash : Hash) (blank : Setting) (before : List Part) (b : Book) (plan : List Placing) (h : Held) (words : List ℕ) where
  pub turned-words : (first : List ℕ) (parts : List Part) → before ≡ parts → Words (z.a + z.b) b.row [] first → TurnsAll z hash blank parts (placements_of b.slot plan h) first words
      → Words (z.a + z.b) b.row (turns z hash blank before b.row (placements_of b.slot plan h)) words
  turned-words first parts e own all = subst (λ (l : List Part). Words (z.a + z.b) b.row (turns z hash blank l b.row (placements_of b.slot plan h)) words) (sym e) (all b.row own)

  pub shown-outcome : Words (z.a + z.b) b.row (turns z hash blank before b.row (placements_of b.slot plan h)) words
      → shown_steps z hash blank b.slot plan h words ≡ (outcome_of z hash blank before b (placements_of b.slot plan h)).1
  shown-outcome own =
      let ps = placements_of b.slot plan h in
      steps-shown z hash blank b.slot plan h words b.row (turns z hash blank before b.row ps) own (turns-ranged z hash blank before ps b.row)
      (length-turns z hash blank before ps b.row ∙ length-map_up (placement_at b.slot plan h) 0 (length plan))

  pub length-outcome : (kind : Kind) (len : ℕ) → len ≡ notice_length kind (b.number + 1) (shown_steps z hash blank b.slot plan h words)
      → Words (z.a + z.b) b.row (turns z hash blank before b.row (placements_of b.slot plan h)) words
      → len ≡ notice_length kind (suc b.number) (outcome_of z hash blank before b (placements_of b.slot plan h)).1
  length-outcome kind len e own =
      let s : b.number + 1 ≡ suc b.number = omega arith in
      e ∙ ap₂ (notice_length kind) s (shown-outcome own)
