-- An enter goes by its plan.
use Rattle.std.proofs.Common.{◌≡◌, ℕ, suc, ◌<◌, ◌≤◌, Bool, true, false, ltb, List, [], ◌∷◌, map, length, Ok, Err, Result, sym, refl, ap, ◌∙◌, ap₂}
use Rattle.std.proofs.Math.Option.{Option, none, some}
use Rattle.std.proofs.lemmas.Bool.{lt-ltb, le-ltb}
use Rattle.shared.specs.declared.sizes.Sizes.{Sizes}
use Rattle.shared.specs.Book.{Book, Outcome, refused, done, raised, unless, given, told, called, enter, where_is, chain, placed, book_after}
use Rattle.shared.specs.Graph.{joins}
use Rattle.shared.specs.Kinds.{Hash}
use Rattle.shared.specs.Lists.{is_found, ◌then◌}
use Rattle.shared.specs.Notice.{Setting, Kind, Step, notice_text}
use Rattle.shared.specs.Table.{Part, edge, overflows}
use Rattle.chain_laws.specs.Plans.{Placement, planned, played, outcome_of, spills}
use Rattle.chain_laws.proofs.Chains.{chain-found}
use Rattle.chain_laws.proofs.Plans.{stands, spilled}
use Rattle.book_notice.specs.Lengths.{notice_length}
use Rattle.book_enter.specs.Enters.{seeds_found, along_chain, placements_for, parts_of}

played-number : (z : Sizes) (hash : Hash) (blank : Setting) (before : List Part) (ps : List Placement) (b : Book) → (played z hash blank before b ps).number ≡ b.number
played-number z hash blank before [] b = refl
played-number z hash blank before (p ∷ ps) b = played-number z hash blank before ps (book_after z hash blank before b p.into p.spot p.held p.seed)

module _ (z : Sizes) (hash : Hash) (kind : Kind) (b : Book) (room : ℕ) (k : Part) (v : Setting) where
  -- what is left of the checks once there are steps, and once there is a chain to look for
  abbrev pub over : Book × List Step → Outcome
  over r = unless (overflows z b.seed r.1) 10 λ _. told kind room r.0 r.1

  abbrev chained : Outcome
  chained = given (chain z hash b.slot k) 7 λ c. given (placed z hash kind.blank (parts_of z b) b c.0 (k, v) c.1) 9 λ r. over r

  abbrev pub joined_before : Bool
  joined_before = joins (map (edge z hash) (parts_of z b)) (edge z hash k).0 (edge z hash k).1

  pub enter_joined : is_found (where_is z b.slot k) ≡ false → joined_before ≡ true → refused 8 ≡ called z hash kind b room (enter k v)
  enter_joined e f = sym (ap₂ (λ (t u : Bool). unless t 5 λ _. unless u 8 λ _. chained) e f)

  -- the steps of the plan
  abbrev pub by_plan : Result (List Placement) ℕ → Outcome
  by_plan (Ok ps) = over (outcome_of z hash kind.blank (parts_of z b) b ps)
  by_plan (Err n) = refused n

  chained-by : chained ≡ by_plan (placements_for z hash b.slot (k, v))
  chained-by = go (chain z hash b.slot k) (λ c e. stands z hash kind.blank (parts_of z b) b c.0 (k, v) c.1 (chain-found z hash b.slot k c e).moves)
    where
      outcome : List Placement → Book × List Step
      outcome ps = outcome_of z hash kind.blank (parts_of z b) b ps

      steps : (y : Option (List Placement)) → given (y then (λ ps. some (outcome ps))) 9 (λ r. over r) ≡ by_plan (seeds_found y)
      steps none = refl
      steps (some ps) = refl

      go : (x : Option (ℕ × List ℕ)) → ((c : ℕ × List ℕ) → x ≡ some c → placed z hash kind.blank (parts_of z b) b c.0 (k, v) c.1 ≡ (planned z hash b.slot c.0 (k, v) c.1 then (λ ps. some (outcome ps))))
          → given x 7 (λ c. given (placed z hash kind.blank (parts_of z b) b c.0 (k, v) c.1) 9 λ r. over r) ≡ by_plan (along_chain z hash b.slot (k, v) x)
      go none e = refl
      go (some c) e = ap (λ (y : Option (Book × List Step)). given y 9 λ r. over r) (e c refl) ∙ steps (planned z hash b.slot c.0 (k, v) c.1)

  pub enter_planned : is_found (where_is z b.slot k) ≡ false → joined_before ≡ false → by_plan (placements_for z hash b.slot (k, v)) ≡ called z hash kind b room (enter k v)
  enter_planned e f = sym (ap₂ (λ (t u : Bool). unless t 5 λ _. unless u 8 λ _. chained) e f ∙ chained-by)

  -- the last two checks
  module _ (ps : List Placement) where
    abbrev pub outcome : Book × List Step
    outcome = outcome_of z hash kind.blank (parts_of z b) b ps

    measured : length (notice_text kind (suc outcome.0.number) outcome.1) ≡ notice_length kind (suc b.number) outcome.1
    unfolding notice_length
    measured = ap (λ (n : ℕ). length (notice_text kind (suc n) outcome.1)) (played-number z hash kind.blank (parts_of z b) ps b)

    pub by_overflow : spills z b.seed ps ≡ true → refused 10 ≡ by_plan (Ok ps)
    by_overflow e = sym (ap (λ (t : Bool). unless t 10 λ _. told kind room outcome.0 outcome.1) (spilled z hash kind.blank (parts_of z b) b ps ∙ e))

    told_at : (t : Bool) → spills z b.seed ps ≡ false → ltb room (notice_length kind (suc b.number) outcome.1) ≡ t → by_plan (Ok ps) ≡ (unless t 11 λ _. done (raised outcome.0) outcome.1)
    told_at t e f =
        ap (λ (u : Bool). unless u 10 λ _. told kind room outcome.0 outcome.1) (spilled z hash kind.blank (parts_of z b) b ps ∙ e)
        ∙ ap (λ (u : Bool). unless u 11 λ _. done (raised outcome.0) outcome.1) (ap (ltb room) measured ∙ f)

    pub by_room : spills z b.seed ps ≡ false → room < notice_length kind (suc b.number) outcome.1 → refused 11 ≡ by_plan (Ok ps)
    by_room e h = sym (told_at true e (lt-ltb room (notice_length kind (suc b.number) outcome.1) h))

    pub by_steps : spills z b.seed ps ≡ false → notice_length kind (suc b.number) outcome.1 ≤ room → done (raised outcome.0) outcome.1 ≡ by_plan (Ok ps)
    by_steps e h = sym (told_at false e (le-ltb room (notice_length kind (suc b.number) outcome.1) h))
