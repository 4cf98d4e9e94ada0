-- What every notice that is read is like: at most five steps, four settings in a bucket step, no place twice in a row, and
-- every setting lawful and of its kind's length.
use Rattle.std.proofs.Common.{◌≡◌, ℕ, zero, suc, ◌+◌, ◌-◌, ◌<◌, ◌≤◌, true, false, not, ◌&&◌, eqb, List, [], ◌∷◌, length, Ok, refl, ap, arith}
use Rattle.std.proofs.lemmas.Bool.{and_parts, and_from, or_from, ne_eqb, eq-eqb, false≢true}
use Rattle.shared.specs.Forms.{Form, times_fits, series_fits, ascends}
use Rattle.shared.specs.Limits.{between}
use Rattle.shared.specs.Lists.{memb, apart}
use Rattle.shared.specs.Notice.{Setting, Kind, Step, bucket, single, small, setting_form, step_fits, step_form, read_notice}
use Rattle.shared.proofs.Words.{between-parts}
use Rattle.shared_table.specs.Passes.{shaped}
use Rattle.text_laws.proofs.Faithful.{faithful}

-- as many as a form's count
times-length : {X : Type 0} (s : Form X) (k : ℕ) (xs : List X) → times_fits s k xs ≡ true → length xs ≡ k
times-length s zero [] f = refl
times-length s zero (x ∷ xs) f = absurd (false≢true f)
times-length s (suc k) [] f = absurd (false≢true f)
times-length s (suc k) (x ∷ xs) f = ap suc (times-length s k xs (and_parts (s.fits x) (times_fits s k xs) f).1)

series-length : {X : Type 0} (s : Form X) (more : ℕ) (xs : List X) → series_fits s more xs ≡ true → length xs ≡ suc more
series-length s more [] f = absurd (false≢true f)
series-length s more (x ∷ xs) f = ap suc (times-length s more xs (and_parts (s.fits x) (times_fits s more xs) f).1)

-- ascending places are apart
below_new : (p low high : ℕ) (ps : List ℕ) → p < low → ascends low high ps ≡ true → memb p ps ≡ false
below_new p low high [] h f = refl
below_new p low high (q ∷ ps) h f =
    let parts = and_parts (between low high q) (ascends (q + 1) high ps) f in
    let l = between-parts low high q parts.0 in
    or_from (eqb p q) (memb p ps) (ne_eqb p q (λ e. omega arith)) (below_new p (q + 1) high ps (omega arith) parts.1)

ascends-apart : (low high : ℕ) (ps : List ℕ) → ascends low high ps ≡ true → apart ps ≡ true
ascends-apart low high [] f = refl
ascends-apart low high (p ∷ ps) f =
    let rest = (and_parts (between low high p) (ascends (p + 1) high ps) f).1 in
    and_from (not (memb p ps)) (apart ps) (ap not (below_new p (p + 1) high ps (omega arith) rest)) (ascends-apart (p + 1) high ps rest)

module _ (kind : Kind) where
  -- settings as a text has them
  pub record Proper (v : Setting) : Type 0 where
    pub lawful : kind.lawful v ≡ true
    pub long : length v ≡ suc (kind.count - 1)

  abbrev pub AllProper : List Setting → Type 0
  AllProper [] = Unit {0}
  AllProper (v ∷ vs) = Proper v × AllProper vs

  abbrev pub StepsProper : List Step → Type 0
  StepsProper [] = Unit {0}
  StepsProper (bucket j s vs pa pb ∷ ss) = AllProper vs × StepsProper ss
  StepsProper (single j i v ∷ ss) = Proper v × StepsProper ss

  proper : (v : Setting) → (setting_form kind).fits v ≡ true → Proper v
  proper v f =
      let p = and_parts (series_fits small (kind.count - 1) v) (kind.lawful v) f in
      record { lawful = p.1; long = series-length small (kind.count - 1) v p.0 }

  all_proper : (k : ℕ) (vs : List Setting) → times_fits (setting_form kind) k vs ≡ true → AllProper vs
  all_proper zero [] f = tt
  all_proper zero (v ∷ vs) f = absurd (false≢true f)
  all_proper (suc k) [] f = absurd (false≢true f)
  all_proper (suc k) (v ∷ vs) f =
      let p = and_parts ((setting_form kind).fits v) (times_fits (setting_form kind) k vs) f in (proper v p.0, all_proper k vs p.1)

  four-proper : (vs : List Setting) → series_fits (setting_form kind) 3 vs ≡ true → AllProper vs
  four-proper [] f = absurd (false≢true f)
  four-proper (v ∷ vs) f = let p = and_parts ((setting_form kind).fits v) (times_fits (setting_form kind) 3 vs) f in (proper v p.0, all_proper 3 vs p.1)

  steps-fit : (k : ℕ) (ss : List Step) → times_fits (step_form kind) k ss ≡ true → (shaped ss ≡ true) × StepsProper ss
  steps-fit zero [] f = (refl, tt)
  steps-fit zero (x ∷ xs) f = absurd (false≢true f)
  steps-fit (suc k) [] f = absurd (false≢true f)
  steps-fit (suc k) (bucket j s vs pa pb ∷ ss) f =
      let p = and_parts (step_fits kind (bucket j s vs pa pb)) (times_fits (step_form kind) k ss) f in
      let q = and_parts ((between 0 65535 j && between 0 65535 s) && series_fits (setting_form kind) 3 vs) (ascends 0 65535 pa && ascends 0 65535 pb) p.0 in
      let four = (and_parts (between 0 65535 j && between 0 65535 s) (series_fits (setting_form kind) 3 vs) q.0).1 in
      let rows = and_parts (ascends 0 65535 pa) (ascends 0 65535 pb) q.1 in
      let rest = steps-fit k ss p.1 in (
        and_from (eqb (length vs) 4 && apart pa && apart pb) (shaped ss)
            (and_from (eqb (length vs) 4 && apart pa) (apart pb)
            (and_from (eqb (length vs) 4) (apart pa) (eq-eqb (length vs) 4 (series-length (setting_form kind) 3 vs four)) (ascends-apart 0 65535 pa rows.0))
            (ascends-apart 0 65535 pb rows.1))
            rest.0,
        (four-proper vs four, rest.1),
      )
  steps-fit (suc k) (single j i v ∷ ss) f =
      let p = and_parts (step_fits kind (single j i v)) (times_fits (step_form kind) k ss) f in
      let q = and_parts (between 0 65535 j && between 0 65535 i) ((setting_form kind).fits v) p.0 in
      let rest = steps-fit k ss p.1 in
      (rest.0, (proper v q.1, rest.1))

  pub record Formed (ss : List Step) : Type 0 where
    pub few : length ss ≤ 5
    pub shape : shaped ss ≡ true
    pub settings : StepsProper ss

  pub read_formed : (text : List ℕ) (n : ℕ) (ss : List Step) → read_notice kind text ≡ Ok (n, ss) → Formed ss
  read_formed text n ss e =
      let fits = ((faithful kind).own text n ss e).0 in
      let p = and_parts (between 1 4000000000 n && between 0 5 (length ss)) (times_fits (step_form kind) (length ss) ss) fits in
      let steps = steps-fit (length ss) ss p.1 in
      record {
        few = (between-parts 0 5 (length ss) (and_parts (between 1 4000000000 n) (between 0 5 (length ss)) p.0).1).1;
        shape = steps.0;
        settings = steps.1;
      }
