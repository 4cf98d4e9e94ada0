-- The laws of a form, all at once: reading and writing are inverse, its tokens can stand in a text, its faults point at the
-- wrong token, and what stands before that token begins a value.
use Rattle.std.proofs.Common.{◌≡◌, ℕ, ◌^◌, ◌<◌, ◌≤◌, Bool, true, false, List, [], ◌∷◌}
use Rattle.shared.specs.Tokens.{Close, Space, Tok, mark, word, numeral}
use Rattle.shared.specs.Forms.{Form, num, lead, trail, pair, times, series, ascending}
use Rattle.text_laws.specs.Texts.{Toks, Inverse, literal}
use Rattle.text_laws.proofs.Inverses.{num-inverse, lead-inverse, trail-inverse, pair-inverse, times-inverse, series-inverse, ascending-inverse}
use Rattle.text_laws.proofs.Lexed.{Stands, Lexes, num-lexes, lead-lexes, trail-lexes, pair-lexes, times-lexes, series-lexes, ascending-lexes}
use Rattle.text_laws.proofs.Points.{Points, num-points, lead-points, trail-points, pair-points, times-points, series-points}
use Rattle.text_laws.proofs.Rows.{row-points}
use Rattle.text_laws.proofs.Begins.{Rest, Roomy, Opens, num-opens, lead-opens, trail-opens, pair-opens, times-opens, series-opens, ascending-opens}

-- J is what the fault of a setting says, R what may stand between a good front and a wrong token, and B gives that there
-- are values; b and c say whether the form stands behind a word and ends with one
pub record Lawful {X : Type 0} (J : List ℕ → ℕ → ℕ → Type 0) (R : Rest) (B : Type 0) (b : Bool) (s : Form X) (c : Bool) : Type 0 where
  pub roomy : Roomy R
  pub inverse : Inverse s
  pub lexes : Lexes b s c
  pub points : Points J s.reads
  pub opens : B → Opens R s

module _ {J : List ℕ → ℕ → ℕ → Type 0} {R : Rest} {B : Type 0} where
  pub num-lawful : (low high : ℕ) → Roomy R → high < 2 ^ 64 → low ≤ high → Lawful J R B false (num low high) true
  num-lawful low high r h l = record { roomy = r; inverse = num-inverse low high h; lexes = num-lexes low high h; points = num-points J low high; opens = λ _. num-opens R r low high l }

  pub lead-lawful : {X : Type 0} {b c d : Bool} (ts : List Tok) {s : Form X} → literal ts ≡ true → Stands b c ts → Lawful J R B c s d → Lawful J R B b (lead ts s) d
  lead-lawful ts {s} l t p =
      record {
        roomy = p.roomy;
        inverse = lead-inverse ts s l p.inverse;
        lexes = lead-lexes ts t p.lexes;
        points = lead-points J ts s l p.points;
        opens = λ o. lead-opens R p.roomy ts s (p.opens o);
      }

  pub trail-lawful : {X : Type 0} {b c d : Bool} {s : Form X} (ts : List Tok) → literal ts ≡ true → Stands c d ts → Lawful J R B b s c → Lawful J R B b (trail s ts) d
  trail-lawful {s = s} ts l t p =
      record {
        roomy = p.roomy;
        inverse = trail-inverse s ts l p.inverse;
        lexes = trail-lexes ts p.lexes t;
        points = trail-points J s ts p.inverse l p.points;
        opens = λ o. trail-opens R p.roomy s ts p.inverse (p.opens o);
      }

  pub pair-lawful : {X Y : Type 0} {b c d : Bool} {s : Form X} {t : Form Y} → Lawful J R B b s c → Lawful J R B c t d → Lawful J R B b (pair s t) d
  pair-lawful {s = s} {t = t} p q =
      record {
        roomy = p.roomy;
        inverse = pair-inverse s t p.inverse q.inverse;
        lexes = pair-lexes p.lexes q.lexes;
        points = pair-points J s t p.inverse p.points q.points;
        opens = λ o. pair-opens R p.roomy s t p.inverse (p.opens o) (q.opens o);
      }

  pub times-lawful : {X : Type 0} {b : Bool} (k : ℕ) {s : Form X} → Lawful J R B b s b → Lawful J R B b (times k s) b
  times-lawful k {s} p =
      record {
        roomy = p.roomy;
        inverse = times-inverse s p.inverse k;
        lexes = times-lexes p.lexes k;
        points = times-points J k s p.inverse p.points;
        opens = λ o. times-opens R p.roomy k s p.inverse (p.opens o);
      }

  pub series-lawful : {X : Type 0} {c : Bool} (more : ℕ) {s : Form X} → Lawful J R B false s c → Lawful J R B false (series more s) c
  series-lawful more {s} p =
      record {
        roomy = p.roomy;
        inverse = series-inverse more s p.inverse;
        lexes = series-lexes more p.lexes;
        points = series-points J more s p.inverse p.points;
        opens = λ o. series-opens R p.roomy more s p.inverse (p.opens o);
      }

  pub ascending-lawful : {b : Bool} (high : ℕ) → Roomy R → ((text : List ℕ) (q p : ℕ) (ts : List Tok) → Toks text q p (word (numeral high) ∷ mark Space ∷ []) → R text q p (word (numeral high) ∷ mark Close ∷ ts)) → high < 2 ^ 64 → Lawful J R B b (ascending high) false
  ascending-lawful high r last h =
      record { roomy = r; inverse = ascending-inverse high h; lexes = ascending-lexes high h; points = row-points high h J; opens = λ _. ascending-opens R r high h last }
