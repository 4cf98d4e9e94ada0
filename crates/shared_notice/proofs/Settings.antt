-- A bucket's settings, as a loop shows them.
use Rattle.std.proofs.Common.{◌≡◌, ℕ, suc, ◌+◌, List, ◌∷◌, Ok, Err, fold, Result, sym, ap, ◌∙◌, add-one}
use Rattle.shared.specs.declared.refusal.Fault.{Fault}
use Rattle.shared.specs.Forms.{Form, and_then, lead, series, times_at}
use Rattle.shared.specs.Notice.{Setting, gap}
use Rattle.shared_text.specs.Events.{Event, setting_at, settings_from}
use Rattle.shared_notice.specs.Walks.{mapped, walked}
use Rattle.shared_notice.proofs.Walks.{then_at, mapped-cons, times_more, times-stops, times-done}

-- what was read of a setting, by its numbers
pub numbers-ok : {S : Type 0} (numbers : S → List ℕ) (r : Result (S × ℕ) Fault) (q : Result (List ℕ × ℕ) Fault) (s : S) (to : ℕ) → mapped numbers r ≡ q → r ≡ Ok (s, to) → q ≡ Ok (numbers s, to)
numbers-ok numbers r q s to e w = sym e ∙ ap (mapped numbers) w

pub numbers-err : {S : Type 0} (numbers : S → List ℕ) (r : Result (S × ℕ) Fault) (q : Result (List ℕ × ℕ) Fault) (d : Fault) → mapped numbers r ≡ q → r ≡ Err d → q ≡ Err d
numbers-err numbers r q d e w = sym e ∙ ap (mapped numbers) w

module _ {V : Type 0} (after : V → Event → V) (form : Form Setting) (text : List ℕ) (v : V) (at : ℕ) where
  pub series-first : (w : V) (x : Setting) (to : ℕ) → form.reads text at ≡ Ok (x, to) → w ≡ after v (setting_at 0 x) → walked after (settings_from 0) v ((series 3 form).reads text at) ≡ walked after (settings_from 1) w (times_at 3 (lead gap form) text to)
  series-first w x to e m =
      ap (walked after (settings_from 0) v) (then_at (form.reads text at) (Ok (x, to)) (λ x. and_then (times_at 3 (lead gap form) text x.1) (λ y. Ok (x.0 ∷ y.0, y.1))) e)
      ∙ mapped-cons (λ vs. fold after v (settings_from 0 vs)) (λ vs. fold after w (settings_from 1 vs)) x (λ ys. ap (λ u. fold after u (settings_from 1 ys)) (sym m)) (times_at 3 (lead gap form) text to)

  pub settings-more : (w : V) (x : Setting) (i k j to : ℕ) → k ≡ suc j → (lead gap form).reads text at ≡ Ok (x, to) → w ≡ after v (setting_at i x) → walked after (settings_from i) v (times_at k (lead gap form) text at) ≡ walked after (settings_from (i + 1)) w (times_at j (lead gap form) text to)
  settings-more w x i k j to n e m =
      times_more (lead gap form) text (λ vs. fold after v (settings_from i vs)) at k (λ vs. fold after w (settings_from (i + 1) vs)) j to x n e
      (λ ys. ap (λ u. fold after u (settings_from (suc i) ys)) (sym m) ∙ ap (λ p. fold after w (settings_from p ys)) (sym (add-one i)))

  pub settings-stop : (i k j : ℕ) (d : Fault) → k ≡ suc j → (lead gap form).reads text at ≡ Err d → walked after (settings_from i) v (times_at k (lead gap form) text at) ≡ Err d
  settings-stop i k j d n e = times-stops (lead gap form) text (λ vs. fold after v (settings_from i vs)) at k j d n e

  pub settings-done : (i k : ℕ) → k ≡ 0 → walked after (settings_from i) v (times_at k (lead gap form) text at) ≡ Ok (v, at)
  settings-done i k n = times-done (lead gap form) text (λ vs. fold after v (settings_from i vs)) at k n
