-- What was asked, told from what was answered.
use Rattle.std.proofs.Common.{◌≡◌, ℕ, ◌<◌, Bool, true, false, cond, List, refl, ap, arith}
use Rattle.shared.specs.Answers.{Answer, accepted, refused_with}

-- what was asked for is lawful where it was made
pub made : (lawful : Bool) (n : ℕ) (x y : List ℕ) → 0 < n → accepted x ≡ cond lawful (accepted y) (refused_with n) → (lawful ≡ true) × (x ≡ y)
made true n x y h e = (refl, ap (λ (a : Answer). a.1) e)
made false n x y h e = let z : 0 ≡ n = ap (λ (a : Answer). a.0) e in absurd (omega arith)
