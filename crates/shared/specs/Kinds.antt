-- The meanings of the kinds' calls.
use Rattle.std.specs.Prelude.{ℕ, ◌+◌, ◌*◌, Bool, cond, List, [], ◌∷◌, Ok, Err, Result}
use Rattle.shared.specs.declared.refusal.SettingFault.{SettingFault}
use Rattle.shared.specs.Answers.{Answer, accepted, refused_with}

-- a family's meaning: seed and bytes to a number
abbrev pub Hash : Type 0
Hash = ℕ → List ℕ → ℕ

-- what reading a setting answered: its numbers, or the fault 4
abbrev pub setting_read : {S : Type 0} → (S → List ℕ) → Result S SettingFault → Answer
setting_read numbers (Ok s) = accepted (numbers s)
setting_read numbers (Err e) = refused_with 4

-- what it has to answer, where `lawful` says whether the list is a setting's
abbrev pub setting_asked : Bool → List ℕ → Answer
setting_asked lawful values = cond lawful (accepted values) (refused_with 4)

-- the seeds 256 + 4·turn to 259 + 4·turn, in order
abbrev pub four_hashes : Hash → ℕ → List ℕ → List ℕ
four_hashes hash turn bytes =
    hash (256 + 4 * turn) bytes ∷ hash (257 + 4 * turn) bytes ∷ hash (258 + 4 * turn) bytes ∷ hash (259 + 4 * turn) bytes ∷ []
