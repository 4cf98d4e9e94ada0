-- A notice's text and its length.
use Rattle.std.specs.Prelude.{ℕ, List, length}
use Rattle.shared.specs.Notice.{Kind, Step, notice_text}

-- shut, since the text of a number unfolds to all of its digits
unfoldable pub notice_length : Kind → ℕ → List Step → ℕ
notice_length kind n steps = length (notice_text kind n steps)

unfoldable pub notice_bytes : Kind → ℕ → List Step → List ℕ
notice_bytes kind n steps = notice_text kind n steps
