-- The code's tokens as the rules have them.
use Rattle.std.specs.Prelude.{ℕ}
use Rattle.shared.specs.Forms.{cause_of}
use Rattle.shared.specs.Tokens as rule
use Rattle.shared.specs.declared.refusal.Fault.{Fault}
use Rattle.shared_text.specs.declared.token.Mark.{Mark}
use Rattle.shared_text.specs.declared.token.Mark.TheVariants as m
use Rattle.shared_text.specs.declared.token.Token.{Token}
use Rattle.shared_text.specs.declared.token.Token.TheVariants as t

abbrev pub mark_of : Mark → rule.Mark
mark_of m.Open = rule.Open
mark_of m.Close = rule.Close
mark_of m.Space = rule.Space
mark_of m.Line = rule.Line

abbrev pub seen : Token → rule.Tok
seen (t.Mark p k) = rule.mark (mark_of k)
seen (t.Word p w) = rule.word w.now
seen (t.Stray p) = rule.stray
seen (t.End p) = rule.end

-- the index of its first byte
abbrev pub place_of : Token → ℕ
place_of (t.Mark p k) = p
place_of (t.Word p w) = p
place_of (t.Stray p) = p
place_of (t.End p) = p

-- the fault of a token that is not allowed where it stands
abbrev pub fault_of : rule.Tok → ℕ → Fault
fault_of t at = record { place = at; cause = cause_of t }
