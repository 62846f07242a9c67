-- The rules on the marks of a segment, which the three code plans share. Each is a test of the whole segment that is true
-- where the rule is broken. The bounds in microseconds are this project's own.
use Rattle.std.specs.Prelude.{ℕ, Bool, not, ◌==◌, IsTrue, IsFalse, ◌≡◌, List, length}
use Rattle.frame_rules.specs.Rules.{starts_of, are_spaced, are_spaced_to, has_odd_symbol}
use Rattle.tick_units.specs.declared.marks.Mark.{Mark}
use Rattle.tick_units.specs.declared.marks.Symbol.{Symbol}

-- two neighbouring marks do not start 900000 to 1100000 microseconds apart
abbrev pub breaks_spacing : List Mark → Bool
breaks_spacing marks = not (are_spaced (starts_of marks))

-- or the last mark and the mark that closes the segment do not
abbrev pub breaks_spacing_to : List Mark → ℕ → Bool
breaks_spacing_to marks close = not (are_spaced_to marks close)

-- a width is in no class
abbrev pub breaks_width : List Mark → Bool
breaks_width marks = has_odd_symbol marks

-- there are not 60 marks
abbrev pub breaks_length : List Mark → Bool
breaks_length marks = not (length marks == 60)

-- marks that may stand for a spelling: their spacing and each width are valid, and they are as many as its symbols
pub record MayStandFor (is_spaced : Bool) (marks : List Mark) (symbols : List Symbol) : Type 0 where
  pub spacing : IsTrue is_spaced
  pub width : IsFalse (breaks_width marks)
  pub count : length marks ≡ length symbols
