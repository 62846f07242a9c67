-- A code plan as one value: all that tells one plan from another. PTB (DCF77), NPL (MSF) and NIST (SP 432, WWVB) publish what
-- their symbols, fields and rules are; the borders of widths are this project's own. The crate of each plan has its value.
use Rattle.std.specs.Prelude.{ℕ, Bool, Option, List}
use Rattle.tick_units.specs.declared.marks.Mark.{Mark}
use Rattle.tick_units.specs.declared.marks.Reduction.{Reduction}
use Rattle.tick_units.specs.declared.marks.Symbol.{Symbol}
use Rattle.tick_units.specs.declared.verdicts.Coded.{Coded}
use Rattle.frame_rules.specs.declared.rules.Rule.{Rule}

pub record Code : Type 0 where
  -- what a width in microseconds says
  pub symbol : ℕ → Symbol
  -- a second may have two reductions, and which two neighbours are its parts
  pub has_parts : Bool
  pub are_parts : Reduction → Reduction → Bool
  -- a mark begins a minute, by the mark just before it
  pub begins_minute : Option Mark → Mark → Bool
  -- a segment has the mark of a leap second more than other minutes
  pub has_leap_second : List Mark → Bool
  -- the rules by number, at the marks of a segment and the start of the mark that closes it; and the least that they break
  pub rules : List Mark → ℕ → List Rule
  pub first : List Mark → ℕ → Option ℕ
  -- what a segment that breaks none of them says
  pub coded : List Mark → Coded
