-- How a code plan is sent, as one value: all that a made log needs of it. PTB (DCF77), NPL (MSF) and NIST (SP 432, WWVB) publish how
-- a minute is spelt and how wide each mark is. What a made log has before and after its minutes, and which minutes are damaged,
-- is this project's own. The crate of each plan has its value.
use Rattle.std.specs.Prelude.{ℕ, Bool, List, set, if◌then◌else◌}
use Rattle.tick_units.specs.declared.marks.Symbol.{Symbol}
use Rattle.tick_units.specs.declared.marks.Symbol.TheVariants.{Odd}
use Rattle.tick_units.specs.declared.verdicts.Coded.{Coded}

pub record Sending : Type 0 where
  -- the symbols of the frame that says a minute
  pub spelt : Coded → List Symbol
  -- the width in microseconds that says a symbol, of each part where there are two; one in no class stands for a symbol that the
  -- plan does not have
  pub width : Symbol → ℕ
  -- what stands before the first minute of a log, so that its beginning can be found; and the index of the first of these seconds,
  -- where that of the minute is 2
  pub opening : List Symbol
  pub opening_index : ℕ
  -- what stands after the last minute, and closes it
  pub closing : List Symbol
  -- what is added to a seed, so that at one seed each plan has its own jitter
  pub number : ℕ

-- a width in microseconds that is in no class of any plan
abbrev pub odd_width : ℕ
odd_width = 30000

-- in a damaged minute the width of place 30 is in no class
abbrev pub damaged_if : Bool → List Symbol → List Symbol
damaged_if damaged symbols = if damaged then set symbols 30 Odd else symbols
