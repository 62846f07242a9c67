-- What a DCF77 second mark says, and what begins a minute. PTB publishes the code: 100 ms for 0, 200 ms for 1, and no mark in the
-- last second of a minute. The borders of the classes, in microseconds with both ends included, are this project's own.
use Rattle.std.specs.Prelude.{ℕ, ◌+◌, Bool, false, ◌==◌, Option, None, Some, List, length, if◌then◌else◌}
use Rattle.tick_units.specs.Marks.{is_between}
use Rattle.tick_units.specs.declared.marks.Mark.{Mark}
use Rattle.tick_units.specs.declared.marks.Symbol.{Symbol}
use Rattle.tick_units.specs.declared.marks.Symbol.TheVariants.{Zero, One, Odd}

-- the class of a width
abbrev pub symbol_of : ℕ → Symbol
symbol_of width = if is_between 40000 149999 width then Zero else if is_between 150000 260000 width then One else Odd

-- a mark begins a minute, by the mark just before it: since a second was left out, it comes 1900000 to 2100000 microseconds later
abbrev pub begins_minute : Option Mark → Mark → Bool
begins_minute None mark = false
begins_minute (Some before) mark = is_between (before.at + 1900000) (before.at + 2100000) mark.at

-- the minute that ends with a leap second has a 60th mark (PTB)
abbrev pub has_leap_second : List Mark → Bool
has_leap_second marks = length marks == 60
