-- What a WWVB second mark says, and what begins a minute. NIST publishes the code (SP 432): 200 ms for 0, 500 ms for 1, and 800 ms
-- for a marker. The borders of the classes, in microseconds with both ends included, are this project's own.
use Rattle.std.specs.Prelude.{ℕ, Bool, false, ◌&&◌, Option, None, Some, if◌then◌else◌}
use Rattle.tick_units.specs.Marks.{is_between, is_long}
use Rattle.tick_units.specs.declared.marks.Mark.{Mark}
use Rattle.tick_units.specs.declared.marks.Symbol.{Symbol}
use Rattle.tick_units.specs.declared.marks.Symbol.TheVariants.{Zero, One, Long, Odd}

-- the class of a width
abbrev pub symbol_of : ℕ → Symbol
symbol_of width = if is_between 100000 349999 width then Zero else if is_between 350000 649999 width then One
    else if is_between 650000 900000 width then Long else Odd

-- a mark begins a minute, by the mark just before it: a marker directly after the marker that ends a minute
abbrev pub begins_minute : Option Mark → Mark → Bool
begins_minute None mark = false
begins_minute (Some before) mark = is_long before.symbol && is_long mark.symbol
