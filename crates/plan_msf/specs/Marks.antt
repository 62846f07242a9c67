-- What an MSF second mark says, and what begins a minute. NPL publishes the code: 100 ms where both bits are 0, 200 ms where bit A
-- is 1, 300 ms where both are, two of 100 ms where bit B is, and 500 ms in the first second of a minute. The borders of the
-- classes, and how far apart two parts start, are this project's own, in microseconds with both ends included.
use Rattle.std.specs.Prelude.{ℕ, ◌+◌, Bool, ◌&&◌, Option, if◌then◌else◌}
use Rattle.tick_units.specs.Marks.{is_between, is_long}
use Rattle.tick_units.specs.declared.marks.Mark.{Mark}
use Rattle.tick_units.specs.declared.marks.Reduction.{Reduction}
use Rattle.tick_units.specs.declared.marks.Symbol.{Symbol}
use Rattle.tick_units.specs.declared.marks.Symbol.TheVariants.{Zero, One, Both, Long, Odd}

-- the reduction of a second in which neither bit is 1, and each part of one in which only bit B is 1
abbrev pub is_short : ℕ → Bool
is_short width = is_between 40000 149999 width

abbrev pub symbol_of : ℕ → Symbol
symbol_of width = if is_short width then Zero else if is_between 150000 249999 width then One
    else if is_between 250000 399999 width then Both else if is_between 400000 600000 width then Long else Odd

-- two short reductions, one after the other, are the parts of one second
abbrev pub are_parts : Reduction → Reduction → Bool
are_parts r next = is_short r.width && is_short next.width && is_between (r.at + 150000) (r.at + 250000) next.at

-- a mark begins a minute, whatever mark is before it
abbrev pub begins_minute : Option Mark → Mark → Bool
begins_minute before mark = is_long mark.symbol
