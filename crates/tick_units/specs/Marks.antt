-- Small terms of second marks that several crates use. Widths and moments are in microseconds.
use Rattle.std.specs.Prelude.{ℕ, Bool, true, false, ◌&&◌, nat_le}
use Rattle.tick_units.specs.declared.marks.Symbol.{Symbol}
use Rattle.tick_units.specs.declared.marks.Symbol.TheVariants.{Zero, One, OnlyB, Both, Long, Odd}

-- both ends are included
abbrev pub is_between : ℕ → ℕ → ℕ → Bool
is_between least most n = nat_le least n && nat_le n most

-- the start of a minute in MSF, a marker in WWVB
abbrev pub is_long : Symbol → Bool
is_long Long = true
is_long Zero = false
is_long One = false
is_long OnlyB = false
is_long Both = false
is_long Odd = false
