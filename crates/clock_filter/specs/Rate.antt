-- How fast the host's counter gains or loses on a source, by the source's own samples alone. All of it is this project's own; the
-- bound, 500 parts per million, is that of a clock's frequency in RFC 5905 (MAXFREQ, appendix A.1.1).
use Rattle.std.specs.Prelude.{ℕ, ◌-◌, ◌^◌, nat_lt, nat_le, Option, None, Some, List, ℤ, pos, neg_ℤ, ◌-ℤ◌, ◌*ℤ◌, if◌then◌else◌}
use Rattle.std.specs.Int.{int_max, int_min}
use Rattle.tick_units.specs.Orders.{best}
use Rattle.tick_units.specs.Units.{floor_div, most_rate}
use Rattle.clock_filter.specs.declared.taken.Taken.{Taken}

-- the sample of the least moment, of equal ones the first
abbrev pub earliest : List Taken → Option Taken
earliest taken = best (λ y x. nat_lt y.at x.at) taken

-- the sample of the greatest moment, of equal ones the last
abbrev pub latest : List Taken → Option Taken
latest taken = best (λ y x. nat_le x.at y.at) taken

-- from one offset to another in this many microseconds, rounded down and held to the bound
abbrev pub held_rate : ℤ → ℤ → ℕ → ℤ
held_rate before after apart = int_max (neg_ℤ (pos most_rate)) (int_min (pos most_rate) (floor_div ((after -ℤ before) *ℤ pos (10 ^ 6)) apart))

-- from one sample to another, where they are at least 30 s apart, else 0
abbrev pub rate_between : Option Taken → Option Taken → ℤ
rate_between (Some a) (Some b) = if nat_lt (b.at - a.at) 30000000 then pos 0 else held_rate a.sample.offset b.sample.offset (b.at - a.at)
rate_between None last = pos 0
rate_between (Some a) None = pos 0

-- the rate of samples in the order of the journal
abbrev pub rate_of : List Taken → ℤ
rate_of taken = rate_between (earliest taken) (latest taken)
