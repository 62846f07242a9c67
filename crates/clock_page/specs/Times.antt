-- What a page says of a moment of the host's counter: the time, whether to trust it, and whether a leap second is near. The leap
-- indicator is that of RFC 5905, section 7.3.
use Rattle.std.specs.Prelude.{ℕ, ◌-◌, ◌^◌, ◌==◌, Bool, not, ◌&&◌, nat_lt, ℤ, pos, ◌+ℤ◌, ◌*ℤ◌, int_lt, int_le, if◌then◌else◌}
use Rattle.tick_units.specs.Units.{floor_div, local_span, stamp_of}
use Rattle.clock_page.specs.Page.{PageFields}

-- how much the offset has grown since the page was computed, by its rate, rounded down; 0 before that moment
abbrev pub slew : PageFields → ℕ → ℤ
slew p u = floor_div (p.rate *ℤ pos (u - p.anchor)) (10 ^ 6)

-- the span since 1900
abbrev pub span_at : PageFields → ℕ → ℤ
span_at p u = (p.offset +ℤ slew p u) +ℤ pos (local_span u)

-- the time as it stands on the wire
abbrev pub time_at : PageFields → ℕ → ℕ
time_at p u = stamp_of (span_at p u)

-- the second, rounded down
abbrev pub second_at : PageFields → ℕ → ℤ
second_at p u = floor_div (span_at p u) (2 ^ 32)

-- a page is good until a moment of its own
abbrev pub synced_at : PageFields → ℕ → Bool
synced_at p u = p.sync && nat_lt u p.until

-- a second is 1 to 86400 after another
abbrev pub is_ahead : ℤ → ℕ → Bool
is_ahead second leap_at = int_lt second (pos leap_at) && int_le (pos leap_at) (second +ℤ pos 86400)

-- the announced leap second ends 1 to 86400 seconds later; where none is announced, `leap_at` is 0
abbrev pub leap_is_near : PageFields → ℕ → Bool
leap_is_near p u = not (p.leap_at == 0) && is_ahead (second_at p u) p.leap_at

-- the leap indicator: 3 where the page is not synchronised, 1 where the day's last minute has 61 seconds
abbrev pub leap_indicator : PageFields → ℕ → ℕ
leap_indicator p u = if synced_at p u then (if leap_is_near p u then 1 else 0) else 3
