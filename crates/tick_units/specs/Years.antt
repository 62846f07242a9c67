-- The supported years, and the absolute seconds in them. Seconds count from 1900-01-01 00:00 UTC without leap seconds, as era 0 of
-- RFC 5905 (section 6) does. Two-digit years are 2000 to 2099 in all three code plans, and a clock is at most two hours ahead of
-- UTC. One day before these years and two days after them are added as room.
use Rattle.std.specs.Prelude.{◌≢◌, ℕ, ◌<◌, ◌≤◌}
use Rattle.tick_units.specs.declared.verdicts.Coded.{Coded}

-- 1999-12-31 00:00 UTC
abbrev pub first_supported : ℕ
first_supported = 3155587200

-- 2100-01-03 00:00 UTC, the first second after the supported years
abbrev pub end_of_supported : ℕ
end_of_supported = 6311606400

abbrev pub IsInYears : ℕ → Type 0
IsInYears second = (first_supported ≤ second) × (second < end_of_supported)

-- a minute, and its leap second where it has one
pub record HasYears (second leap_at : ℕ) : Type 0 where
  pub minute : IsInYears second
  pub leap : leap_at ≢ 0 → IsInYears leap_at

abbrev pub SaysYears : Coded → Type 0
SaysYears coded = HasYears coded.minute coded.leap_at
