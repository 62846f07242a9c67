-- The absolute seconds of civil times. A clock that is some hours ahead of UTC shows at a second what a clock of UTC shows that
-- many hours later.
use Rattle.std.specs.Prelude.{◌≡◌, ◌≢◌, ℕ, ◌+◌, ◌-◌, ◌*◌, ◌%◌, ◌<◌, ◌≤◌, Bool}
use Rattle.tick_units.specs.declared.verdicts.Coded.{Coded}
use Rattle.civil_minute.specs.Dates.{second_of}
use Rattle.frame_rules.specs.Numbers.{both_digits}
use Rattle.civil_frame.specs.declared.civil_time.CivilTime.{CivilTime}

-- the second at which a clock of UTC shows what is said
unfoldable pub local_start : CivilTime → ℕ
local_start civil = second_of (2000 + both_digits civil.year) (both_digits civil.month) (both_digits civil.day) (both_digits civil.time.hour) (both_digits civil.time.minute)

-- the absolute second at which the said minute begins
unfoldable pub minute_start : CivilTime → ℕ
minute_start civil = local_start civil - 3600 * civil.hours_ahead

-- the second at which a clock of UTC shows what a clock of a zone shows at the minute. The zone is this many hours ahead, with
-- summer time and without.
abbrev pub local_second : (Bool → ℕ) → Coded → ℕ
local_second hours_ahead c = c.minute + 3600 * hours_ahead c.summer

-- a whole minute, at which a clock shows a second of the years 2000 to 2099
pub record IsInCentury (minute shown : ℕ) : Type 0 where
  pub whole : minute % 60 ≡ 0
  pub from : 3155673600 ≤ shown
  pub below : shown < 6311433600

-- what a valid frame says is a whole minute, at least one second and below another. A leap second that it announces ends no
-- earlier than the minute begins, and no later than 2100 begins.
pub record IsDated (least bound : ℕ) (c : Coded) : Type 0 where
  pub whole : c.minute % 60 ≡ 0
  pub from : least ≤ c.minute
  pub below : c.minute < bound
  pub leap : c.leap_at ≢ 0 → (c.minute ≤ c.leap_at) × (c.leap_at ≤ 6311433600)
