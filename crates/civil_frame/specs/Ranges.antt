-- The ranges of the numbers of a civil date and time, by the calendar and the 24-hour clock of ISO 8601. Each rule is a test
-- that is true where the rule is broken.
use Rattle.std.specs.Prelude.{Bool, ◌||◌, ◌==◌, nat_lt}
use Rattle.frame_rules.specs.Rules.{is_out_of}
use Rattle.frame_rules.specs.Numbers.{both_digits}
use Rattle.frame_rules.specs.declared.numbers.Number.{Number}
use Rattle.civil_frame.specs.declared.civil_time.CivilTime.{CivilTime}
use Rattle.civil_frame.specs.declared.civil_time.TimeOfDay.{TimeOfDay}

-- the ones digit is above 9, or the minute is above 59
abbrev pub breaks_minute_range : TimeOfDay → Bool
breaks_minute_range time = is_out_of 0 59 time.minute.ones (both_digits time.minute)

-- the ones digit is above 9, or the hour is above 23
abbrev pub breaks_hour_range : TimeOfDay → Bool
breaks_hour_range time = is_out_of 0 23 time.hour.ones (both_digits time.hour)

-- the ones digit is above 9, or the day is not 1 to 31
abbrev pub breaks_day_range : CivilTime → Bool
breaks_day_range civil = is_out_of 1 31 civil.day.ones (both_digits civil.day)

-- the weekday is the number that is invalid in its plan: 0 in DCF77, 7 in MSF
abbrev pub breaks_weekday_range : CivilTime → Bool
breaks_weekday_range civil = civil.weekday == civil.no_weekday

-- the ones digit is above 9, or the month is not 1 to 12
abbrev pub breaks_month_range : CivilTime → Bool
breaks_month_range civil = is_out_of 1 12 civil.month.ones (both_digits civil.month)

-- a digit is above 9, the tens counting tenfold
abbrev pub breaks_year_range : Number → Bool
breaks_year_range year = nat_lt 9 year.ones || nat_lt 90 year.tens
