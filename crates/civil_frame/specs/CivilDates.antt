-- The date that a frame says, and the rules on it. The calendar is the Gregorian one of ISO 8601, and the years are those of the
-- century that begins in 2000.
use Rattle.std.specs.Prelude.{ℕ, ◌+◌, ◌%◌, Bool, not, ◌&&◌, ◌||◌, ◌==◌}
use Rattle.civil_minute.specs.Dates.{is_date, day_number, weekday_of_day}
use Rattle.frame_rules.specs.Numbers.{both_digits}
use Rattle.civil_frame.specs.Ranges.{breaks_minute_range, breaks_hour_range, breaks_day_range, breaks_weekday_range, breaks_month_range, breaks_year_range}
use Rattle.civil_frame.specs.declared.civil_time.CivilTime.{CivilTime}

-- each of the numbers of time and date is in its range; the rules below count as unbroken where one is not
unfoldable pub is_in_range : CivilTime → Bool
is_in_range civil = not (breaks_minute_range civil.time || breaks_hour_range civil.time || breaks_day_range civil || breaks_weekday_range civil || breaks_month_range civil || breaks_year_range civil.year)

abbrev pub has_date : CivilTime → Bool
has_date civil = is_date (2000 + both_digits civil.year) (both_digits civil.month) (both_digits civil.day)

-- the year has no such month and day
abbrev pub breaks_date : CivilTime → Bool
breaks_date civil = is_in_range civil && not (has_date civil)

-- a minute of a civil date is said; the rules below count as unbroken where none is
unfoldable pub names_minute : CivilTime → Bool
names_minute civil = is_in_range civil && has_date civil

-- the weekday of the date, Monday 1 to Sunday 7
abbrev pub weekday_of_date : CivilTime → ℕ
weekday_of_date civil = weekday_of_day (day_number (2000 + both_digits civil.year) (both_digits civil.month) (both_digits civil.day))

-- the weekday is not that of the date, where Sunday is 7 or 0
abbrev pub breaks_weekday : CivilTime → Bool
breaks_weekday civil = names_minute civil && not (civil.weekday % 7 == weekday_of_date civil % 7)
