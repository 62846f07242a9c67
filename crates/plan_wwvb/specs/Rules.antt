-- The rules of WWVB. Each tests the whole segment, and the start of the mark that closes it; it is true where the rule is broken.
-- What it requires of the code is NIST's (Special Publication 432); the numbers and the bounds are this project's.
use Rattle.std.specs.Prelude.{ℕ, ◌+◌, Bool, true, false, not, ◌&&◌, ◌||◌, nat_lt, Option, List, [], ◌∷◌, length}
use Rattle.std.specs.List.{list_any, range_with_len}
use Rattle.frame_rules.specs.Fields.{is_one, is_set, has_pattern}
use Rattle.tick_units.specs.Marks.{is_long}
use Rattle.frame_rules.specs.Rules.{is_out_of}
use Rattle.tick_units.specs.declared.marks.Mark.{Mark}
use Rattle.civil_minute.specs.Dates.{year_length}
use Rattle.civil_minute.specs.Months.{begins_month}
use Rattle.frame_rules.specs.First.{first_broken}
use Rattle.frame_rules.specs.MarkRules.{breaks_spacing_to, breaks_width, breaks_length}
use Rattle.frame_rules.specs.Numbers.{both_digits}
use Rattle.frame_rules.specs.declared.rules.Rule.{Rule}
use Rattle.civil_frame.specs.Ranges.{breaks_minute_range, breaks_hour_range, breaks_year_range}
use Rattle.plan_wwvb.specs.Fields.{marker_places, is_marker_place, zero_places, announces_leap, said, day_of_year, sent_start}
use Rattle.plan_wwvb.specs.declared.fields.OrdinalTime.{OrdinalTime}

-- a marker place is not Long
abbrev pub lacks_marker : List Mark → Bool
lacks_marker marks = list_any (λ place. not (is_set is_long marks place)) marker_places

-- another place is Long
abbrev pub has_stray_marker : List Mark → Bool
has_stray_marker marks = list_any (λ place. is_set is_long marks place && not (is_marker_place place)) (range_with_len 0 (length marks))

abbrev pub breaks_markers : List Mark → Bool
breaks_markers marks = lacks_marker marks || has_stray_marker marks

-- a place that is always 0 is 1
abbrev pub breaks_reserved : List Mark → Bool
breaks_reserved marks = list_any (is_set is_one marks) zero_places

-- the sign of DUT1 is neither plus nor minus
abbrev pub breaks_dut_sign : List Mark → Bool
breaks_dut_sign marks = not (has_pattern is_one marks 36 (true ∷ false ∷ true ∷ [])) && not (has_pattern is_one marks 36 (false ∷ true ∷ false ∷ []))

-- the tens or the ones digit is above 9, or the year has no such day
abbrev pub breaks_day_of_year : OrdinalTime → Bool
breaks_day_of_year ordinal = nat_lt 90 ordinal.day.tens || is_out_of 1 (year_length (2000 + both_digits ordinal.year)) ordinal.day.ones (day_of_year ordinal)

-- a minute of a day of a year is said; the rule below counts as unbroken where none is
unfoldable pub names_minute : OrdinalTime → Bool
names_minute ordinal = not (breaks_minute_range ordinal.time || breaks_hour_range ordinal.time || breaks_year_range ordinal.year || breaks_day_of_year ordinal)

-- a leap second is announced in the last minute of a month, which would have a mark more
abbrev pub breaks_leap_minute : List Mark → Bool
breaks_leap_minute marks = names_minute (said marks) && (announces_leap marks && begins_month (sent_start (said marks) + 60))

-- the rules by number; no rule has the number 57
abbrev pub rules : List Mark → ℕ → List Rule
rules marks close =
    record { number = 1; broken = breaks_spacing_to marks close }
    ∷ record { number = 2; broken = breaks_width marks }
    ∷ record { number = 3; broken = breaks_length marks }
    ∷ record { number = 50; broken = breaks_markers marks }
    ∷ record { number = 51; broken = breaks_reserved marks }
    ∷ record { number = 52; broken = breaks_dut_sign marks }
    ∷ record { number = 53; broken = breaks_minute_range (said marks).time }
    ∷ record { number = 54; broken = breaks_hour_range (said marks).time }
    ∷ record { number = 55; broken = breaks_year_range (said marks).year }
    ∷ record { number = 56; broken = breaks_day_of_year (said marks) }
    ∷ record { number = 58; broken = breaks_leap_minute marks }
    ∷ []

-- the least number of a rule that the segment breaks
unfoldable pub first : List Mark → ℕ → Option ℕ
first marks close = first_broken (rules marks close)
