-- The rules of DCF77. Each is a test of the whole segment that is true where the rule is broken. What it requires of the code is
-- PTB's; the numbers and the bounds are this project's.
use Rattle.std.specs.Prelude.{ℕ, Bool, not, ◌&&◌, ◌||◌, ◌==◌, Option, List, [], ◌∷◌, length}
use Rattle.std.specs.Bool.{beq}
use Rattle.frame_rules.specs.Fields.{is_one, is_set, is_odd_over}
use Rattle.tick_units.specs.declared.marks.Mark.{Mark}
use Rattle.civil_minute.specs.Months.{begins_month}
use Rattle.frame_rules.specs.First.{first_broken}
use Rattle.frame_rules.specs.MarkRules.{breaks_spacing, breaks_width}
use Rattle.frame_rules.specs.declared.rules.Rule.{Rule}
use Rattle.civil_frame.specs.CivilDates.{names_minute, breaks_date, breaks_weekday}
use Rattle.civil_frame.specs.Ranges.{breaks_minute_range, breaks_hour_range, breaks_day_range, breaks_weekday_range, breaks_month_range, breaks_year_range}
use Rattle.civil_frame.specs.Seconds.{minute_start}
use Rattle.plan_dcf.specs.Fields.{is_summer, is_standard, announces_leap, said}

-- there are neither 59 nor 60 marks
abbrev pub breaks_length : List Mark → Bool
breaks_length marks = not (length marks == 59) && not (length marks == 60)

-- place 0 is 1
abbrev pub breaks_start_bit : List Mark → Bool
breaks_start_bit marks = is_set is_one marks 0

-- the two bits of the time zone are equal
abbrev pub breaks_zone_bits : List Mark → Bool
breaks_zone_bits marks = beq (is_summer marks) (is_standard marks)

-- place 20 is 0
abbrev pub breaks_time_bit : List Mark → Bool
breaks_time_bit marks = not (is_set is_one marks 20)

abbrev pub breaks_minute_parity : List Mark → Bool
breaks_minute_parity marks = is_odd_over is_one marks 21 28

abbrev pub breaks_hour_parity : List Mark → Bool
breaks_hour_parity marks = is_odd_over is_one marks 29 35

abbrev pub breaks_date_parity : List Mark → Bool
breaks_date_parity marks = is_odd_over is_one marks 36 58

-- a minute that ends with a leap second has a mark more, and no other has
abbrev pub is_leap_minute : List Mark → Bool
is_leap_minute marks = announces_leap marks && begins_month (minute_start (said marks))

-- the 60th mark is there without reason or is missing, or it is 1. Where no minute of a civil date is said, the rule counts as
-- unbroken.
abbrev pub breaks_leap_minute : List Mark → Bool
breaks_leap_minute marks = names_minute (said marks) && (not (beq (length marks == 60) (is_leap_minute marks)) || is_set is_one marks 59)

-- the rules by number
abbrev pub rules : List Mark → List Rule
rules marks =
    record { number = 1; broken = breaks_spacing marks }
    ∷ record { number = 2; broken = breaks_width marks }
    ∷ record { number = 3; broken = breaks_length marks }
    ∷ record { number = 10; broken = breaks_start_bit marks }
    ∷ record { number = 11; broken = breaks_zone_bits marks }
    ∷ record { number = 12; broken = breaks_time_bit marks }
    ∷ record { number = 13; broken = breaks_minute_parity marks }
    ∷ record { number = 14; broken = breaks_hour_parity marks }
    ∷ record { number = 15; broken = breaks_date_parity marks }
    ∷ record { number = 16; broken = breaks_minute_range (said marks).time }
    ∷ record { number = 17; broken = breaks_hour_range (said marks).time }
    ∷ record { number = 18; broken = breaks_day_range (said marks) }
    ∷ record { number = 19; broken = breaks_weekday_range (said marks) }
    ∷ record { number = 20; broken = breaks_month_range (said marks) }
    ∷ record { number = 21; broken = breaks_year_range (said marks).year }
    ∷ record { number = 22; broken = breaks_date (said marks) }
    ∷ record { number = 23; broken = breaks_weekday (said marks) }
    ∷ record { number = 24; broken = breaks_leap_minute marks }
    ∷ []

-- the least number of a rule that the segment breaks
unfoldable pub first : List Mark → Option ℕ
first marks = first_broken (rules marks)
