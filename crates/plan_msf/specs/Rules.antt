-- The rules of MSF. Each tests the whole segment, and the start of the mark that closes it; it is true where the rule is broken.
-- What it requires of the code is NPL's; the numbers and the bounds are this project's.
use Rattle.std.specs.Prelude.{ℕ, ◌+◌, ◌%◌, Bool, true, false, not, ◌==◌, Option, List, [], ◌∷◌}
use Rattle.frame_rules.specs.Fields.{has_a, has_b, bit_at, ones, has_pattern}
use Rattle.tick_units.specs.declared.marks.Mark.{Mark}
use Rattle.frame_rules.specs.First.{first_broken}
use Rattle.frame_rules.specs.MarkRules.{breaks_spacing_to, breaks_width, breaks_length}
use Rattle.frame_rules.specs.declared.rules.Rule.{Rule}
use Rattle.civil_frame.specs.CivilDates.{breaks_date, breaks_weekday}
use Rattle.civil_frame.specs.Ranges.{breaks_minute_range, breaks_hour_range, breaks_day_range, breaks_weekday_range, breaks_month_range, breaks_year_range}
use Rattle.plan_msf.specs.Fields.{said}

-- bits A of places 52 to 59 are not the minute identifier
abbrev pub breaks_identifier : List Mark → Bool
breaks_identifier marks = not (has_pattern has_a marks 52 (false ∷ true ∷ true ∷ true ∷ true ∷ true ∷ true ∷ false ∷ []))

-- of the bits A from the first place to the last and one bit B an even number is 1, where it should be odd
abbrev pub is_even_with : List Mark → ℕ → ℕ → ℕ → Bool
is_even_with marks first last parity = (ones has_a marks first last + bit_at has_b marks parity) % 2 == 0

abbrev pub breaks_year_parity : List Mark → Bool
breaks_year_parity marks = is_even_with marks 17 24 54

abbrev pub breaks_date_parity : List Mark → Bool
breaks_date_parity marks = is_even_with marks 25 35 55

abbrev pub breaks_weekday_parity : List Mark → Bool
breaks_weekday_parity marks = is_even_with marks 36 38 56

abbrev pub breaks_time_parity : List Mark → Bool
breaks_time_parity marks = is_even_with marks 39 51 57

-- the rules by number
abbrev pub rules : List Mark → ℕ → List Rule
rules marks close =
    record { number = 1; broken = breaks_spacing_to marks close }
    ∷ record { number = 2; broken = breaks_width marks }
    ∷ record { number = 3; broken = breaks_length marks }
    ∷ record { number = 30; broken = breaks_identifier marks }
    ∷ record { number = 31; broken = breaks_year_parity marks }
    ∷ record { number = 32; broken = breaks_date_parity marks }
    ∷ record { number = 33; broken = breaks_weekday_parity marks }
    ∷ record { number = 34; broken = breaks_time_parity marks }
    ∷ record { number = 35; broken = breaks_minute_range (said marks).time }
    ∷ record { number = 36; broken = breaks_hour_range (said marks).time }
    ∷ record { number = 37; broken = breaks_day_range (said marks) }
    ∷ record { number = 38; broken = breaks_weekday_range (said marks) }
    ∷ record { number = 39; broken = breaks_month_range (said marks) }
    ∷ record { number = 40; broken = breaks_year_range (said marks).year }
    ∷ record { number = 41; broken = breaks_date (said marks) }
    ∷ record { number = 42; broken = breaks_weekday (said marks) }
    ∷ []

-- the least number of a rule that the segment breaks
unfoldable pub first : List Mark → ℕ → Option ℕ
first marks close = first_broken (rules marks close)
