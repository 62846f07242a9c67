-- What a WWVB segment says, by the places and weights of NIST Special Publication 432. It is UTC of the minute in which the
-- segment is sent, so the mark after the segment begins the minute after that one.
use Rattle.std.specs.Prelude.{ℕ, ◌+◌, ◌-◌, ◌*◌, Bool, false, ◌==◌, List, [], ◌∷◌, if◌then◌else◌}
use Rattle.std.specs.List.{list_any}
use Rattle.frame_rules.specs.Fields.{is_one, is_set, value}
use Rattle.tick_units.specs.declared.marks.Mark.{Mark}
use Rattle.tick_units.specs.declared.verdicts.Coded.{Coded}
use Rattle.civil_minute.specs.Dates.{second_of}
use Rattle.civil_minute.specs.Months.{month_after}
use Rattle.frame_rules.specs.Numbers.{both_digits}
use Rattle.plan_wwvb.specs.declared.fields.OrdinalTime.{OrdinalTime}

-- the places that are markers
abbrev pub marker_places : List ℕ
marker_places = 0 ∷ 9 ∷ 19 ∷ 29 ∷ 39 ∷ 49 ∷ 59 ∷ []

abbrev pub is_marker_place : ℕ → Bool
is_marker_place place = list_any (λ marker. marker == place) marker_places

-- the places that are always 0
abbrev pub zero_places : List ℕ
zero_places = 4 ∷ 10 ∷ 11 ∷ 14 ∷ 20 ∷ 21 ∷ 24 ∷ 34 ∷ 35 ∷ 44 ∷ 54 ∷ []

-- a leap second is announced for the end of the month
abbrev pub announces_leap : List Mark → Bool
announces_leap marks = is_set is_one marks 56

-- the year, the day of the year and the time
unfoldable pub said : List Mark → OrdinalTime
said marks = record {
  time = record {
    minute = record { tens = value is_one marks 1 (40 ∷ 20 ∷ 10 ∷ []); ones = value is_one marks 5 (8 ∷ 4 ∷ 2 ∷ 1 ∷ []) };
    hour = record { tens = value is_one marks 12 (20 ∷ 10 ∷ []); ones = value is_one marks 15 (8 ∷ 4 ∷ 2 ∷ 1 ∷ []) };
  };
  hundreds = value is_one marks 22 (200 ∷ 100 ∷ []);
  day = record { tens = value is_one marks 25 (80 ∷ 40 ∷ 20 ∷ 10 ∷ []); ones = value is_one marks 30 (8 ∷ 4 ∷ 2 ∷ 1 ∷ []) };
  year = record { tens = value is_one marks 45 (80 ∷ 40 ∷ 20 ∷ 10 ∷ []); ones = value is_one marks 50 (8 ∷ 4 ∷ 2 ∷ 1 ∷ []) };
}

-- the day of the year, from 1
abbrev pub day_of_year : OrdinalTime → ℕ
day_of_year ordinal = ordinal.hundreds + both_digits ordinal.day

-- the absolute second at which the said minute begins, in which the segment is sent
unfoldable pub sent_start : OrdinalTime → ℕ
sent_start ordinal = second_of (2000 + both_digits ordinal.year) 1 1 (both_digits ordinal.time.hour) (both_digits ordinal.time.minute) + 86400 * (day_of_year ordinal - 1)

-- an announced leap second ends where the next month begins; 0 stands for none
abbrev pub leap_end : List Mark → ℕ
leap_end marks = if announces_leap marks then month_after (sent_start (said marks)) else 0

-- the minute that begins at the mark after the segment
unfoldable pub coded : List Mark → Coded
coded marks = record { minute = sent_start (said marks) + 60; leap_at = leap_end marks; summer = false }
