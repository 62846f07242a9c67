-- What a DCF77 segment says, by the places and weights of PTB's description of the code. It is German civil time of the
-- minute that begins at the mark after the segment.
use Rattle.std.specs.Prelude.{ℕ, Bool, ◌&&◌, List, [], ◌∷◌, if◌then◌else◌}
use Rattle.frame_rules.specs.Fields.{is_one, is_set, value}
use Rattle.tick_units.specs.declared.marks.Mark.{Mark}
use Rattle.tick_units.specs.declared.verdicts.Coded.{Coded}
use Rattle.civil_minute.specs.Dates.{midnight_from}
use Rattle.civil_minute.specs.Months.{begins_month}
use Rattle.civil_frame.specs.Seconds.{minute_start}
use Rattle.civil_frame.specs.declared.civil_time.CivilTime.{CivilTime}

-- Z1: summer time, which is two hours ahead of UTC where standard time is one
abbrev pub is_summer : List Mark → Bool
is_summer marks = is_set is_one marks 17

-- Z2: standard time
abbrev pub is_standard : List Mark → Bool
is_standard marks = is_set is_one marks 18

-- A2: a leap second is announced
abbrev pub announces_leap : List Mark → Bool
announces_leap marks = is_set is_one marks 19

-- how far the clock is ahead of UTC, in hours
abbrev pub hours_ahead : Bool → ℕ
hours_ahead summer = if summer then 2 else 1

-- the date and the time; the weekday is Monday 1 to Sunday 7, and 0 is invalid
unfoldable pub said : List Mark → CivilTime
said marks = record {
  time = record {
    minute = record { ones = value is_one marks 21 (1 ∷ 2 ∷ 4 ∷ 8 ∷ []); tens = value is_one marks 25 (10 ∷ 20 ∷ 40 ∷ []) };
    hour = record { ones = value is_one marks 29 (1 ∷ 2 ∷ 4 ∷ 8 ∷ []); tens = value is_one marks 33 (10 ∷ 20 ∷ []) };
  };
  day = record { ones = value is_one marks 36 (1 ∷ 2 ∷ 4 ∷ 8 ∷ []); tens = value is_one marks 40 (10 ∷ 20 ∷ []) };
  weekday = value is_one marks 42 (1 ∷ 2 ∷ 4 ∷ []);
  no_weekday = 0;
  month = record { ones = value is_one marks 45 (1 ∷ 2 ∷ 4 ∷ 8 ∷ []); tens = value is_one marks 49 (10 ∷ []) };
  year = record { ones = value is_one marks 50 (1 ∷ 2 ∷ 4 ∷ 8 ∷ []); tens = value is_one marks 54 (10 ∷ 20 ∷ 40 ∷ 80 ∷ []) };
  hours_ahead = hours_ahead (is_summer marks);
}

-- an announced leap second ends at the next UTC midnight, if that begins a month; 0 stands for none
abbrev pub leap_end : List Mark → ℕ
leap_end marks = if announces_leap marks && begins_month (midnight_from (minute_start (said marks))) then midnight_from (minute_start (said marks)) else 0

unfoldable pub coded : List Mark → Coded
coded marks = record { minute = minute_start (said marks); leap_at = leap_end marks; summer = is_summer marks }
