-- What an MSF segment says, by the places and weights of NPL's description of the code. It is UK civil time of the minute
-- that begins at the mark after the segment. Each second has two bits, A and B.
use Rattle.std.specs.Prelude.{ℕ, Bool, List, [], ◌∷◌, if◌then◌else◌}
use Rattle.frame_rules.specs.Fields.{has_a, has_b, is_set, value}
use Rattle.tick_units.specs.declared.marks.Mark.{Mark}
use Rattle.tick_units.specs.declared.verdicts.Coded.{Coded}
use Rattle.civil_frame.specs.Seconds.{minute_start}
use Rattle.civil_frame.specs.declared.civil_time.CivilTime.{CivilTime}

-- summer time is in force, an hour ahead of UTC
abbrev pub is_summer : List Mark → Bool
is_summer marks = is_set has_b marks 58

-- how far the clock is ahead of UTC, in hours
abbrev pub hours_ahead : Bool → ℕ
hours_ahead summer = if summer then 1 else 0

-- the date and the time; the weekday is Sunday 0 to Saturday 6, and 7 is invalid
unfoldable pub said : List Mark → CivilTime
said marks = record {
  year = record { tens = value has_a marks 17 (80 ∷ 40 ∷ 20 ∷ 10 ∷ []); ones = value has_a marks 21 (8 ∷ 4 ∷ 2 ∷ 1 ∷ []) };
  month = record { tens = value has_a marks 25 (10 ∷ []); ones = value has_a marks 26 (8 ∷ 4 ∷ 2 ∷ 1 ∷ []) };
  day = record { tens = value has_a marks 30 (20 ∷ 10 ∷ []); ones = value has_a marks 32 (8 ∷ 4 ∷ 2 ∷ 1 ∷ []) };
  weekday = value has_a marks 36 (4 ∷ 2 ∷ 1 ∷ []);
  no_weekday = 7;
  time = record {
    hour = record { tens = value has_a marks 39 (20 ∷ 10 ∷ []); ones = value has_a marks 41 (8 ∷ 4 ∷ 2 ∷ 1 ∷ []) };
    minute = record { tens = value has_a marks 45 (40 ∷ 20 ∷ 10 ∷ []); ones = value has_a marks 48 (8 ∷ 4 ∷ 2 ∷ 1 ∷ []) };
  };
  hours_ahead = hours_ahead (is_summer marks);
}

-- MSF announces no leap second
unfoldable pub coded : List Mark → Coded
coded marks = record { minute = minute_start (said marks); leap_at = 0; summer = is_summer marks }
