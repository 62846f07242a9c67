-- A segment whose first broken rule is none breaks none, and the other way round.
use Rattle.std.proofs.Common.{◌≡◌, true, false, None, List}
use Rattle.tick_units.specs.declared.marks.Mark.{Mark}
use Rattle.frame_rules.proofs.FirstLaws.{AreUnbroken-from_none, first_broken-none}
use Rattle.frame_rules.specs.MarkRules.{breaks_spacing, breaks_width}
use Rattle.civil_frame.specs.CivilDates.{names_minute, breaks_date, breaks_weekday}
use Rattle.civil_frame.specs.Ranges.{breaks_minute_range, breaks_hour_range, breaks_day_range, breaks_weekday_range, breaks_month_range, breaks_year_range}
use Rattle.civil_frame.proofs.NamedMinute.{names_minute-kept}
use Rattle.plan_dcf.specs.Fields.{said}
use Rattle.plan_dcf.specs.Rules.{breaks_length, breaks_start_bit, breaks_zone_bits, breaks_time_bit, breaks_minute_parity, breaks_hour_parity, breaks_date_parity, breaks_leap_minute, rules, first}

pub record IsValid (marks : List Mark) : Type 0 where
  pub spacing : breaks_spacing marks ≡ false
  pub width : breaks_width marks ≡ false
  pub length : breaks_length marks ≡ false
  pub start_bit : breaks_start_bit marks ≡ false
  pub zone_bits : breaks_zone_bits marks ≡ false
  pub time_bit : breaks_time_bit marks ≡ false
  pub minute_parity : breaks_minute_parity marks ≡ false
  pub hour_parity : breaks_hour_parity marks ≡ false
  pub date_parity : breaks_date_parity marks ≡ false
  pub minute_range : breaks_minute_range (said marks).time ≡ false
  pub hour_range : breaks_hour_range (said marks).time ≡ false
  pub day_range : breaks_day_range (said marks) ≡ false
  pub weekday_range : breaks_weekday_range (said marks) ≡ false
  pub month_range : breaks_month_range (said marks) ≡ false
  pub year_range : breaks_year_range (said marks).year ≡ false
  pub date : breaks_date (said marks) ≡ false
  pub weekday : breaks_weekday (said marks) ≡ false
  pub leap_minute : breaks_leap_minute marks ≡ false

pub IsValid-from_none : (marks : List Mark) → first marks ≡ None → IsValid marks
unfolding first
IsValid-from_none marks e =
    let kept = AreUnbroken-from_none (rules marks) e in
    record {
      spacing = kept.0;
      width = kept.1.0;
      length = kept.1.1.0;
      start_bit = kept.1.1.1.0;
      zone_bits = kept.1.1.1.1.0;
      time_bit = kept.1.1.1.1.1.0;
      minute_parity = kept.1.1.1.1.1.1.0;
      hour_parity = kept.1.1.1.1.1.1.1.0;
      date_parity = kept.1.1.1.1.1.1.1.1.0;
      minute_range = kept.1.1.1.1.1.1.1.1.1.0;
      hour_range = kept.1.1.1.1.1.1.1.1.1.1.0;
      day_range = kept.1.1.1.1.1.1.1.1.1.1.1.0;
      weekday_range = kept.1.1.1.1.1.1.1.1.1.1.1.1.0;
      month_range = kept.1.1.1.1.1.1.1.1.1.1.1.1.1.0;
      year_range = kept.1.1.1.1.1.1.1.1.1.1.1.1.1.1.0;
      date = kept.1.1.1.1.1.1.1.1.1.1.1.1.1.1.1.0;
      weekday = kept.1.1.1.1.1.1.1.1.1.1.1.1.1.1.1.1.0;
      leap_minute = kept.1.1.1.1.1.1.1.1.1.1.1.1.1.1.1.1.1.0;
    }

pub first-valid : (marks : List Mark) → IsValid marks → first marks ≡ None
unfolding first
first-valid marks h = first_broken-none (rules marks) (h.spacing, (h.width, (h.length, (h.start_bit, (h.zone_bits, (h.time_bit, (h.minute_parity, (h.hour_parity, (h.date_parity, (h.minute_range, (h.hour_range, (h.day_range, (h.weekday_range, (h.month_range, (h.year_range, (h.date, (h.weekday, (h.leap_minute, tt))))))))))))))))))

-- such a segment says a minute of a civil date
pub names_minute-valid : (marks : List Mark) → IsValid marks → names_minute (said marks) ≡ true
names_minute-valid marks h = names_minute-kept (said marks) h.minute_range h.hour_range h.day_range h.weekday_range h.month_range h.year_range h.date
