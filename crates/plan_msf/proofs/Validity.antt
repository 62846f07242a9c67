-- A segment whose first broken rule is none breaks none, and the other way round.
use Rattle.std.proofs.Common.{◌≡◌, ℕ, true, false, None, List}
use Rattle.tick_units.specs.declared.marks.Mark.{Mark}
use Rattle.frame_rules.proofs.FirstLaws.{AreUnbroken-from_none, first_broken-none}
use Rattle.frame_rules.specs.MarkRules.{breaks_spacing_to, breaks_width, breaks_length}
use Rattle.civil_frame.specs.CivilDates.{names_minute, breaks_date, breaks_weekday}
use Rattle.civil_frame.specs.Ranges.{breaks_minute_range, breaks_hour_range, breaks_day_range, breaks_weekday_range, breaks_month_range, breaks_year_range}
use Rattle.civil_frame.proofs.NamedMinute.{names_minute-kept}
use Rattle.plan_msf.specs.Fields.{said}
use Rattle.plan_msf.specs.Rules.{breaks_identifier, breaks_year_parity, breaks_date_parity, breaks_weekday_parity, breaks_time_parity, rules, first}

pub record IsValid (marks : List Mark) (close : ℕ) : Type 0 where
  pub spacing : breaks_spacing_to marks close ≡ false
  pub width : breaks_width marks ≡ false
  pub length : breaks_length marks ≡ false
  pub identifier : breaks_identifier marks ≡ false
  pub year_parity : breaks_year_parity marks ≡ false
  pub date_parity : breaks_date_parity marks ≡ false
  pub weekday_parity : breaks_weekday_parity marks ≡ false
  pub time_parity : breaks_time_parity marks ≡ false
  pub minute_range : breaks_minute_range (said marks).time ≡ false
  pub hour_range : breaks_hour_range (said marks).time ≡ false
  pub day_range : breaks_day_range (said marks) ≡ false
  pub weekday_range : breaks_weekday_range (said marks) ≡ false
  pub month_range : breaks_month_range (said marks) ≡ false
  pub year_range : breaks_year_range (said marks).year ≡ false
  pub date : breaks_date (said marks) ≡ false
  pub weekday : breaks_weekday (said marks) ≡ false

pub IsValid-from_none : (marks : List Mark) (close : ℕ) → first marks close ≡ None → IsValid marks close
unfolding first
IsValid-from_none marks close e =
    let kept = AreUnbroken-from_none (rules marks close) e in
    record {
      spacing = kept.0;
      width = kept.1.0;
      length = kept.1.1.0;
      identifier = kept.1.1.1.0;
      year_parity = kept.1.1.1.1.0;
      date_parity = kept.1.1.1.1.1.0;
      weekday_parity = kept.1.1.1.1.1.1.0;
      time_parity = kept.1.1.1.1.1.1.1.0;
      minute_range = kept.1.1.1.1.1.1.1.1.0;
      hour_range = kept.1.1.1.1.1.1.1.1.1.0;
      day_range = kept.1.1.1.1.1.1.1.1.1.1.0;
      weekday_range = kept.1.1.1.1.1.1.1.1.1.1.1.0;
      month_range = kept.1.1.1.1.1.1.1.1.1.1.1.1.0;
      year_range = kept.1.1.1.1.1.1.1.1.1.1.1.1.1.0;
      date = kept.1.1.1.1.1.1.1.1.1.1.1.1.1.1.0;
      weekday = kept.1.1.1.1.1.1.1.1.1.1.1.1.1.1.1.0;
    }

pub first-valid : (marks : List Mark) (close : ℕ) → IsValid marks close → first marks close ≡ None
unfolding first
first-valid marks close h = first_broken-none (rules marks close) (h.spacing, (h.width, (h.length, (h.identifier, (h.year_parity, (h.date_parity, (h.weekday_parity, (h.time_parity, (h.minute_range, (h.hour_range, (h.day_range, (h.weekday_range, (h.month_range, (h.year_range, (h.date, (h.weekday, tt))))))))))))))))

-- such a segment says a minute of a civil date
pub names_minute-valid : (marks : List Mark) (close : ℕ) → IsValid marks close → names_minute (said marks) ≡ true
names_minute-valid marks close h = names_minute-kept (said marks) h.minute_range h.hour_range h.day_range h.weekday_range h.month_range h.year_range h.date
