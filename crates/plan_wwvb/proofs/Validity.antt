-- A segment whose first broken rule is none breaks none, and the other way round.
use Rattle.std.proofs.Common.{◌≡◌, ℕ, true, false, None, List, refl}
use Rattle.tick_units.specs.declared.marks.Mark.{Mark}
use Rattle.frame_rules.proofs.FirstLaws.{AreUnbroken-from_none, first_broken-none}
use Rattle.frame_rules.specs.MarkRules.{breaks_spacing_to, breaks_width, breaks_length}
use Rattle.civil_frame.specs.Ranges.{breaks_minute_range, breaks_hour_range, breaks_year_range}
use Rattle.plan_wwvb.specs.Fields.{said}
use Rattle.plan_wwvb.specs.declared.fields.OrdinalTime.{OrdinalTime}
use Rattle.plan_wwvb.specs.Rules.{breaks_markers, breaks_reserved, breaks_dut_sign, breaks_day_of_year, breaks_leap_minute, names_minute, rules, first}

pub record IsValid (marks : List Mark) (close : ℕ) : Type 0 where
  pub spacing : breaks_spacing_to marks close ≡ false
  pub width : breaks_width marks ≡ false
  pub length : breaks_length marks ≡ false
  pub markers : breaks_markers marks ≡ false
  pub reserved : breaks_reserved marks ≡ false
  pub dut_sign : breaks_dut_sign marks ≡ false
  pub minute_range : breaks_minute_range (said marks).time ≡ false
  pub hour_range : breaks_hour_range (said marks).time ≡ false
  pub year_range : breaks_year_range (said marks).year ≡ false
  pub day_of_year : breaks_day_of_year (said marks) ≡ false
  pub leap_minute : breaks_leap_minute marks ≡ false

pub IsValid-from_none : (marks : List Mark) (close : ℕ) → first marks close ≡ None → IsValid marks close
unfolding first
IsValid-from_none marks close e =
    let kept = AreUnbroken-from_none (rules marks close) e in
    record {
      spacing = kept.0;
      width = kept.1.0;
      length = kept.1.1.0;
      markers = kept.1.1.1.0;
      reserved = kept.1.1.1.1.0;
      dut_sign = kept.1.1.1.1.1.0;
      minute_range = kept.1.1.1.1.1.1.0;
      hour_range = kept.1.1.1.1.1.1.1.0;
      year_range = kept.1.1.1.1.1.1.1.1.0;
      day_of_year = kept.1.1.1.1.1.1.1.1.1.0;
      leap_minute = kept.1.1.1.1.1.1.1.1.1.1.0;
    }

pub first-valid : (marks : List Mark) (close : ℕ) → IsValid marks close → first marks close ≡ None
unfolding first
first-valid marks close h = first_broken-none (rules marks close) (h.spacing, (h.width, (h.length, (h.markers, (h.reserved, (h.dut_sign, (h.minute_range, (h.hour_range, (h.year_range, (h.day_of_year, (h.leap_minute, tt)))))))))))

-- no broken rule on its numbers says that it is a minute of a day of a year
pub names_minute-kept : (ordinal : OrdinalTime) → breaks_minute_range ordinal.time ≡ false → breaks_hour_range ordinal.time ≡ false → breaks_year_range ordinal.year ≡ false → breaks_day_of_year ordinal ≡ false → names_minute ordinal ≡ true
unfolding names_minute
names_minute-kept ordinal minute hour year day = rw (minute, hour, year, day) refl

-- such a segment says a minute of a day of a year
pub names_minute-valid : (marks : List Mark) (close : ℕ) → IsValid marks close → names_minute (said marks) ≡ true
names_minute-valid marks close h = names_minute-kept (said marks) h.minute_range h.hour_range h.year_range h.day_of_year
