-- What it says that a minute of a civil date is said.
use Rattle.std.proofs.Common.{◌≡◌, ◌<◌, Bool, true, false, not, ◌||◌, refl, arith}
use Rattle.frame_rules.specs.Numbers.{both_digits}
use Rattle.frame_rules.proofs.Meanings.{both_true, true_from_not, is_out_of-false}
use Rattle.civil_frame.specs.Ranges.{breaks_minute_range, breaks_hour_range, breaks_day_range, breaks_weekday_range, breaks_month_range, breaks_year_range}
use Rattle.civil_frame.specs.CivilDates.{is_in_range, has_date, names_minute, breaks_date}
use Rattle.civil_frame.specs.declared.civil_time.CivilTime.{CivilTime}

none_of_six : (a b c d e f : Bool) → not (a || b || c || d || e || f) ≡ true → (a ≡ false) × (b ≡ false)
none_of_six false false c d e f h = (refl, refl)
none_of_six true b c d e f h = absurd (cc)
none_of_six false true c d e f h = absurd (cc)

-- the time of day is one
pub time_of_day : (civil : CivilTime) → names_minute civil ≡ true → (both_digits civil.time.hour < 24) × (both_digits civil.time.minute < 60)
unfolding names_minute is_in_range
time_of_day civil e =
    let numbers = none_of_six (breaks_minute_range civil.time) (breaks_hour_range civil.time) (breaks_day_range civil) (breaks_weekday_range civil) (breaks_month_range civil) (breaks_year_range civil.year) (both_true (is_in_range civil) (has_date civil) e).0 in
    let minute = is_out_of-false 0 59 civil.time.minute.ones (both_digits civil.time.minute) numbers.0 in
    let hour = is_out_of-false 0 23 civil.time.hour.ones (both_digits civil.time.hour) numbers.1 in
    (omega (arith, hour), omega (arith, minute))

-- no broken rule on its numbers and its date says that it is a minute of a civil date
pub names_minute-kept : (civil : CivilTime) → breaks_minute_range civil.time ≡ false → breaks_hour_range civil.time ≡ false → breaks_day_range civil ≡ false → breaks_weekday_range civil ≡ false → breaks_month_range civil ≡ false → breaks_year_range civil.year ≡ false → breaks_date civil ≡ false → names_minute civil ≡ true
unfolding names_minute
names_minute-kept civil minute hour day weekday month year date =
    let ranges : is_in_range civil ≡ true = unfold is_in_range in rw (minute, hour, day, weekday, month, year) refl in
    let has : has_date civil ≡ true = true_from_not (has_date civil) (rw ranges at date) in
    rw (ranges, has) refl
