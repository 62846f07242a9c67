-- What the proof of `civil_time::CivilTime::breaks_weekday` needs.
use Rattle.std.proofs.Common.{◌≡◌, ◌+◌, refl, ap, ◌∙◌}
use Rattle.civil_minute.specs.Dates.{weekday_of, weekday_of_day}
use Rattle.civil_minute.proofs.Bounds.{second_of-day}
use Rattle.frame_rules.specs.Numbers.{both_digits}
use Rattle.frame_rules.proofs.Meanings.{found_is}
use Rattle.civil_frame.specs.CivilDates.{names_minute, weekday_of_date}
use Rattle.civil_frame.specs.Seconds.{local_start}
use Rattle.civil_frame.proofs.NamedMinute.{time_of_day}
use Rattle.civil_frame.proofs.civil_time.CivilTime.breaks_weekday.Goals as goal

pub returns-in-Some : goal.returns-in-Some
unfolding local_start
returns-in-Some c =
    let civil = c.args.self.now in
    let found = found_is (names_minute civil) (local_start civil) c.in-Some.second c.in-Some.ensures.value in
    let time = time_of_day civil found.0 in
    let day = second_of-day (2000 + both_digits civil.year) (both_digits civil.month) (both_digits civil.day) (both_digits civil.time.hour) (both_digits civil.time.minute) time.0 time.1 in
    let weekday : c.from.result ≡ weekday_of_date civil = c.from.ensures ∙ c.weekday.ensures ∙ ap weekday_of found.1 ∙ ap weekday_of_day day in
    rw (found.0, weekday) refl
