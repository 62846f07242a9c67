-- The rule on the leap minute, of a segment that says a minute.
use Rattle.std.proofs.Common.{◌≡◌, ℕ, Bool, true, not, ◌&&◌, ◌||◌, ◌==◌, List, length, refl}
use Rattle.std.specs.Bool.{beq}
use Rattle.frame_rules.specs.Fields.{is_one, is_set}
use Rattle.tick_units.specs.declared.marks.Mark.{Mark}
use Rattle.civil_minute.specs.Months.{begins_month}
use Rattle.civil_frame.specs.CivilDates.{names_minute}
use Rattle.civil_frame.specs.Seconds.{minute_start}
use Rattle.plan_dcf.specs.Fields.{announces_leap, said}
use Rattle.plan_dcf.specs.Rules.{breaks_leap_minute}

-- the minute begins at this second
pub breaks_leap_minute-named : (marks : List Mark) (second : ℕ) (wrong : Bool) → names_minute (said marks) ≡ true → second ≡ minute_start (said marks) → wrong ≡ not (beq (length marks == 60) (announces_leap marks && begins_month second)) → breaks_leap_minute marks ≡ (wrong || is_set is_one marks 59)
breaks_leap_minute-named marks second wrong names found length_is = rw (names, length_is, found) refl
