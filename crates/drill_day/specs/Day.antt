-- The day of a drill: a log for each code plan, made up from a seed, and the entries that are due for it. The choice of the day
-- is this project's own.
use Rattle.std.specs.Prelude.{◌≡◌, ◌≤◌, ℕ, None, Some, List, [], ◌∷◌, length}
use Rattle.outside_traits.specs.States.{SourceState}
use Rattle.tick_units.specs.Log.{bad_at_end}
use Rattle.tick_units.specs.declared.marks.Plan.{Plan}
use Rattle.tick_units.specs.declared.marks.Plan.TheVariants.{Dcf, Msf, Wwvb}
use Rattle.journal_entry.specs.declared.entry.Entry.{Entry}
use Rattle.drill_day.specs.Orders.{NamesNoLeap}
use Rattle.radio_receiver.specs.Due.{due_log}
use Rattle.drill_day.specs.Made.{made, text_of}

-- 2026-03-01 00:00 UTC
abbrev pub first_minute : ℕ
first_minute = 3981312000

abbrev pub minutes_of_a_day : ℕ
minutes_of_a_day = 1440

-- the log that is made up for a plan
unfoldable pub day_log : Plan → ℕ → List ℕ
day_log plan seed = text_of (made plan first_minute minutes_of_a_day seed)

-- the entries that are due for it, as those of this feed, whose receiver has no delay
abbrev pub day_due : ℕ → Plan → ℕ → List Entry
day_due feed plan seed = due_log feed plan 0 (day_log plan seed)

-- the logs of the three plans, in their order, and what a source of each reports
abbrev pub day_logs : ℕ → List (List ℕ)
day_logs seed = day_log Dcf seed ∷ day_log Msf seed ∷ day_log Wwvb seed ∷ []

abbrev pub source_of : List ℕ → SourceState
source_of text = record { left = Some text; faults = 0 }

-- A log has no bad line and at most three million bytes. As many entries are due as a day has minutes, and none names a leap second
pub record IsDay (feed : ℕ) (plan : Plan) (seed : ℕ) : Type 0 where
  pub good : bad_at_end (day_log plan seed) ≡ None
  pub short : length (day_log plan seed) ≤ 3000000
  pub count : length (day_due feed plan seed) ≡ minutes_of_a_day
  pub no_leap : NamesNoLeap (day_due feed plan seed)
