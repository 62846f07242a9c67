-- What a drill does: a day of three radios is made up in memory, the workers of a station's radios read its logs side by side, and how
-- often each feed was answered in which way is reported, with the page of the journal. All of it is this project's own.
use Rattle.std.specs.Prelude.{◌≡◌, ℕ, ◌≤◌, nat_lt, Bool, true, false, None, List, [], ◌∷◌, ◌++◌, count_by, map, codes, decimal, if◌then◌else◌}
use Rattle.std.specs.List.{flat_map}
use Rattle.file_reader.specs.declared.log_end.LogEnd.TheVariants as log
use Rattle.journal_entry.specs.Texts.{spaced}
use Rattle.journal_entry.specs.declared.entry.Entry.{Entry}
use Rattle.journal_entry.specs.declared.entry.What.{What}
use Rattle.journal_entry.specs.declared.entry.What.TheVariants.{Heard, Sample, Declined, Notice}
use Rattle.page_cell.specs.Claims.{of_feed}
use Rattle.drill_day.specs.Day.{day_logs, source_of}
use Rattle.station_values.specs.Station.{one_of_each, settings_of}
use Rattle.system_fold.specs.Page.{page_of}
use Rattle.tick_units.specs.declared.verdicts.Kind.{Kind}
use Rattle.tick_units.specs.declared.verdicts.Kind.TheVariants.{Verdict, Lone, Differs, Refused}
use Rattle.command_ends.specs.Effects.{Effect, EndsWith}
use Rattle.command_ends.specs.Endings.{status_of, status_line}
use Rattle.station_report.specs.Headline.{HasDueEntries, LogRun, StationRun, due_in_all, dues}
use Rattle.command_ends.specs.Text.{page_text}
use Rattle.command_ends.specs.declared.ending.Ending.{Ending}
use Rattle.command_ends.specs.declared.ending.Ending.TheVariants.{Full, Whole}

-- ---- what is reported

abbrev pub is_verdict : Kind → Bool
is_verdict (Verdict second leap_at) = true
is_verdict (Lone second) = false
is_verdict (Differs before now apart) = false
is_verdict (Refused rule) = false

abbrev pub is_lone : Kind → Bool
is_lone (Verdict second leap_at) = false
is_lone (Lone second) = true
is_lone (Differs before now apart) = false
is_lone (Refused rule) = false

abbrev pub is_differing : Kind → Bool
is_differing (Verdict second leap_at) = false
is_differing (Lone second) = false
is_differing (Differs before now apart) = true
is_differing (Refused rule) = false

abbrev pub is_refused : Kind → Bool
is_refused (Verdict second leap_at) = false
is_refused (Lone second) = false
is_refused (Differs before now apart) = false
is_refused (Refused rule) = true

-- an entry of a radio says such an answer
abbrev pub was_received : (Kind → Bool) → What → Bool
was_received test (Heard kind) = test kind
was_received test (Sample sample) = false
was_received test (Declined code) = false
was_received test (Notice leap_at) = false

-- how many of these entries do
abbrev pub times : (Kind → Bool) → List Entry → ℕ
times test entries = count_by (λ (e : Entry). was_received test e.what) entries

-- the line of a feed, by its entries
unfoldable pub feed_line : ℕ → List Entry → List ℕ
feed_line feed entries = codes "feed" ++ spaced (decimal feed ∷ codes "verdict" ∷ decimal (times is_verdict entries) ∷ codes "lone" ∷ decimal (times is_lone entries)
    ∷ codes "differs" ∷ decimal (times is_differing entries) ∷ codes "refused" ∷ decimal (times is_refused entries) ∷ []) ++ codes "\n"

-- the lines of the three feeds, and the page of the journal
abbrev pub drill_text : List Entry → List ℕ
drill_text journal = flat_map (λ feed. feed_line feed (of_feed feed journal)) (0 ∷ 1 ∷ 2 ∷ []) ++ page_text (page_of (settings_of one_of_each) journal)

-- ---- what is served

-- a log that was read to its end
abbrev pub whole_run : List ℕ → LogRun
whole_run text = record { opened = source_of text; back = source_of []; bytes = text; end = log.Whole }

-- the logs of the day were
abbrev pub day_run : ℕ → List Entry → StationRun
day_run seed journal = record { radios = map whole_run (day_logs seed); leap = None; servers = []; links = []; journal = journal }

-- the entries of the day, one feed after the other
abbrev pub day_journal : ℕ → List Entry
day_journal seed = flat_map (λ due. due) (dues one_of_each (day_run seed []))

-- Nothing is opened. The journal has what is due for the three logs, as the headline has it of a station's; it is reported, and the status is
-- that of a full journal exactly where more was due than it may have. Where it may have all, what is reported is the same at each run: it is
-- that of the day's entries one feed after the other
pub record Drills (seed limit : ℕ) (effect : Effect) : Type 0 where
  pub unchanged : effect.outside_now ≡ effect.outside
  pub journal : List Entry
  pub entries : HasDueEntries one_of_each limit (day_run seed journal)
  pub due : Ending
  pub cause : due ≡ (if nat_lt limit (due_in_all one_of_each (day_run seed journal)) then Full limit else Whole)
  pub written : EndsWith effect (status_of due) (drill_text journal ++ status_line due)
  pub same : 4320 ≤ limit → EndsWith effect (status_of Whole) (drill_text (day_journal seed) ++ status_line Whole)
