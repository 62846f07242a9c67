-- Scaffolding: what private functions of `drill` say.
use Rattle.std.specs.Prelude.{◌≡◌, ℕ, ◌+◌, ◌≤◌, ◌==◌, nat_lt, Option, None, Some, List, [], ◌∷◌, ◌++◌, map, if◌then◌else◌}
use Rattle.std.specs.List.{flat_map}
use Rattle.std.specs.Option.{option_to_list}
use Rattle.memory_links.specs.Memory.{sure_state}
use Rattle.outside_traits.specs.States.{SinkState}
use Rattle.memory_links.specs.declared.sure_source.SureSource.{SureSource}
use Rattle.journal_entry.specs.declared.entry.Entry.{Entry}
use Rattle.journal_entry.specs.declared.entry.What.{What}
use Rattle.journal_entry.specs.declared.entry.What.TheVariants.{Heard, Sample, Declined, Notice}
use Rattle.page_cell.specs.Claims.{of_feed}
use Rattle.drill_day.specs.Day.{IsDay, day_logs, source_of}
use Rattle.station_values.specs.Station.{one_of_each, settings_of}
use Rattle.station_gear.specs.declared.gear.Gear.{Gear}
use Rattle.system_fold.specs.Page.{page_of}
use Rattle.tick_units.specs.declared.marks.Plan.{Plan}
use Rattle.tick_units.specs.declared.verdicts.Kind.{Kind}
use Rattle.station_report.specs.Crewing.{HasEach, causes_left}
use Rattle.verdict_journal.specs.Journals.{State}
use Rattle.station_report.specs.Drilling.{day_run, feed_line, is_differing, is_lone, is_refused, is_verdict, times}
use Rattle.command_ends.specs.Endings.{status_of, status_line}
use Rattle.station_report.specs.Headline.{HasDueEntries, IsReported, due_in_all, full_cause}
use Rattle.command_ends.specs.Text.{page_text}
use Rattle.command_ends.specs.Writing.{Answers}
use Rattle.station_report.specs.declared.drill_text.Counts.{Counts}
use Rattle.command_ends.specs.declared.ending.Ending.{Ending}
use Rattle.command_ends.specs.declared.ending.status.Status.{Status}
use Rattle.station_report.specs.declared.done.Done.{Done}

-- ---- counts

-- no count is greater than this
pub record CountsUpTo (most : ℕ) (counts : Counts) : Type 0 where
  pub verdict : counts.verdict ≤ most
  pub lone : counts.lone ≤ most
  pub differs : counts.differs ≤ most
  pub refused : counts.refused ≤ most

-- an answer of this kind was counted
pub record CountsOne (kind : Kind) (counts counts_now : Counts) : Type 0 where
  pub verdict : counts_now.verdict ≡ counts.verdict + (if is_verdict kind then 1 else 0)
  pub lone : counts_now.lone ≡ counts.lone + (if is_lone kind then 1 else 0)
  pub differs : counts_now.differs ≡ counts.differs + (if is_differing kind then 1 else 0)
  pub refused : counts_now.refused ≡ counts.refused + (if is_refused kind then 1 else 0)

-- the answer that an entry of this feed is
abbrev pub answer_of : What → Option Kind
answer_of (Heard kind) = Some kind
answer_of (Sample sample) = None
answer_of (Declined code) = None
answer_of (Notice leap_at) = None

abbrev pub answer_in : ℕ → Entry → Option Kind
answer_in feed e = if e.feed == feed then answer_of e.what else None

abbrev pub answer_found : ℕ → Option Entry → Option Kind
answer_found feed None = None
answer_found feed (Some e) = answer_in feed e

-- an answer was counted, if there is one
abbrev pub CountsFound : Option Kind → Counts → Counts → Type 0
CountsFound None counts counts_now = counts_now ≡ counts
CountsFound (Some kind) counts counts_now = CountsOne kind counts counts_now

-- these entries were counted
pub record Counted (entries : List Entry) (counts : Counts) : Type 0 where
  pub verdict : counts.verdict ≡ times is_verdict entries
  pub lone : counts.lone ≡ times is_lone entries
  pub differs : counts.differs ≡ times is_differing entries
  pub refused : counts.refused ≡ times is_refused entries

-- the line of a feed of a journal
abbrev pub line_of_feed : ℕ → State → List ℕ
line_of_feed feed journal = feed_line feed (of_feed feed journal.entries)

abbrev pub feed_lines : List Entry → List ℕ
feed_lines journal = flat_map (λ feed. feed_line feed (of_feed feed journal)) (0 ∷ 1 ∷ 2 ∷ [])

-- ---- what was done

-- a gear has the logs of a day, and nothing else
pub record HasDayGear {T : Type 0} (seed : ℕ) (gear : Gear SureSource T) : Type 0 where
  pub logs : map sure_state gear.logs.items ≡ map source_of (day_logs seed)
  pub no_leap : gear.leap ≡ None
  pub no_server : gear.servers.items ≡ []
  pub no_link : gear.links.items ≡ []
  pub days : (feed : ℕ) (plan : Plan) → IsDay feed plan seed

-- the workers of the radios have read the logs of a day
pub record HasDrilled (seed limit : ℕ) (done : Done) : Type 0 where
  pub settings_are : done.journal.settings ≡ settings_of one_of_each
  pub entries : HasDueEntries one_of_each limit (day_run seed done.journal.entries)
  pub causes_are : causes_left limit done ≡ option_to_list (full_cause limit (nat_lt limit (due_in_all one_of_each (day_run seed done.journal.entries))))
  pub each : HasEach one_of_each done
  pub days : (feed : ℕ) (plan : Plan) → IsDay feed plan seed

-- what they left is reported
pub record FinishesDrill (limit : ℕ) (done : Done) (out out_now : SinkState) (result : Status) : Type 0 where
  pub due : Ending
  pub cause : IsReported (causes_left limit done) due
  pub written : Answers (status_of due) result out out_now ((feed_lines done.journal.entries ++ page_text (page_of done.journal.settings done.journal.entries)) ++ status_line due)
