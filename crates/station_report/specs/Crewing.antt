-- Scaffolding: what private functions of `serve` say of a station that is served.
use Rattle.std.specs.Prelude.{◌≡◌, ℕ, ◌+◌, ◌||◌, Bool, Option, None, Some, option_map, Result, MatchResult, List, [], ◌++◌, All, length, map}
use Rattle.std.specs.List.{list_any}
use Rattle.std.specs.Option.{option_to_list}
use Rattle.outside_traits.specs.States.{SinkState}
use Rattle.outside_traits.specs.Openings.{OutsideState, Visit, Wanted, MakesOpenings}
use Rattle.outside_traits.specs.ManyOut.{GivesAllBack}
use Rattle.feed_workers.specs.declared.work.LogWork.{LogWork}
use Rattle.feed_workers.specs.declared.work.PollWork.{PollWork}
use Rattle.responder.specs.declared.served.End.{End}
use Rattle.responder.specs.declared.served.Served.{Served}
use Rattle.station_values.specs.Station.{StationFields, leap_feed, settings_of}
use Rattle.feed_workers.specs.Served.{IsJournalOf, LeapServed, LinksServed, RadiosServed, ServersServed, Sights, column_of, service_of}
use Rattle.feed_workers.specs.declared.crew.LinkWork.{LinkWork}
use Rattle.station_gear.specs.Gears.{numbers_of, states_of, wanted_by}
use Rattle.station_gear.specs.declared.gear.Gear.{Gear}
use Rattle.station_gear.specs.declared.gear.Missing.{Missing}
use Rattle.station_gear.specs.declared.gear.Missing.TheVariants as missing
use Rattle.system_fold.specs.Page.{page_of}
use Rattle.verdict_journal.specs.Journals.{State}
use Rattle.command_ends.specs.Endings.{status_of, status_line}
use Rattle.station_report.specs.Headline.{AnswersLinks, HasDueEntries, IsFirstOfLeast, IsReported, PollsServers, ReadsLogs, StationRun, Tally, causes, each_cause, each_text, full_cause, line_of_link, link_cause, link_line, log_cause, poll_cause}
use Rattle.line_files.specs.Texts.{journal_text}
use Rattle.station_report.specs.Serving.{LacksOne, back_in, opened_in}
use Rattle.command_ends.specs.Text.{page_text}
use Rattle.command_ends.specs.Writing.{Answers}
use Rattle.command_ends.specs.declared.ending.Ending.{Ending}
use Rattle.command_ends.specs.declared.ending.Ending.TheVariants.{NoMemory}
use Rattle.command_ends.specs.declared.ending.status.Status.{Status}
use Rattle.command_ends.specs.declared.ending.subject.Subject.{Subject}
use Rattle.command_ends.specs.declared.ending.subject.Subject.TheVariants.{Feed, Link}
use Rattle.station_report.specs.declared.done.Done.{Done}
use Rattle.feed_workers.specs.declared.crew.Orders.{Orders}
use Rattle.station_report.specs.declared.text.Totals.{Totals}

-- ---- what is reported

-- the one that is reported of these, or none
abbrev pub HasLeast : List Ending → Option Ending → Type 0
HasLeast all None = all ≡ []
HasLeast all (Some due) = IsFirstOfLeast all due

abbrev pub end_by : End → Option Served → End
end_by first None = first
end_by first (Some second) = second.end

-- how a link ended in the last phase that it had
abbrev pub end_of : LinkWork → End
end_of work = end_by work.first.end work.second

abbrev pub any_full : List LogWork → List PollWork → Option LogWork → Bool
any_full radios servers leap = list_any (λ (w : LogWork). w.full) radios || list_any (λ (w : PollWork). w.full) servers || list_any (λ (w : LogWork). w.full) (option_to_list leap)

-- all that went wrong, by what the workers left
abbrev pub causes_left : ℕ → Done → List Ending
causes_left limit done = each_cause (λ feed (w : LogWork). log_cause feed w.end) 0 done.work.radios.items
    ++ (each_cause (λ feed (w : PollWork). poll_cause feed w.end) (length done.work.radios.items) done.work.servers.items
    ++ (each_cause (λ feed (w : LogWork). log_cause feed w.end) (length done.work.radios.items + length done.work.servers.items) (option_to_list done.work.leap)
    ++ (each_cause (λ number work. link_cause number (end_of work)) 0 done.work.links.items
    ++ option_to_list (full_cause limit (any_full done.work.radios.items done.work.servers.items done.work.leap)))))

-- a count of both phases
abbrev pub in_both : ℕ → Option ℕ → ℕ
in_both first None = first
in_both first (Some second) = first + second

-- what a link's responder did in both
abbrev pub totals_by : Served → Option Served → Totals
totals_by first second = record {
  answered = in_both first.answered (option_map (λ s. s.answered) second);
  dropped = in_both first.dropped (option_map (λ s. s.dropped) second);
  again = in_both first.again (option_map (λ s. s.again) second);
  kissed = in_both first.kissed (option_map (λ s. s.kissed) second);
  unkept = in_both first.unkept (option_map (λ s. s.unkept) second);
  end = end_by first.end second;
}

abbrev pub totals_of : LinkWork → Totals
totals_of work = totals_by work.first work.second

abbrev pub tally_in : Totals → Tally
tally_in t = record { answered = t.answered; dropped = t.dropped; again = t.again; kissed = t.kissed; unkept = t.unkept }

abbrev pub line_by : ℕ → Totals → List ℕ
line_by number t = link_line number (tally_in t) t.end

abbrev pub line_of_work : ℕ → LinkWork → List ℕ
line_of_work number work = line_by number (totals_of work)

-- the lines of a journal
abbrev pub lines_of_journal : State → List ℕ
lines_of_journal journal = journal_text journal.settings journal.entries

-- the lines of what the workers left, but for the page
abbrev pub lines_before_page : Done → List ℕ
lines_before_page done = lines_of_journal done.journal ++ each_text line_of_work 0 done.work.links.items

-- all of them, and the page
abbrev pub lines_left : Done → List ℕ
lines_left done = lines_of_journal done.journal ++ (each_text line_of_work 0 done.work.links.items ++ page_text (page_of done.journal.settings done.journal.entries))

-- they are written, and then how the run ends
pub record FinishesDone (limit : ℕ) (done : Done) (out out_now : SinkState) (result : Status) : Type 0 where
  pub due : Ending
  pub cause : IsReported (causes_left limit done) due
  pub written : Answers (status_of due) result out out_now (lines_left done ++ status_line due)

-- ---- what is done

-- what a missing log or link of a station is called
abbrev pub subject_of : StationFields → Missing → Subject
subject_of of (missing.Feed number) = Feed number
subject_of of missing.LeapFile = Feed (leap_feed of)
subject_of of (missing.Link number) = Link number

-- the workers of a station have run: what they left, by its logs and links as they were and as they are now
pub record LeavesAll {L T : Type 0} (sights : Sights L T) (of : StationFields) (orders : Orders) (gear : Gear L T) (done : Done) (now : Gear L T) : Type 0 where
  pub of_station : IsJournalOf (settings_of of) orders.limit done.journal
  pub radios_served : RadiosServed sights.logs of.radios (column_of 0 orders.limit done.journal.entries) gear.logs.items now.logs.items done.work.radios.items
  pub servers_served : ServersServed sights.links of.servers (column_of (length of.radios) orders.limit done.journal.entries) gear.servers.items now.servers.items done.work.servers.items
  pub leap_served : LeapServed sights.logs of.top.start (column_of (leap_feed of) orders.limit done.journal.entries) gear.leap now.leap done.work.leap
  pub links_served : LinksServed sights.links (service_of of done.journal.entries orders.budget) gear.links.items now.links.items done.work.links.items

-- all logs and links are given back, as they are now, of which this is known
pub record GivesServed {L T : Type 0} (sights : Sights L T) (Left : Gear L T → Type 0) (outside outside_now : OutsideState) : Type 0 where
  pub now : Gear L T
  pub left : Left now
  pub gives : GivesAllBack outside outside_now (numbers_of sights.logs.opening sights.links.opening now) (states_of sights.logs.state sights.links.state now)

-- no memory was found, and they are given back as they were
pub record GivesUnused {L T : Type 0} (sights : Sights L T) (gear : Gear L T) (outside outside_now : OutsideState) (due : Ending) : Type 0 where
  pub gives : GivesAllBack outside outside_now (numbers_of sights.logs.opening sights.links.opening gear) (states_of sights.logs.state sights.links.state gear)
  pub memory : due ≡ NoMemory

-- there is one of each for each of the station's
pub record HasEach (of : StationFields) (done : Done) : Type 0 where
  pub of_radios : length done.work.radios.items ≡ length of.radios
  pub of_servers : length done.work.servers.items ≡ length of.servers
  pub of_links : length done.work.links.items ≡ length of.links

-- what the workers gave back is the result of a run of the station
pub record IsLeftOf (of : StationFields) (limit : ℕ) (run : StationRun) (done : Done) : Type 0 where
  pub settings_are : done.journal.settings ≡ settings_of of
  pub entries_are : done.journal.entries ≡ run.journal
  pub causes_are : causes_left limit done ≡ causes of limit run
  pub lines_are : each_text line_of_work 0 done.work.links.items ≡ each_text line_of_link 0 run.links
  pub each : HasEach of done

-- a station's logs and links were opened, served and given back
pub record ServesAll (of : StationFields) (orders : Orders) (outside outside_now : OutsideState) (done : Done) : Type 0 where
  pub run : StationRun
  pub visits : List Visit
  pub opens : MakesOpenings (wanted_by of) outside outside_now visits None
  pub opened_are : map (λ visit. visit.opened) visits ≡ opened_in run
  pub back_are : map (λ visit. visit.back) visits ≡ back_in run
  pub entries : HasDueEntries of orders.limit run
  pub logs : ReadsLogs of run
  pub polls : PollsServers of run
  pub clients : AnswersLinks of orders.budget.during orders.budget.after run
  pub left : IsLeftOf of orders.limit run done

-- or they were not: one is missing, or no memory was found
pub record CannotServe (of : StationFields) (outside outside_now : OutsideState) (due : Ending) : Type 0 where
  pub visits : List Visit
  pub failing : Option Wanted
  pub opens : MakesOpenings (wanted_by of) outside outside_now visits failing
  pub unused : All (λ visit. visit.back ≡ visit.opened) visits
  pub cause : LacksOne of (length visits) failing due

abbrev pub TriesServe : StationFields → Orders → OutsideState → OutsideState → Result Done Ending → Type 0
TriesServe of orders outside outside_now result = MatchResult result (λ done. ServesAll of orders outside outside_now done) (λ due. CannotServe of outside outside_now due)
