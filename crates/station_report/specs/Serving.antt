-- The command `serve`: which files and links it opens and gives back, why a station can't be served, and when nothing has a fault. All
-- of it is this project's own.
use Rattle.std.specs.Prelude.{◌≡◌, ◌⊎◌, ℕ, ◌+◌, ◌-◌, ◌≤◌, nat_lt, true, Option, None, Some, IfSome, IsSome, is_some, List, [], ◌∷◌, ◌++◌, All, length, map, if◌then◌else◌}
use Rattle.std.specs.Option.{option_to_list}
use Rattle.outside_traits.specs.Faults.{Rose}
use Rattle.outside_traits.specs.States.{SourceState, LinkState, NetEvent}
use Rattle.outside_traits.specs.Openings.{Opening, OutsideState, State, Visit, Wanted, MakesOpenings, log_visit, visited}
use Rattle.outside_traits.specs.Openings.State.{OfLog, OfLink}
use Rattle.outside_traits.specs.Openings.Wanted.{LogOf}
use Rattle.station_values.specs.Station.{StationFields, feed_count, leap_feed, leap_feeds}
use Rattle.feed_workers.specs.Leaps.{most_of_a_list}
use Rattle.leap_file.specs.Rows.{bad_row}
use Rattle.station_gear.specs.Gears.{wanted_by}
use Rattle.line_files.specs.GoodLogs.{IsGoodLog}
use Rattle.feed_workers.specs.declared.crew.Orders.{Orders}
use Rattle.command_ends.specs.Effects.{Effect, EndsWith}
use Rattle.command_ends.specs.Endings.{status_of, status_line}
use Rattle.station_report.specs.Headline.{LeapRun, LogRun, StationRun, IsServed, due_in_all}
use Rattle.command_ends.specs.Opening.{CannotOpen}
use Rattle.command_ends.specs.StationFile.{EndsAtStation, HasStation, IsStation, most_of_a_station}
use Rattle.command_ends.specs.declared.ending.Ending.{Ending}
use Rattle.command_ends.specs.declared.ending.Ending.TheVariants.{NoMemory, NotOpened}
use Rattle.command_ends.specs.declared.ending.subject.Subject.{Subject}
use Rattle.command_ends.specs.declared.ending.subject.Subject.TheVariants.{Feed, Link, Station}

-- what stands at a place of those that a station opens: the logs of the radios, the leap second file, the links of the servers, each by the
-- number of its feed, and the serving links by their own numbers
abbrev pub subject_at : StationFields → ℕ → Subject
subject_at of place =
    let listed = length of.radios + length (leap_feeds of.leap_file) in
    if nat_lt place (length of.radios) then Feed place
    else if nat_lt place listed then Feed (leap_feed of)
    else if nat_lt place (feed_count of) then Feed (length of.radios + (place - listed))
    else Link (place - feed_count of)

-- one of them could not be opened, the one after those that were; or there was not enough memory
abbrev pub LacksOne : StationFields → ℕ → Option Wanted → Ending → Type 0
LacksOne of place None due = due ≡ NoMemory
LacksOne of place (Some what) due = due ≡ NotOpened (subject_at of place)

-- The station is not served: its logs and links are opened in order up to the one that fails, or as far as there was memory. What was
-- opened is given back as it was, and the status line alone is written
pub record EndsUnserved (name : List ℕ) (effect : Effect) : Type 0 where
  pub of : StationFields
  pub opened : SourceState
  pub back : SourceState
  pub station : HasStation opened back of
  pub visits : List Visit
  pub failing : Option Wanted
  pub opens : MakesOpenings (LogOf name ∷ wanted_by of) effect.outside effect.outside_now (log_visit name opened back ∷ visits) failing
  pub unused : All (λ visit. visit.back ≡ visit.opened) visits
  pub due : Ending
  pub cause : LacksOne of (length visits) failing due
  pub written : EndsWith effect (status_of due) (status_line due)

-- what a station's logs and links reported when they were opened, in the order of their openings, and when they were given back
abbrev pub opened_in : StationRun → List State
opened_in run = map (λ log. OfLog log.opened) run.radios ++ (map (λ leap. OfLog leap.opened) (option_to_list run.leap)
    ++ (map (λ poll. OfLink poll.opened) run.servers ++ map (λ link. OfLink link.opened) run.links))

abbrev pub back_in : StationRun → List State
back_in run = map (λ log. OfLog log.back) run.radios ++ (map (λ leap. OfLog leap.back) (option_to_list run.leap)
    ++ (map (λ poll. OfLink poll.back) run.servers ++ map (λ link. OfLink link.back) run.links))

-- The station, its logs and its links are opened in order, each once, and all are given back. What its workers do with them is the
-- headline
pub record ServesStation (name : List ℕ) (orders : Orders) (effect : Effect) : Type 0 where
  pub of : StationFields
  pub opened : SourceState
  pub back : SourceState
  pub station : HasStation opened back of
  pub run : StationRun
  pub visits : List Visit
  pub opens : MakesOpenings (LogOf name ∷ wanted_by of) effect.outside effect.outside_now (log_visit name opened back ∷ visits) None
  pub opened_are : map (λ visit. visit.opened) visits ≡ opened_in run
  pub back_are : map (λ visit. visit.back) visits ≡ back_in run
  pub served : IsServed of orders run effect.out effect.out_now effect.status

-- the effects that `serve` may have
abbrev pub RunsServe : List ℕ → Orders → Effect → Type 0
RunsServe name orders effect = CannotOpen (LogOf name ∷ []) [] (LogOf name) Station effect
    ⊎ (EndsAtStation (LogOf name ∷ []) name effect ⊎ (EndsUnserved name effect ⊎ ServesStation name orders effect))

-- ---- a station without a fault

-- a log without a fault, of which these are the bytes
pub record IsGoodLogRun (log : LogRun) : Type 0 where
  pub good : IsGoodLog log.opened log.back
  pub bytes_are : good.text ≡ log.bytes

-- a leap second file that has no fault, and that reported its bytes before and after
pub record IsGoodList (opened back : SourceState) : Type 0 where
  pub text : List ℕ
  pub reported : opened.left ≡ Some text
  pub reports : IsSome back.left
  pub no_fault : Rose opened.faults back.faults → ⊥
  pub lines : bad_row true text ≡ None
  pub most : length text ≤ most_of_a_list

-- one without a fault, of which these are the bytes, and whose end is read
pub record IsGoodLeapRun (leap : LeapRun) : Type 0 where
  pub good : IsGoodList leap.opened leap.back
  pub bytes_are : good.text ≡ leap.bytes
  pub whole_is : leap.whole ≡ true

-- a link that reports its events and has no fault
pub record IsGoodLink (opened back : LinkState) (events : List NetEvent) : Type 0 where
  pub before : List NetEvent
  pub were : opened.events ≡ Some before
  pub are : back.events ≡ Some (before ++ events)
  pub no_fault : Rose opened.faults back.faults → ⊥

-- A station and all that it opens were opened and given back, reported their contents, and have no fault; and no more entries are due than its
-- journal may have. From outside a leap second file looks like a log, and the link of a server like one that serves: `each_list` and
-- `each_server` say which is which, as the station file has it
pub record HasGoodStation (name : List ℕ) (limit : ℕ) (outside outside_now : OutsideState) : Type 0 where
  pub before : List Opening
  pub opened : SourceState
  pub back : SourceState
  pub visits : List Visit
  pub were : outside.openings ≡ Some before
  pub are : outside_now.openings ≡ Some (before ++ map visited (log_visit name opened back ∷ visits))
  pub of : StationFields
  pub is_station : IsStation of opened back
  pub most : length is_station.text ≤ most_of_a_station
  pub no_fault : Rose opened.faults back.faults → ⊥
  pub run : StationRun
  pub each_list : is_some run.leap ≡ is_some of.leap_file
  pub each_server : length run.servers ≡ length of.servers
  pub opened_are : map (λ visit. visit.opened) visits ≡ opened_in run
  pub back_are : map (λ visit. visit.back) visits ≡ back_in run
  pub logs : All IsGoodLogRun run.radios
  pub list : IfSome run.leap IsGoodLeapRun
  pub polls : All (λ poll. IsGoodLink poll.opened poll.back poll.events) run.servers
  pub links : All (λ link. Rose link.opened.faults link.back.faults → ⊥) run.links
  pub room : due_in_all of run ≤ limit
