-- The headline: what a station that was served has done. Whatever way its threads interleave, its journal holds, for each feed in order,
-- exactly the entries that its code plan, its polling rules or the rows of its leap second file give for its own input; and each datagram
-- sent on a serving link is the reply (RFC 5905) to one received there, made from the page of a beginning of that journal, never a shorter
-- one than that link used before, or the kiss code that its sender gets, and authentic exactly where the one received is.
-- Six records say it, and `IsServed` at the end has all of them.
-- Read on in this order; each file names its source. docs/HEADLINE.md has examples, and what is trusted.
--   what an object reports, and its faults    outside_traits States, Faults
--   how far a file is read                    file_reader Ends; radio_receiver Decoding; feed_workers Logs, Leaps
--   how a server is polled                    poll_core Histories; feed_workers Polls, Polling
--   which client passes                       packet_auth Keys; kiss_gate Nets, Clients, Gates
--   a station, its journal and its page       system_fold Settings; station_values Station; page_cell Claims; feed_workers Lists; clock_page Page
--   the turns of a link                       responder Turns; feed_workers Served; responder Serving
--   texts and statuses                        outside_traits Writing; journal_entry Texts; system_fold Numbered; command_ends Writing, Endings, Text; line_files Texts
-- Taken on their tests: due_log (radio_receiver Due), leap_seconds (leap_file Rows), page_of (system_fold Page),
-- judge (poll_core Histories), reply_to (sealed_reply Replies).
use Rattle.std.specs.Prelude.{◌≡◌, ◌≢◌, ◌⊎◌, ℕ, suc, ◌*◌, ◌<◌, ◌≤◌, min, nat_lt, Bool, Option, None, Some, IfSome, is_some, List, [], ◌∷◌, ◌++◌, All, length, slice_get, codes, decimal, if◌then◌else◌}
use Rattle.std.specs.List.{flat_map, sum_by}
use Rattle.std.specs.Option.{option_to_list}
use mathlib.Core.List.{IsPrefix}
use Rattle.outside_traits.specs.States.{SourceState, SinkState, LinkState, NetEvent, Adds}
use Rattle.feed_workers.specs.Leaps.{EndsLeap, due_leap, most_of_a_list}
use Rattle.feed_workers.specs.Logs.{EndsLog}
use Rattle.radio_receiver.specs.Decoding.{most_of_a_log}
use Rattle.feed_workers.specs.Polling.{EndsPolls}
use Rattle.feed_workers.specs.Polls.{due_link}
use Rattle.file_reader.specs.declared.log_end.LogEnd.{LogEnd}
use Rattle.file_reader.specs.declared.log_end.LogEnd.TheVariants as log
use Rattle.feed_workers.specs.declared.work.PollEnd.{PollEnd}
use Rattle.feed_workers.specs.declared.work.PollEnd.TheVariants as poll
use Rattle.journal_entry.specs.Texts.{spaced}
use Rattle.journal_entry.specs.declared.entry.Entry.{Entry}
use Rattle.kiss_gate.specs.Gates.{Gate}
use Rattle.radio_receiver.specs.Due.{due_log}
use Rattle.page_cell.specs.Claims.{of_feed}
use Rattle.responder.specs.Serving.{EndsBy}
use Rattle.responder.specs.Turns.{Turn, events_of, readings_of, AreTurns, GoesOn, answered_of, dropped_of, torn_of, kissed_of, unkept_of, Rises}
use Rattle.responder.specs.declared.served.End.{End}
use Rattle.responder.specs.declared.served.End.TheVariants.{Count, LinkEnd, LinkFault}
use Rattle.station_values.specs.Station.{RadioFields, ServerFields, StationFields, gate_of, leap_feed, settings_of}
use Rattle.feed_workers.specs.Lists.{Pairs}
use Rattle.feed_workers.specs.Served.{IsReadOf}
use Rattle.feed_workers.specs.declared.crew.Orders.{Orders}
use Rattle.system_fold.specs.Page.{page_of}
use Rattle.system_fold.specs.Settings.{IsJournal}
use Rattle.command_ends.specs.Endings.{number_of, status_of, status_line}
use Rattle.line_files.specs.Texts.{journal_text}
use Rattle.command_ends.specs.Text.{page_text}
use Rattle.command_ends.specs.Writing.{Answers}
use Rattle.command_ends.specs.declared.ending.Ending.{Ending}
use Rattle.command_ends.specs.declared.ending.Ending.TheVariants.{Whole, NotRead, WrongLine, Full, LinkFailed, Long}
use Rattle.command_ends.specs.declared.ending.status.Status.{Status}
use Rattle.command_ends.specs.declared.ending.subject.Subject.TheVariants.{Feed, Link}

-- what became of the log of a radio: what it reported when it was opened and when it was given back, the bytes that were read of it, and how
-- its reading ended
pub record LogRun : Type 0 where
  pub opened : SourceState
  pub back : SourceState
  pub bytes : List ℕ
  pub end : LogEnd

-- of the leap second file: the same, and whether its end was read
pub record LeapRun : Type 0 where
  pub opened : SourceState
  pub back : SourceState
  pub bytes : List ℕ
  pub whole : Bool
  pub end : LogEnd

-- of the link of a server: what it reported and how its worker ended, and the events that it reported in between
pub record PollRun : Type 0 where
  pub opened : LinkState
  pub back : LinkState
  pub events : List NetEvent
  pub end : PollEnd

-- of a serving link: the same with the turns of both phases. Tests alone show that the second begins when all feeds have ended
pub record LinkRun : Type 0 where
  pub opened : LinkState
  pub back : LinkState
  pub first : List Turn
  pub second : List Turn
  pub end : End

-- of a station, in its order, with its leap second file where it has one; and the journal that is printed
pub record StationRun : Type 0 where
  pub radios : List LogRun
  pub leap : Option LeapRun
  pub servers : List PollRun
  pub links : List LinkRun
  pub journal : List Entry

-- ---- 1. The journal has what is due

-- the entries that are due for the bytes read of each radio's log, for feeds from this one on
abbrev pub radio_dues : ℕ → List RadioFields → List LogRun → List (List Entry)
radio_dues feed [] logs = []
radio_dues feed (radio ∷ radios) [] = []
radio_dues feed (radio ∷ radios) (log ∷ logs) = due_log feed radio.plan radio.delay log.bytes ∷ radio_dues (suc feed) radios logs

-- and for the events of each server's link
abbrev pub server_dues : ℕ → List ServerFields → List PollRun → List (List Entry)
server_dues feed [] polls = []
server_dues feed (server ∷ servers) [] = []
server_dues feed (server ∷ servers) (poll ∷ polls) = due_link feed server.address poll.events ∷ server_dues (suc feed) servers polls

-- and for the bytes read of the leap second file, where there is one, at the station's first moment
abbrev pub leap_dues : (feed start : ℕ) → Option LeapRun → List (List Entry)
leap_dues feed start None = []
leap_dues feed start (Some leap) = due_leap feed start leap.whole leap.bytes ∷ []

-- the radios are the first feeds, the servers those after them, and the leap second file is the last
abbrev pub dues : StationFields → StationRun → List (List Entry)
dues of run = radio_dues 0 of.radios run.radios ++ server_dues (length of.radios) of.servers run.servers ++ leap_dues (leap_feed of) of.top.start run.leap

abbrev pub due_in_all : StationFields → StationRun → ℕ
due_in_all of run = sum_by length (dues of run)

-- The entries of each feed are those that are due for its own input, in order. Where more are due in all than the journal may have, it has
-- as many as it may, and of each feed a beginning of those that are due. No other entry is there
pub record HasDueEntries (of : StationFields) (limit : ℕ) (run : StationRun) : Type 0 where
  pub whole : due_in_all of run ≤ limit → (feed : ℕ) (due : List Entry) → slice_get (dues of run) feed ≡ Some due → of_feed feed run.journal ≡ due
  pub beginning : (feed : ℕ) (due : List Entry) → slice_get (dues of run) feed ≡ Some due → IsPrefix (of_feed feed run.journal) due
  pub count : length run.journal ≡ min (due_in_all of run) limit
  pub valid : IsJournal (settings_of of) run.journal

-- ---- 2. Each log is read

-- The bytes read of each log, and of the leap second file, are a beginning of what it reported. They are all of it, unless a read of it failed,
-- a bad line was met, or it has more bytes than it may have
pub record ReadsLogs (of : StationFields) (run : StationRun) : Type 0 where
  pub each : length run.radios ≡ length of.radios
  pub read : All (λ log. EndsLog most_of_a_log log.opened log.back log.bytes log.end) run.radios
  pub leap : is_some run.leap ≡ is_some of.leap_file
  pub leap_read : IfSome run.leap (λ leap. EndsLeap most_of_a_list leap.opened leap.back leap.bytes leap.whole leap.end)

-- ---- 3. Each server is polled

-- its link's events are those of this many rounds; of fewer only where the link ended, or a call of it failed, which cuts a round
pub record IsPolled (server : ServerFields) (polled : PollRun) : Type 0 where
  pub reported : Adds polled.opened.events polled.back.events polled.events
  pub ends : EndsPolls server.address server.polls polled.opened.faults polled.back.faults polled.events polled.end

pub record PollsServers (of : StationFields) (run : StationRun) : Type 0 where
  pub each : Pairs IsPolled of.servers run.servers

-- ---- 4. Each client is answered

-- both phases have as many hearings as were asked for, unless the link ended or one of its calls failed: then nothing comes after that
abbrev pub EndsPhases : (during after : ℕ) → LinkRun → Type 0
EndsPhases during after link =
    (All GoesOn link.first × (length link.first ≡ during) × EndsBy after link.opened.faults link.back.faults link.second link.end)
    ⊎ ((link.end ≢ Count) × (link.second ≡ []) × EndsBy during link.opened.faults link.back.faults link.first link.end)

-- The events of a link are those of its turns: each reply goes to the sender of the datagram of its turn, and is its answer from the page
-- that was read in that turn, or the kiss code that the link's gate of clients gives its sender, authentic exactly where that datagram is,
-- and by the key that it names. The gate begins with no client, and goes on from turn to turn over both phases. Each page is that of a
-- beginning of the journal, and these beginnings never shorten; in the second phase each is the whole journal, and no datagram is left for
-- lack of a page. Of those that were left so in the first phase, four times as many are no more than there are entries
pub record IsAnswered (of : StationFields) (journal : List Entry) (during after : ℕ) (link : LinkRun) : Type 0 where
  pub reported : Adds link.opened.events link.back.events (flat_map events_of (link.first ++ link.second))
  pub gate_now : Gate
  pub replies : AreTurns of.keys (gate_of of) (link.first ++ link.second) gate_now
  pub pages : All (IsReadOf (settings_of of) journal) (flat_map readings_of (link.first ++ link.second))
  pub last : ℕ
  pub rising : Rises 0 (flat_map readings_of (link.first ++ link.second)) last
  pub whole : All (λ reading. reading.length ≡ length journal) (flat_map readings_of link.second)
  pub none_left : sum_by torn_of link.second ≡ 0
  pub few_left : 4 * sum_by torn_of link.first ≤ length journal
  pub ends : EndsPhases during after link

pub record AnswersLinks (of : StationFields) (during after : ℕ) (run : StationRun) : Type 0 where
  pub each : length run.links ≡ length of.links
  pub served : All (IsAnswered of run.journal during after) run.links

-- ---- 5. All of it is written

abbrev pub end_word : End → List ℕ
end_word Count = codes "count"
end_word LinkEnd = codes "linkend"
end_word LinkFault = codes "linkfault"

-- how many datagrams were answered with the time, dropped, left, and answered with a kiss code, and how many clients were let pass without
-- being kept
pub record Tally : Type 0 where
  pub answered : ℕ
  pub dropped : ℕ
  pub again : ℕ
  pub kissed : ℕ
  pub unkept : ℕ

abbrev pub tally_of : List Turn → Tally
tally_of turns = record {
  answered = sum_by answered_of turns;
  dropped = sum_by dropped_of turns;
  again = sum_by torn_of turns;
  kissed = sum_by kissed_of turns;
  unkept = sum_by unkept_of turns;
}

-- the line of a link: the counts of its turns, and how it ended
abbrev pub link_line : ℕ → Tally → End → List ℕ
link_line number tally end = codes "link" ++ spaced (decimal number ∷ codes "answered" ∷ decimal tally.answered ∷ codes "dropped" ∷ decimal tally.dropped
    ∷ codes "again" ∷ decimal tally.again ∷ codes "kissed" ∷ decimal tally.kissed ∷ codes "unkept" ∷ decimal tally.unkept ∷ codes "end" ∷ end_word end ∷ []) ++ codes "\n"

abbrev pub line_of_link : ℕ → LinkRun → List ℕ
line_of_link number link = link_line number (tally_of (link.first ++ link.second)) link.end

-- a text for each item of a list, by its place, which counts from this one on
abbrev pub each_text : {X : Type 0} → (ℕ → X → List ℕ) → ℕ → List X → List ℕ
each_text text place [] = []
each_text text place (x ∷ xs) = text place x ++ each_text text (suc place) xs

-- the lines of the journal, a line for each serving link, and the page of the journal
abbrev pub served_text : StationFields → StationRun → List ℕ
served_text of run = journal_text (settings_of of) run.journal ++ (each_text line_of_link 0 run.links ++ page_text (page_of (settings_of of) run.journal))

-- the sink takes them and the status line; where a write fails, it holds a beginning of that text
pub record WritesServed (of : StationFields) (run : StationRun) (due : Ending) (out out_now : SinkState) (result : Status) : Type 0 where
  pub written : Answers (status_of due) result out out_now (served_text of run ++ status_line due)

-- ---- 6. The status has its cause

abbrev pub log_cause : ℕ → LogEnd → Option Ending
log_cause feed log.Whole = None
log_cause feed (log.BadLine line) = Some (WrongLine (Feed feed) line)
log_cause feed log.Fault = Some (NotRead (Feed feed))
log_cause feed log.Long = Some (Long (Feed feed))

abbrev pub poll_cause : ℕ → PollEnd → Option Ending
poll_cause feed poll.Rounds = None
poll_cause feed poll.LinkEnd = None
poll_cause feed poll.LinkFault = Some (LinkFailed (Feed feed))

abbrev pub link_cause : ℕ → End → Option Ending
link_cause number Count = None
link_cause number LinkEnd = None
link_cause number LinkFault = Some (LinkFailed (Link number))

-- more entries were due than the journal may have
abbrev pub full_cause : ℕ → Bool → Option Ending
full_cause limit full = if full then Some (Full limit) else None

-- the causes that the items of a list are, by their places, which count from this one on
abbrev pub each_cause : {X : Type 0} → (ℕ → X → Option Ending) → ℕ → List X → List Ending
each_cause cause place [] = []
each_cause cause place (x ∷ xs) = option_to_list (cause place x) ++ each_cause cause (suc place) xs

-- all that went wrong: in the logs, with the servers, in the leap second file, on the links, and with the journal
abbrev pub causes : StationFields → ℕ → StationRun → List Ending
causes of limit run = each_cause (λ feed log. log_cause feed log.end) 0 run.radios
    ++ (each_cause (λ feed poll. poll_cause feed poll.end) (length of.radios) run.servers
    ++ (each_cause (λ feed leap. log_cause feed leap.end) (leap_feed of) (option_to_list run.leap)
    ++ (each_cause (λ number link. link_cause number link.end) 0 run.links
    ++ option_to_list (full_cause limit (nat_lt limit (due_in_all of run))))))

abbrev pub number_at : Ending → ℕ
number_at ending = number_of (status_of ending)

-- of all causes the one whose status has the least number, and of those with one number the first
pub record IsFirstOfLeast (all : List Ending) (due : Ending) : Type 0 where
  pub before : List Ending
  pub later : List Ending
  pub is : all ≡ before ++ due ∷ later
  pub greater : All (λ other. number_at due < number_at other) before
  pub no_less : All (λ other. number_at due ≤ number_at other) later

-- that one is reported; where nothing went wrong, all is whole
abbrev pub IsReported : List Ending → Ending → Type 0
IsReported all due = ((all ≡ []) × (due ≡ Whole)) ⊎ IsFirstOfLeast all due

-- ---- all of it

pub record IsServed (of : StationFields) (orders : Orders) (run : StationRun) (out out_now : SinkState) (result : Status) : Type 0 where
  pub entries : HasDueEntries of orders.limit run
  pub logs : ReadsLogs of run
  pub polls : PollsServers of run
  pub clients : AnswersLinks of orders.budget.during orders.budget.after run
  pub due : Ending
  pub text : WritesServed of run due out out_now result
  pub cause : IsReported (causes of orders.limit run) due
