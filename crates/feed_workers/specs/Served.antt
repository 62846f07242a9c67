-- What the radios, the servers, the leap second file and the links of a station leave, by its journal. All of it is this project's own.
use Rattle.std.specs.Prelude.{◌≡◌, ◌≢◌, ℕ, ◌+◌, ◌*◌, ◌<◌, ◌≤◌, Bool, Option, List, [], ◌++◌, All, Some, None, length, map, slice_index_or, take}
use Rattle.std.specs.List.{flat_map, sum_by}
use Rattle.outside_traits.specs.States.{SourceState, LinkState, NetEvent, Adds}
use Rattle.feed_workers.specs.Leaps.{EndsLeap, due_leap, most_of_a_list}
use Rattle.feed_workers.specs.Logs.{EndsLog}
use Rattle.radio_receiver.specs.Decoding.{most_of_a_log}
use Rattle.feed_workers.specs.Polling.{EndsPolls}
use Rattle.feed_workers.specs.Polls.{due_link}
use Rattle.feed_workers.specs.declared.work.LogWork.{LogWork}
use Rattle.feed_workers.specs.declared.work.PollWork.{PollWork}
use Rattle.kiss_gate.specs.Gates.{Gate}
use Rattle.packet_auth.specs.Keys.{KeyFields}
use Rattle.journal_entry.specs.declared.entry.Entry.{Entry}
use Rattle.radio_receiver.specs.Due.{due_log}
use Rattle.radio_receiver.specs.Histories.{History}
use Rattle.responder.specs.Serving.{EndsBy}
use Rattle.responder.specs.Turns.{Turn, Reading, events_of, readings_of, AreTurns, answered_of, dropped_of, torn_of, kissed_of, unkept_of, Rises}
use Rattle.responder.specs.declared.served.End.TheVariants.{Count}
use Rattle.responder.specs.declared.served.Served.{Served}
use Rattle.station_values.specs.Station.{RadioFields, ServerFields, StationFields, gate_of, settings_of}
use Rattle.feed_workers.specs.Due.{HasDue}
use Rattle.feed_workers.specs.Lists.{Pairs}
use Rattle.feed_workers.specs.declared.crew.Budget.{Budget}
use Rattle.feed_workers.specs.declared.crew.LinkWork.{LinkWork}
use Rattle.system_fold.specs.Page.{page_of}
use Rattle.system_fold.specs.Settings.{IsJournal, SettingsFields}
use Rattle.verdict_journal.specs.Journals.{State}

-- a receiver of a radio's plan and delay that has heard nothing
pub record IsBlank {B : Type 0} (stands : B → History → Type 0) (least : B → ℕ) (radio : RadioFields) (receiver : B) : Type 0 where
  pub stands_for : stands receiver (record { plan = radio.plan; delay = radio.delay; reductions = [] })
  pub least_start : least receiver ≡ 0

-- one such receiver for each radio, in order
abbrev pub AreBlank : {B : Type 0} → (B → History → Type 0) → (B → ℕ) → List RadioFields → List B → Type 0
AreBlank stands least radios receivers = Pairs (IsBlank stands least) radios receivers

-- the journal has these settings and this limit, is within it, and each of its entries is valid
pub record IsJournalOf (settings : SettingsFields) (limit : ℕ) (journal : State) : Type 0 where
  pub settings_are : journal.settings ≡ settings
  pub limit_is : journal.limit ≡ limit
  pub within : length journal.entries ≤ limit
  pub valid : IsJournal settings journal.entries

-- what a log or a link shows: its state, and the number of its opening
pub record Sight (T S : Type 0) : Type 0 where
  pub state : T → S
  pub opening : T → ℕ

abbrev pub seen : {T S : Type 0} → (T → S) → (T → ℕ) → Sight T S
seen state opening = record { state = state; opening = opening }

-- what the logs and the links of a station show
pub record Sights (L T : Type 0) : Type 0 where
  pub logs : Sight L SourceState
  pub links : Sight T LinkState

abbrev pub sights_of : {L T : Type 0} → Sight L SourceState → Sight T LinkState → Sights L T
sights_of logs links = record { logs = logs; links = links }

-- a feed in a journal: its number, the most entries that the journal may have, and those that it has
pub record Column : Type 0 where
  pub feed : ℕ
  pub limit : ℕ
  pub journal : List Entry

abbrev pub column_of : (feed limit : ℕ) → List Entry → Column
column_of feed limit journal = record { feed = feed; limit = limit; journal = journal }

-- that of a feed this many places after it
abbrev pub column_after : Column → ℕ → Column
column_after column places = record column { feed = column.feed + places }

-- these bytes were read of a radio's log, and the journal has the entries that are due for them
pub record ReadsRadio (radio : RadioFields) (column : Column) (log log_now : SourceState) (work : LogWork) : Type 0 where
  pub bytes : List ℕ
  pub ends : EndsLog most_of_a_log log log_now bytes work.end
  pub due : HasDue column.limit column.journal column.feed work.full (due_log column.feed radio.plan radio.delay bytes)

-- a server's link has these events more, which are those of its polls, and the journal has the entries that are due for them
pub record AsksServer (server : ServerFields) (column : Column) (link link_now : LinkState) (work : PollWork) : Type 0 where
  pub events : List NetEvent
  pub reported : Adds link.events link_now.events events
  pub ends : EndsPolls server.address server.polls link.faults link_now.faults events work.end
  pub due : HasDue column.limit column.journal column.feed work.full (due_link column.feed server.address events)

-- these bytes were read of a leap second file, perhaps to its end, and the journal has the entries that are due for them at the station's first moment
pub record NoticesLeaps (start : ℕ) (column : Column) (file file_now : SourceState) (work : LogWork) : Type 0 where
  pub bytes : List ℕ
  pub whole : Bool
  pub ends : EndsLeap most_of_a_list file file_now bytes whole work.end
  pub due : HasDue column.limit column.journal column.feed work.full (due_leap column.feed start whole bytes)

-- a page that was read is that of a beginning of the journal, of this many entries
pub record IsReadOf (settings : SettingsFields) (journal : List Entry) (reading : Reading) : Type 0 where
  pub within : reading.length ≤ length journal
  pub page : reading.page ≡ page_of settings (take reading.length journal)

-- the counts that were reported of a phase are those of its turns
pub record CountsTurns (served : Served) (turns : List Turn) : Type 0 where
  pub answered : served.answered ≡ sum_by answered_of turns
  pub dropped : served.dropped ≡ sum_by dropped_of turns
  pub again : served.again ≡ sum_by torn_of turns
  pub kissed : served.kissed ≡ sum_by kissed_of turns
  pub unkept : served.unkept ≡ sum_by unkept_of turns

-- these turns were taken in a phase of at most this many hearings, by which the link came from one state to the other
pub record ServesPhase (budget : ℕ) (link link_now : LinkState) (served : Served) (turns : List Turn) : Type 0 where
  pub events : Adds link.events link_now.events (flat_map events_of turns)
  pub most : length turns ≤ budget
  pub ends : EndsBy budget link.faults link_now.faults turns served.end
  pub counts : CountsTurns served turns

-- A link's second phase: where the first one made as many hearings as it was asked for, these turns; else there was none, and the
-- link is as the first one left it
pub record HasSecond (budget : ℕ) (link link_now : LinkState) (work : LinkWork) (turns : List Turn) : Type 0 where
  pub served : work.first.end ≡ Count → (served : Served) × (work.second ≡ Some served) × ServesPhase budget link link_now served turns
  pub not : work.first.end ≢ Count → (work.second ≡ None) × (link_now ≡ link) × (turns ≡ [])

-- what a link is served by: the station's keys, the gate of clients that it begins with, the settings and the entries of the journal, and
-- the most hearings of each phase
pub record Service : Type 0 where
  pub keys : List KeyFields
  pub gate : Gate
  pub settings : SettingsFields
  pub journal : List Entry
  pub during : ℕ
  pub after : ℕ

-- that of a station's link
abbrev pub service_of : StationFields → List Entry → Budget → Service
service_of of journal budget = record {
  keys = of.keys;
  gate = gate_of of;
  settings = settings_of of;
  journal = journal;
  during = budget.during;
  after = budget.after;
}

-- The turns of a link in both phases. Each request is judged by the gate as the turns before it left it, from this one on, also from phase to
-- phase; its reply is the one by the code and from the page that was read in its turn, sealed by one of the keys exactly where the datagram
-- is authentic by it. Each page that was read is that of a beginning of the journal, and these beginnings never shorten. In the second phase
-- each is the whole journal, and no datagram is left unread for; of those that were in the first phase four times as many are no more than
-- there are entries
pub record ServesLink (service : Service) (link link_now : LinkState) (work : LinkWork) : Type 0 where
  pub first : List Turn
  pub second : List Turn
  pub between : LinkState
  pub first_phase : ServesPhase service.during link between work.first first
  pub second_phase : HasSecond service.after between link_now work second
  pub gate_now : Gate
  pub valid : AreTurns service.keys service.gate (first ++ second) gate_now
  pub pages : All (IsReadOf service.settings service.journal) (flat_map readings_of (first ++ second))
  pub last : ℕ
  pub rising : Rises 0 (flat_map readings_of (first ++ second)) last
  pub whole : All (λ reading. reading.length ≡ length service.journal) (flat_map readings_of second)
  pub none_again : sum_by torn_of second ≡ 0
  pub few_again : 4 * sum_by torn_of first ≤ length service.journal

-- the radios are the first feeds, in order: what was done with the log of each, which is still that of its opening
pub record RadiosServed {L : Type 0} (logs_of : Sight L SourceState) (radios : List RadioFields) (first : Column) (logs logs_now : List L) (works : List LogWork) : Type 0 where
  pub openings : map logs_of.opening logs_now ≡ map logs_of.opening logs
  pub count : length works ≡ length logs
  pub at : (i : ℕ) (radio : RadioFields) (a b : L) (work : LogWork) → i < length logs →
      ReadsRadio (slice_index_or radios i radio) (column_after first i) (logs_of.state (slice_index_or logs i a)) (logs_of.state (slice_index_or logs_now i b)) (slice_index_or works i work)

-- the servers are the feeds after them
pub record ServersServed {T : Type 0} (links_of : Sight T LinkState) (servers : List ServerFields) (first : Column) (links links_now : List T) (works : List PollWork) : Type 0 where
  pub openings : map links_of.opening links_now ≡ map links_of.opening links
  pub count : length works ≡ length links
  pub at : (i : ℕ) (server : ServerFields) (a b : T) (work : PollWork) → i < length links →
      AsksServer (slice_index_or servers i server) (column_after first i) (links_of.state (slice_index_or links i a)) (links_of.state (slice_index_or links_now i b)) (slice_index_or works i work)

-- the leap second file is the feed after them, where there is one: what was done with it, which is still that of its opening
abbrev pub LeapServed : {L : Type 0} → Sight L SourceState → (start : ℕ) → Column → Option L → Option L → Option LogWork → Type 0
LeapServed file_of start column None None None = Unit {0}
LeapServed file_of start column (Some file) (Some file_now) (Some work) =
    (file_of.opening file_now ≡ file_of.opening file) × NoticesLeaps start column (file_of.state file) (file_of.state file_now) work
LeapServed file_of start column _ _ _ = ⊥

-- each link that the station serves on
pub record LinksServed {T : Type 0} (links_of : Sight T LinkState) (service : Service) (links links_now : List T) (works : List LinkWork) : Type 0 where
  pub openings : map links_of.opening links_now ≡ map links_of.opening links
  pub count : length works ≡ length links
  pub at : (i : ℕ) (a b : T) (work : LinkWork) → i < length links →
      ServesLink service (links_of.state (slice_index_or links i a)) (links_of.state (slice_index_or links_now i b)) (slice_index_or works i work)
