-- Scaffolding: what a player keeps, against the definitions on all the lines before.
use Rattle.std.specs.Prelude.{◌≡◌, ℕ, ◌+◌, ◌≤◌, ◌++◌, Bool, true, false, nat_lt, Option, Some, option_map, Result, Ok, Err, List, [], ◌∷◌, All, length, take}
use Rattle.std.specs.List.{slice_get}
use Rattle.tick_units.specs.declared.marks.Plan.{Plan}
use Rattle.journal_entry.specs.declared.entry.Entry.{Entry}
use Rattle.radio_receiver.specs.Histories.{History, least_after}
use Rattle.poll_core.specs.Polling.{HasPolled}
use Rattle.system_fold.specs.Settings.{SettingsFields}
use Rattle.system_fold.specs.KeptFold.{StandsForJournal}
use Rattle.station_gear.specs.Racks.{IsSpare, left_of}
use Rattle.packet_auth.specs.Keys.{keys_of}
use Rattle.station_values.specs.Station.{RadioFields, ServerFields, StationFields, leap_feed, settings_of}
use Rattle.script_line.specs.declared.line.ScriptLine.{ScriptLine}
use Rattle.replay_command.specs.Keeping.{JournalFields}
use Rattle.replay_command.specs.Replay.{MayBePlayed, Played, ReplayCase, due, due_to, events_of, fitted, gate_after, history_of, is_valid, last_moment, lines_of, outcome, played_so, pulses_of}
use Rattle.replay_command.specs.declared.leap.LeapFeed.{LeapFeed}
use Rattle.replay_command.specs.declared.outcome.Invalid.{Invalid}
use Rattle.replay_command.specs.declared.outcome.Outcome.{Outcome}
use Rattle.replay_command.specs.declared.radio.Radio.{Radio}
use Rattle.replay_command.specs.declared.radios.Radios.{Radios}
use Rattle.replay_command.specs.declared.server.Server.{Server}
use Rattle.replay_command.specs.declared.servers.Servers.{Servers}
use Rattle.replay_command.specs.declared.player.Player.{Player}

-- what a call answers to a line: something exactly where the line is valid; where it is not, all is as it was
abbrev pub Gives : {A : Type 0} → Bool → (A → Type 0) → Type 0 → Result A Invalid → Type 0
Gives valid Given Same (Ok x) = (valid ≡ true) × Given x
Gives valid Given Same (Err refused) = (valid ≡ false) × Same

-- a radio has the receiver that has received the pulses since its last swap
pub record HasRadio {B : Type 0} (stands : B → History → Type 0) (radio : Radio B) (fields : RadioFields) (feed : ℕ) (lines : List ScriptLine) : Type 0 where
  pub plan : radio.plan ≡ fields.plan
  pub delay : radio.delay_us ≡ fields.delay
  pub least : radio.least ≡ least_after (pulses_of feed lines)
  pub heard : stands radio.receiver (history_of fields feed lines)

-- the radios of a station, in order
pub record HasFitted {B : Type 0} (stands : B → History → Type 0) (radios : List (Radio B)) (station : StationFields) (lines : List ScriptLine) : Type 0 where
  pub count : length radios ≡ length station.radios
  pub each : (feed : ℕ) (radio : Radio B) (fields : RadioFields) → slice_get radios feed ≡ Some radio → slice_get station.radios feed ≡ Some fields → HasRadio stands radio fields feed lines

-- of each plan four receivers are fitted or left
pub record HasRadios {B : Type 0} (stands : B → History → Type 0) (radios : Radios B) (station : StationFields) (lines : List ScriptLine) : Type 0 where
  pub fitted_are : HasFitted stands radios.fitted.items station lines
  pub blank : All (IsSpare stands) radios.left.items
  pub four : (plan : Plan) → left_of plan radios.left.items + fitted station plan lines ≡ 4

-- a station with one radio more, and with one server more
abbrev pub with_radio : StationFields → RadioFields → StationFields
with_radio station fields = record station { radios = station.radios ++ fields ∷ [] }

abbrev pub with_server : StationFields → ServerFields → StationFields
with_server station fields = record station { servers = station.servers ++ fields ∷ [] }

-- a station with the first of its radios alone, and with the first of its servers alone
abbrev pub first_radios : ℕ → StationFields → StationFields
first_radios n station = record station { radios = take n station.radios }

abbrev pub first_servers : ℕ → StationFields → StationFields
first_servers n station = record station { servers = take n station.servers }

-- each receiver can receive what its radio may receive next
pub record AreReady {B : Type 0} (least_start : B → ℕ) (radios : Radios B) : Type 0 where
  pub fitted : All (λ radio. least_start radio.receiver ≤ radio.least) radios.fitted.items
  pub left : All (λ spare. least_start spare.receiver ≡ 0) radios.left.items

-- one pulse more, and the entry that was due to it
pub record HasReceivedPulse {B : Type 0} (stands : B → History → Type 0) (radios : Radios B) (station : StationFields) (lines : List ScriptLine) (pulse : ScriptLine) (entry : Option Entry) : Type 0 where
  pub played : HasRadios stands radios station (lines ++ pulse ∷ [])
  pub due_is : entry ≡ due_to station lines pulse

-- a server has the poller of its exchanges
pub record HasServer (server : Server) (fields : ServerFields) (feed : ℕ) (lines : List ScriptLine) : Type 0 where
  pub polled : HasPolled server.poll fields.address (events_of fields.address feed lines)
  pub address : server.address ≡ fields.address
  pub last : server.last ≡ last_moment feed lines

-- a moment is not below the last one of the server at a place
abbrev pub IsTimely : List Server → ℕ → ℕ → Type 0
IsTimely servers place at = (server : Server) → slice_get servers place ≡ Some server → server.last ≤ at

-- the servers of a station, in order; their numbers begin after those of the radios
pub record HasPolling (servers : List Server) (station : StationFields) (lines : List ScriptLine) : Type 0 where
  pub count : length servers ≡ length station.servers
  pub each : (place : ℕ) (server : Server) (fields : ServerFields) → slice_get servers place ≡ Some server → slice_get station.servers place ≡ Some fields → HasServer server fields (length station.radios + place) lines

pub record HasServers (servers : Servers) (station : StationFields) (lines : List ScriptLine) : Type 0 where
  pub first_is : servers.first ≡ length station.radios
  pub polling : HasPolling servers.servers.items station lines

-- one datagram more, and the entry that was due to it
pub record HasAnswered (servers : Servers) (station : StationFields) (lines : List ScriptLine) (answer : ScriptLine) (entry : Entry) : Type 0 where
  pub played : HasServers servers station (lines ++ answer ∷ [])
  pub due_is : Some entry ≡ due_to station lines answer

-- the leap second file has its feed's number, where the station names one, and the moment of its last leap second
pub record HasLeap (leap : LeapFeed) (station : StationFields) (lines : List ScriptLine) : Type 0 where
  pub number_is : leap.number ≡ option_map (λ name. leap_feed station) station.leap_file
  pub last : leap.last ≡ last_moment (leap_feed station) lines

-- one leap second more, and the entry that was due to it
pub record HasReported (leap : LeapFeed) (station : StationFields) (lines : List ScriptLine) (reported : ScriptLine) (entry : Entry) : Type 0 where
  pub played : HasLeap leap station (lines ++ reported ∷ [])
  pub due_is : Some entry ≡ due_to station lines reported

-- the first of the entries that were due are kept, up to the limit
pub record HasKept (journal : JournalFields) (settings : SettingsFields) (limit : ℕ) (entries : List Entry) : Type 0 where
  pub limit_is : journal.limit ≡ limit
  pub fold : StandsForJournal journal.fold settings (take limit entries)
  pub count : journal.count ≡ length (take limit entries)
  pub full : journal.is_full ≡ nat_lt limit (length entries)

-- a player stands for what a script is played for, and for the lines so far
pub record HasPlayed {B : Type 0} (stands : B → History → Type 0) (player : Player B) (of : ReplayCase) (before : List Played) : Type 0 where
  pub radios : HasRadios stands player.radios of.station (lines_of before)
  pub servers : HasServers player.servers of.station (lines_of before)
  pub leap : HasLeap player.leap of.station (lines_of before)
  pub journal : HasKept player.journal (settings_of of.station) of.limit (due of.station (lines_of before))
  pub keys : keys_of player.keys ≡ of.station.keys
  pub clients : player.clients ≡ gate_after of.station before

-- one line more, and what it gave
pub record HasGiven {B : Type 0} (stands : B → History → Type 0) (player : Player B) (of : ReplayCase) (before : List Played) (line : ScriptLine) (given : Outcome) : Type 0 where
  pub was_kept : Bool
  pub may_be : MayBePlayed of.station before (played_so line was_kept)
  pub played : HasPlayed stands player of (before ++ played_so line was_kept ∷ [])
  pub outcome_is : given ≡ outcome of.station of.limit before (played_so line was_kept)

-- what a player answers to a line after these lines
abbrev pub Plays : {B : Type 0} → (B → History → Type 0) → Player B → ReplayCase → List Played → ScriptLine → Result Outcome Invalid → Type 0
Plays stands player of before line result =
    Gives (is_valid of.station (lines_of before) line) (HasGiven stands player of before line) (HasPlayed stands player of before) result

-- each receiver of a player can receive what its radio may receive next
abbrev pub IsReady : {B : Type 0} → (B → ℕ) → Player B → Type 0
IsReady least_start player = AreReady least_start player.radios
