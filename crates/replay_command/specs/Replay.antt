-- What the lines of a recorded script give. There is no state: all the lines before a line decide what it does, with whose
-- judging was kept in them. How a script drives a station is this project's own. The receivers' answers are those of their code
-- plans (PTB, NPL, NIST). The exchanges, the page, the replies and the kiss codes are those of RFC 5905.
use Rattle.std.specs.Prelude.{◌≡◌, ℕ, ◌+◌, ◌-◌, ◌==◌, nat_lt, nat_le, Bool, true, false, not, ◌&&◌, Option, None, Some, is_some, Result, Ok, Err, List, [], ◌∷◌, ◌++◌, length, map, fold, take, reverse, unwrap_or, if◌then◌else◌}
use Rattle.std.specs.List.{count_by, filter_map, last_or, slice_get, take_while}
use Rattle.std.specs.Option.{option_to_list}
use Rattle.tick_units.specs.declared.marks.Plan.{Plan}
use Rattle.tick_units.specs.declared.marks.Reduction.{Reduction}
use Rattle.tick_units.specs.declared.sample.Sample.{Sample as TimeSample}
use Rattle.tick_units.specs.declared.verdicts.Heard.{Heard as Answered}
use Rattle.outside_traits.specs.declared.outside.Address.{Address}
use Rattle.journal_entry.specs.declared.entry.Entry.{Entry}
use Rattle.journal_entry.specs.declared.entry.What.{What}
use Rattle.journal_entry.specs.declared.entry.What.TheVariants.{Heard, Sample, Declined, Notice}
use Rattle.radio_receiver.specs.Histories.{History, answers_of, least_after, with_reduction}
use Rattle.poll_core.specs.Histories.{Event, judge}
use Rattle.poll_core.specs.Histories.Event.{Asked as WasAsked, Answered as WasAnswered}
use Rattle.poll_core.specs.Formulas.{request_header}
use Rattle.poll_core.specs.Refusals.{code_of}
use Rattle.poll_core.specs.declared.refusal.PollRefusal.{PollRefusal}
use Rattle.ntp_packet.specs.Layout.{layout}
use Rattle.ntp_packet.specs.declared.header.Header.{Header}
use Rattle.reply_core.specs.Reply.{request_of}
use Rattle.reply_core.specs.declared.dropped.Dropped.{Dropped as WhyDropped}
use Rattle.sealed_reply.specs.Replies.{reply_to}
use Rattle.kiss_gate.specs.Clients.{MayBeKept, after, code_of as code_for}
use Rattle.kiss_gate.specs.Gates.{Gate}
use Rattle.clock_page.specs.Page.{PageFields}
use Rattle.system_fold.specs.Numbered.{numbered_next}
use Rattle.system_fold.specs.Page.{page_of}
use Rattle.system_fold.specs.Settings.{SettingsFields}
use Rattle.station_values.specs.Station.{RadioFields, ServerFields, StationFields, gate_of, is_same_plan, leap_feed, plan_count, settings_of}
use Rattle.script_line.specs.declared.line.ScriptLine.{ScriptLine}
use Rattle.script_line.specs.declared.line.ScriptLine.TheVariants.{Pulse, Ask, Answer, Swap, Request, Leap}
use Rattle.replay_command.specs.declared.outcome.Outcome.{Outcome}
use Rattle.replay_command.specs.declared.outcome.Outcome.TheVariants.{Nothing, Kept, Asked, Replied, Dropped}

-- feeds are numbered: the radios of the station in order, then its servers, then its leap second file
abbrev pub radio_of : StationFields → ℕ → Option RadioFields
radio_of station feed = slice_get station.radios feed

abbrev pub server_of : StationFields → ℕ → Option ServerFields
server_of station feed = if nat_lt feed (length station.radios) then None else slice_get station.servers (feed - length station.radios)

abbrev pub is_leap_feed : StationFields → ℕ → Bool
is_leap_feed station feed = is_some station.leap_file && (feed == leap_feed station)

-- the pulse that a line gives to a feed
abbrev pub pulse_in : ℕ → ScriptLine → Option Reduction
pulse_in feed (Pulse number reduction) = if number == feed then Some reduction else None
pulse_in feed _ = None

abbrev pub pulses_of : ℕ → List ScriptLine → List Reduction
pulses_of feed lines = filter_map (pulse_in feed) lines

-- a line that takes a feed's receiver away
abbrev pub is_swap_of : ℕ → ScriptLine → Bool
is_swap_of feed (Swap number) = number == feed
is_swap_of feed _ = false

-- the lines after a feed's last swap, or all where there is none: from the end back to it
abbrev pub after_swap : ℕ → List ScriptLine → List ScriptLine
after_swap feed lines = reverse (take_while (λ line. not (is_swap_of feed line)) (reverse lines))

-- what the receiver that a feed has now has received: the pulses since its last swap
abbrev pub reductions_of : ℕ → List ScriptLine → List Reduction
reductions_of feed lines = pulses_of feed (after_swap feed lines)

-- that receiver was fitted with the radio's delay
abbrev pub history_of : RadioFields → ℕ → List ScriptLine → History
history_of radio feed lines = record { plan = radio.plan; delay = radio.delay; reductions = reductions_of feed lines }

-- how many receivers of a plan were fitted: one for each radio of the plan, and one for each swap of such a radio
abbrev pub is_plan_of : Plan → Option RadioFields → Bool
is_plan_of plan None = false
is_plan_of plan (Some radio) = is_same_plan plan radio.plan

abbrev pub is_swap_for : StationFields → Plan → ScriptLine → Bool
is_swap_for station plan (Swap feed) = is_plan_of plan (radio_of station feed)
is_swap_for station plan _ = false

abbrev pub fitted : StationFields → Plan → List ScriptLine → ℕ
fitted station plan lines = plan_count plan station.radios + count_by (is_swap_for station plan) lines

-- the requests and the answers of a feed's poller; a datagram comes from the feed's own server
abbrev pub event_in : Address → ℕ → ScriptLine → Option Event
event_in server feed (Ask number at) = if number == feed then Some (WasAsked at) else None
event_in server feed (Answer number at datagram) = if number == feed then Some (WasAnswered at server datagram) else None
event_in server feed _ = None

abbrev pub events_of : Address → ℕ → List ScriptLine → List Event
events_of server feed lines = filter_map (event_in server feed) lines

-- the moment of a feed's last request, answer or leap second, and 0 where there is none
abbrev pub moment_in : ℕ → ScriptLine → Option ℕ
moment_in feed (Ask number at) = if number == feed then Some at else None
moment_in feed (Answer number at datagram) = if number == feed then Some at else None
moment_in feed (Leap number at leap_at) = if number == feed then Some at else None
moment_in feed _ = None

abbrev pub last_moment : ℕ → List ScriptLine → ℕ
last_moment feed lines = unwrap_or (last_or None (filter_map (moment_in feed) lines)) 0

-- a pulse begins after all earlier ones of its radio, over swaps too
abbrev pub may_receive : Option RadioFields → ℕ → Reduction → List ScriptLine → Bool
may_receive None feed reduction lines = false
may_receive (Some radio) feed reduction lines = nat_le (least_after (pulses_of feed lines)) reduction.at

-- no moment of a server is below an earlier one
abbrev pub may_poll : Option ServerFields → ℕ → ℕ → List ScriptLine → Bool
may_poll None feed at lines = false
may_poll (Some server) feed at lines = nat_le (last_moment feed lines) at

-- nor is one of the leap second file
abbrev pub may_announce : Bool → ℕ → ℕ → List ScriptLine → Bool
may_announce is_leap feed at lines = is_leap && nat_le (last_moment feed lines) at

-- there are four receivers of each plan
abbrev pub may_swap : StationFields → Option RadioFields → List ScriptLine → Bool
may_swap station None lines = false
may_swap station (Some radio) lines = nat_lt (fitted station radio.plan lines) 4

-- whether a line may stand after these lines
abbrev pub is_valid : StationFields → List ScriptLine → ScriptLine → Bool
is_valid station lines (Pulse feed reduction) = may_receive (radio_of station feed) feed reduction lines
is_valid station lines (Ask feed at) = may_poll (server_of station feed) feed at lines
is_valid station lines (Answer feed at datagram) = may_poll (server_of station feed) feed at lines
is_valid station lines (Swap feed) = may_swap station (radio_of station feed) lines
is_valid station lines (Request connection arrived sent datagram) = true
is_valid station lines (Leap feed at leap_at) = may_announce (is_leap_feed station feed) feed at lines

-- the answer by which a receiver's list of answers grows with a reduction, if it grows
abbrev pub new_answer : History → Reduction → Option Answered
new_answer h reduction = slice_get (answers_of (with_reduction h reduction)) (length (answers_of h))

abbrev pub entry_received : ℕ → Option Answered → Option Entry
entry_received feed None = None
entry_received feed (Some heard) = Some (record { feed = feed; at = heard.at; what = Heard heard.kind })

abbrev pub due_of_radio : Option RadioFields → ℕ → Reduction → List ScriptLine → Option Entry
due_of_radio None feed reduction lines = None
due_of_radio (Some radio) feed reduction lines = entry_received feed (new_answer (history_of radio feed lines) reduction)

abbrev pub what_answered : Result TimeSample PollRefusal → What
what_answered (Ok sample) = Sample sample
what_answered (Err refusal) = Declined (code_of refusal)

abbrev pub entry_answered : ℕ → ℕ → Result TimeSample PollRefusal → Entry
entry_answered feed at judged = record { feed = feed; at = at; what = what_answered judged }

abbrev pub due_of_server : Option ServerFields → ℕ → ℕ → List ℕ → List ScriptLine → Option Entry
due_of_server None feed at datagram lines = None
due_of_server (Some server) feed at datagram lines =
    Some (entry_answered feed at (judge server.address (events_of server.address feed lines) at server.address datagram))

-- the entry that is due to a line after these lines: one for each answer of a receiver, one for each datagram of a server, and
-- one for each leap second that the file announces
abbrev pub due_to : StationFields → List ScriptLine → ScriptLine → Option Entry
due_to station lines (Pulse feed reduction) = due_of_radio (radio_of station feed) feed reduction lines
due_to station lines (Answer feed at datagram) = due_of_server (server_of station feed) feed at datagram lines
due_to station lines (Leap feed at leap_at) = Some (record { feed = feed; at = at; what = Notice leap_at })
due_to station lines _ = None

-- what each of some lines gives, by all the lines before it
abbrev pub each_after : {X A : Type 0} → (List X → X → List A) → List X → List X → List A
each_after f before [] = []
each_after f before (line ∷ more) = f before line ++ each_after f (before ++ line ∷ []) more

-- all entries that are due, in order
abbrev pub due : StationFields → List ScriptLine → List Entry
due station lines = each_after (λ before line. option_to_list (due_to station before line)) [] lines

-- those that are kept: the first ones, up to the limit
abbrev pub kept : StationFields → ℕ → List ScriptLine → List Entry
kept station limit lines = take limit (due station lines)

-- an entry was due when the journal had as many as the limit
abbrev pub is_full : StationFields → ℕ → List ScriptLine → Bool
is_full station limit lines = nat_lt limit (length (due station lines))

-- the page of the entries kept
abbrev pub page_after : StationFields → ℕ → List ScriptLine → PageFields
page_after station limit lines = page_of (settings_of station) (kept station limit lines)

-- an entry is printed where it is kept, with its number and the rate of the page after it
abbrev pub outcome_of_due : SettingsFields → ℕ → List Entry → Option Entry → Outcome
outcome_of_due settings limit before None = Nothing
outcome_of_due settings limit before (Some e) = if nat_lt (length before) limit then Kept (numbered_next settings before e) else Nothing

-- a line that was played, and whether the judging of its sender was kept; that is true where there was nothing to judge
pub record Played : Type 0 where
  pub line : ScriptLine
  pub kept : Bool

abbrev pub played_so : ScriptLine → Bool → Played
played_so script_line was_kept = record { line = script_line; kept = was_kept }

abbrev pub lines_of : List Played → List ScriptLine
lines_of played = map (λ p. p.line) played

-- what a script is played for: a station, of whose journal at most this many entries are kept
pub record ReplayCase : Type 0 where
  pub station : StationFields
  pub limit : ℕ

abbrev pub case_of : StationFields → ℕ → ReplayCase
case_of station limit = record { station = station; limit = limit }

-- the address of a client: 127.0.0.1 for connection 0, 127.0.0.2 for connection 1, and so on
abbrev pub sender_of : ℕ → ℕ
sender_of connection = 0x7f000001 + connection

-- the gate after a datagram of a client; one that is dropped is not judged
abbrev pub gate_with_datagram : Result Header WhyDropped → Gate → (ip at : ℕ) → Bool → Gate
gate_with_datagram (Ok request) gate ip at was_kept = after gate ip at was_kept
gate_with_datagram (Err why) gate ip at was_kept = gate

-- the gate after a line: a request is judged as it arrives
abbrev pub gate_with : Gate → ScriptLine → Bool → Gate
gate_with gate (Request connection arrived sent datagram) was_kept = gate_with_datagram (request_of datagram) gate (sender_of connection) arrived was_kept
gate_with gate _ was_kept = gate

-- the station's gate after all these lines
abbrev pub gate_after : StationFields → List Played → Gate
gate_after station played = fold (λ gate p. gate_with gate p.line p.kept) (gate_of station) played

-- a judging is not kept only where the request passes, the gap is not 0 and the gate's table has no pair of its sender
abbrev pub MayKeepSender : Result Header WhyDropped → Gate → (ip at : ℕ) → Bool → Type 0
MayKeepSender (Ok request) gate ip at was_kept = MayBeKept gate ip at was_kept
MayKeepSender (Err why) gate ip at was_kept = was_kept ≡ true

abbrev pub MayKeep : Gate → ScriptLine → Bool → Type 0
MayKeep gate (Request connection arrived sent datagram) was_kept = MayKeepSender (request_of datagram) gate (sender_of connection) arrived was_kept
MayKeep gate _ was_kept = was_kept ≡ true

-- the outcomes that a line may have after these lines: one, or two where an allocation for a new client may fail
abbrev pub MayBePlayed : StationFields → List Played → Played → Type 0
MayBePlayed station before played = MayKeep (gate_after station before) played.line played.kept

abbrev pub outcome_of_request : Result (List ℕ) WhyDropped → Bool → Outcome
outcome_of_request (Ok bytes) was_kept = Replied bytes was_kept
outcome_of_request (Err why) was_kept = Dropped why

-- what a valid line gives after these lines
abbrev pub outcome_of : StationFields → ℕ → List Played → ScriptLine → Bool → Outcome
outcome_of station limit before (Pulse feed reduction) was_kept = outcome_of_due (settings_of station) limit (due station (lines_of before)) (due_to station (lines_of before) (Pulse feed reduction))
outcome_of station limit before (Answer feed at datagram) was_kept = outcome_of_due (settings_of station) limit (due station (lines_of before)) (due_to station (lines_of before) (Answer feed at datagram))
outcome_of station limit before (Leap feed at leap_at) was_kept = outcome_of_due (settings_of station) limit (due station (lines_of before)) (due_to station (lines_of before) (Leap feed at leap_at))
outcome_of station limit before (Ask feed at) was_kept = Asked (layout (request_header at))
outcome_of station limit before (Swap feed) was_kept = Nothing
outcome_of station limit before (Request connection arrived sent datagram) was_kept =
    let code = code_for (gate_after station before) (sender_of connection) arrived in
    outcome_of_request (reply_to station.keys code (page_after station limit (lines_of before)) datagram arrived sent) was_kept

abbrev pub outcome : StationFields → ℕ → List Played → Played → Outcome
outcome station limit before played = outcome_of station limit before played.line played.kept
