-- The rounds of a poller, and the entries that are due for the events of its link (RFC 5905, section 8; the rounds are this project's
-- own: no pacing, and up to eight hearings a round, so that a late or a strange datagram does not spoil the polls after it).
use Rattle.std.specs.Prelude.{◌≡◌, ℕ, ◌≤◌, ◌⊎◌, Bool, true, false, is_ok, Result, Ok, Err, List, [], ◌∷◌, ◌++◌, length}
use Rattle.std.specs.List.{flat_map}
use Rattle.outside_traits.specs.States.{NetEvent}
use Rattle.outside_traits.specs.States.NetEvent.{Came, Silent, Ended, Timed, Went}
use Rattle.outside_traits.specs.declared.outside.Address.{Address}
use Rattle.journal_entry.specs.declared.entry.Entry.{Entry}
use Rattle.journal_entry.specs.declared.entry.What.{What}
use Rattle.journal_entry.specs.declared.entry.What.TheVariants.{Sample, Declined}
use Rattle.ntp_packet.specs.Layout.{layout}
use Rattle.poll_core.specs.Formulas.{request_header}
use Rattle.poll_core.specs.Histories.{Event, judge}
use Rattle.poll_core.specs.Histories.Event.{Asked, Answered}
use Rattle.poll_core.specs.Refusals.{code_of}
use Rattle.poll_core.specs.declared.refusal.PollRefusal.{PollRefusal}
use Rattle.tick_units.specs.declared.sample.Sample.{Sample as SampleFields}

-- a poller's request is made at the moment that its link gives; a datagram that comes is an answer to be judged
abbrev pub exchanges_of : NetEvent → List Event
exchanges_of (Came from at bytes) = Answered at from bytes ∷ []
exchanges_of Silent = []
exchanges_of Ended = []
exchanges_of (Timed moment) = Asked moment ∷ []
exchanges_of (Went to bytes) = []

-- the requests and answers among a link's events
abbrev pub history_of : List NetEvent → List Event
history_of events = flat_map exchanges_of events

-- what a judged datagram is in the journal
abbrev pub what_of : Result SampleFields PollRefusal → What
what_of (Ok sample) = Sample sample
what_of (Err refusal) = Declined (code_of refusal)

-- the entry of a datagram that came after these events; other events have none
abbrev pub entry_after : ℕ → Address → List NetEvent → NetEvent → List Entry
entry_after feed server before (Came from at bytes) = record { feed = feed; at = at; what = what_of (judge server (history_of before) at from bytes) } ∷ []
entry_after feed server before Silent = []
entry_after feed server before Ended = []
entry_after feed server before (Timed moment) = []
entry_after feed server before (Went to bytes) = []

-- the entries of events that come after these
abbrev pub due_after : ℕ → Address → List NetEvent → List NetEvent → List Entry
due_after feed server before [] = []
due_after feed server before (event ∷ events) = entry_after feed server before event ++ due_after feed server (before ++ event ∷ []) events

-- one entry for each datagram, at its arrival: the sample or the refusal that it gives, by the requests and answers before it
abbrev pub due_link : ℕ → Address → List NetEvent → List Entry
due_link feed server events = due_after feed server [] events

-- a hearing after these events ends its round by itself: nothing came, the link's end, or an answer that is accepted
abbrev pub ends_round : Address → List NetEvent → NetEvent → Bool
ends_round server before (Came from at bytes) = is_ok (judge server (history_of before) at from bytes)
ends_round server before Silent = true
ends_round server before Ended = true
ends_round server before (Timed moment) = false
ends_round server before (Went to bytes) = false

abbrev pub is_hearing : NetEvent → Bool
is_hearing (Came from at bytes) = true
is_hearing Silent = true
is_hearing Ended = true
is_hearing (Timed moment) = false
is_hearing (Went to bytes) = false

-- hearings after these events, none of which ends the round by itself
abbrev pub GoOn : Address → List NetEvent → List NetEvent → Type 0
GoOn server before [] = Unit {0}
GoOn server before (event ∷ events) = (is_hearing event ≡ true) × (ends_round server before event ≡ false) × GoOn server (before ++ event ∷ []) events

-- the moment, and the request of that moment sent to the server
abbrev pub asking : Address → ℕ → List NetEvent
asking server moment = Timed moment ∷ Went server (layout (request_header moment)) ∷ []

-- a round: its moment, the hearings before the last one, and the last one
pub record Round : Type 0 where
  pub moment : ℕ
  pub earlier : List NetEvent
  pub last : NetEvent

abbrev pub events_of : Address → Round → List NetEvent
events_of server round = asking server round.moment ++ (round.earlier ++ round.last ∷ [])

abbrev pub events_in : Address → List Round → List NetEvent
events_in server rounds = flat_map (events_of server) rounds

-- a whole round after these events: its last hearing, and no earlier one, ends it; the eighth does in any case
pub record IsWhole (server : Address) (before : List NetEvent) (round : Round) : Type 0 where
  pub goes : GoOn server (before ++ asking server round.moment) round.earlier
  pub hearing : is_hearing round.last ≡ true
  pub few : length round.earlier ≤ 7
  pub ends : (ends_round server (before ++ (asking server round.moment ++ round.earlier)) round.last ≡ true) ⊎ (length round.earlier ≡ 7)

abbrev pub AreWhole : Address → List NetEvent → List Round → Type 0
AreWhole server before [] = Unit {0}
AreWhole server before (round ∷ rounds) = IsWhole server before round × AreWhole server (before ++ events_of server round) rounds

abbrev pub is_ended : NetEvent → Bool
is_ended (Came from at bytes) = false
is_ended Silent = false
is_ended Ended = true
is_ended (Timed moment) = false
is_ended (Went to bytes) = false

-- a round after which another may come
abbrev pub IsOpen : Round → Type 0
IsOpen round = is_ended round.last ≡ false

-- a round after these events that a fault cut: the request was not sent; or it was, and after some hearings one failed
abbrev pub IsCut : Address → List NetEvent → List NetEvent → Type 0
IsCut server before cut = (moment : ℕ) × ((cut ≡ Timed moment ∷ [])
    ⊎ ((heard : List NetEvent) × (cut ≡ asking server moment ++ heard) × GoOn server (before ++ asking server moment) heard × (length heard ≤ 7)))
