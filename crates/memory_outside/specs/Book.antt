-- How a link in memory stores its events: rows of numbers, and the bytes of all datagrams in one list.
use Rattle.std.specs.Prelude.{◌≡◌, ℕ, ◌+◌, ◌≤◌, Option, None, Some, Bool, List, [], ◌∷◌, ◌++◌, length, take, drop, map, if◌then◌else◌}
use Rattle.std.specs.List.{sum_by}
use Rattle.outside_traits.specs.States.{NetEvent, Adds}
use Rattle.outside_traits.specs.States.NetEvent.{Came, Silent, Ended, Timed, Went}
use Rattle.memory_outside.specs.declared.book.Kind.{Kind}
use Rattle.memory_outside.specs.declared.book.Kind.TheVariants.{Heard, Nothing, Over, Clock, Posted}
use Rattle.memory_outside.specs.declared.book.Row.{Row}

-- an event of a kind, with the bytes of its datagram
abbrev pub event_with : Kind → List ℕ → NetEvent
event_with (Heard from at) bytes = Came from at bytes
event_with Nothing bytes = Silent
event_with Over bytes = Ended
event_with (Clock at) bytes = Timed at
event_with (Posted to) bytes = Went to bytes

-- the bytes of an event's datagram
abbrev pub bytes_of : NetEvent → List ℕ
bytes_of (Came from at bytes) = bytes
bytes_of Silent = []
bytes_of Ended = []
bytes_of (Timed at) = []
bytes_of (Went to bytes) = bytes

-- how many events are reported, and how many bytes of their datagrams
pub record EventRoom : Type 0 where
  pub events : ℕ
  pub bytes : ℕ

abbrev pub bytes_in : List NetEvent → ℕ
bytes_in events = sum_by (λ event. length (bytes_of event)) events

abbrev pub HasEventRoom : EventRoom → List NetEvent → Type 0
HasEventRoom room events = (length events ≤ room.events) × (bytes_in events ≤ room.bytes)

-- a row's bytes stand among all bytes
abbrev pub event_in : List ℕ → Row → NetEvent
event_in bytes row = event_with row.kind (take row.length (drop row.start bytes))

abbrev pub events_reported : Bool → List ℕ → List Row → Option (List NetEvent)
events_reported reports bytes rows = if reports then Some (map (event_in bytes) rows) else None

-- what a book reports, and its room
pub record Noted : Type 0 where
  pub events : Option (List NetEvent)
  pub room : EventRoom

abbrev pub HasBytes : List ℕ → List Row → Type 0
HasBytes bytes [] = Unit {0}
HasBytes bytes (row ∷ rows) = (row.start + row.length ≤ length bytes) × (length (bytes_of (event_in bytes row)) ≡ row.length) × HasBytes bytes rows

-- the rows' bytes stand among all bytes, which are no longer than they are together
pub record AreRows (bytes : List ℕ) (rows : List Row) : Type 0 where
  pub has_bytes : HasBytes bytes rows
  pub all_bytes : sum_by (λ row. row.length) rows ≡ length bytes

-- one event more, reported as long as there is room
pub record NotesEvent (before now : Noted) (event : NetEvent) : Type 0 where
  pub noted : Adds before.events now.events (event ∷ [])
  pub reported : (events : List NetEvent) → before.events ≡ Some events → HasEventRoom before.room (events ++ event ∷ []) →
      now.events ≡ Some (events ++ event ∷ [])
  pub same_room : now.room ≡ before.room

-- one row more, whose bytes stand from this place on
pub record IsNotedAs (event : NetEvent) (start : ℕ) (before now : List Row) : Type 0 where
  pub kind : Kind
  pub is : event_with kind (bytes_of event) ≡ event
  pub rows : now ≡ before ++ record { kind = kind; start = start; length = length (bytes_of event) } ∷ []
