-- The hearings and moments that a link in memory is still to give, and what it gives next.
use Rattle.std.specs.Prelude.{ℕ, List, [], ◌∷◌, drop, take, max}
use Rattle.outside_traits.specs.States.{NetEvent, LinkState}
use Rattle.outside_traits.specs.States.NetEvent.{Came, Silent, Ended}
use Rattle.memory_outside.specs.Book.{Noted}
use Rattle.memory_links.specs.declared.calls.Calls.{Calls}
use Rattle.memory_outside.specs.declared.event.Planned.{Planned}
use Rattle.memory_outside.specs.declared.event.Planned.TheVariants.{Datagram, Quiet}
use Rattle.memory_outside.specs.declared.memory_link.MemoryLink.{MemoryLink}

abbrev pub link_state : MemoryLink → LinkState
link_state s = record { events = s.book.events; latest = s.latest; faults = s.faults }

-- its events as it reports them, and its room for them
abbrev pub link_book : MemoryLink → Noted
link_book s = s.book

abbrev pub link_calls : MemoryLink → Calls
link_calls s = s.calls

-- the hearings to come
abbrev pub hearings_of : MemoryLink → List Planned
hearings_of s = drop s.heard s.hearings.items

-- the moments to come
abbrev pub moments_of : MemoryLink → List ℕ
moments_of s = drop s.reported s.moments.items

-- the next hearing, or the end where none is left; an arrival is raised to the last moment or arrival
abbrev pub next_event : ℕ → List Planned → NetEvent
next_event latest [] = Ended
next_event latest (Datagram from at bytes ∷ hearings) = Came from (max latest at) (take 1024 bytes.items)
next_event latest (Quiet ∷ hearings) = Silent

-- the next moment, raised to the last moment or arrival, or that one where none is left
abbrev pub next_moment : ℕ → List ℕ → ℕ
next_moment latest [] = latest
next_moment latest (moment ∷ moments) = max latest moment
