-- What an outside in memory reports, and which log and which link it hands out.
use Rattle.std.specs.Prelude.{◌≡◌, ℕ, ◌+◌, Bool, Option, None, Some, unwrap_or, List, slice_get, slice_set}
use Rattle.std.specs.List.{position, remove}
use Rattle.std.specs.Option.{is_none}
use Rattle.std.specs.Str.{bytes_eq}
use Rattle.std.specs.String.{string_bytes}
use Rattle.outside_traits.specs.Openings.{OutsideState}
use Rattle.memory_outside.specs.MemorySource.{source_state, source_calls}
use Rattle.memory_outside.specs.MemoryLink.{link_state, link_calls, link_book, hearings_of, moments_of}
use Rattle.memory_links.specs.declared.calls.Calls.{Calls}
use Rattle.memory_outside.specs.declared.memory_source.MemorySource.{MemorySource}
use Rattle.memory_outside.specs.declared.memory_link.MemoryLink.{MemoryLink}
use Rattle.memory_outside.specs.declared.memory_outside.NamedLog.{NamedLog}
use Rattle.memory_outside.specs.declared.memory_outside.MemoryOutside.{MemoryOutside}

abbrev pub outside_state : {G : Type 0} → MemoryOutside G → OutsideState
outside_state s = record { openings = s.ledger.openings; room = s.ledger.room; faults = s.faults }

abbrev pub outside_calls : {G : Type 0} → MemoryOutside G → Calls
outside_calls s = s.calls

-- the logs that were not handed out yet, in order
abbrev pub logs_of : {G : Type 0} → MemoryOutside G → List NamedLog
logs_of s = s.logs.items

-- the links in their places, each of which is empty while its link is out
abbrev pub links_of : {G : Type 0} → MemoryOutside G → List (Option MemoryLink)
links_of s = s.links.items

-- the place of the link that is handed out next
abbrev pub next_link : {G : Type 0} → MemoryOutside G → ℕ
next_link s = s.next

-- the gate, where it is not out
abbrev pub gate_of : {G : Type 0} → MemoryOutside G → Option G
gate_of s = s.gate

abbrev pub is_gate_out : {G : Type 0} → MemoryOutside G → Bool
is_gate_out s = is_none s.gate

-- the link that stands in a place
abbrev pub stands_at : List (Option MemoryLink) → ℕ → Option MemoryLink
stands_at places place = unwrap_or (slice_get places place) None

-- a link that is put into its place
abbrev pub put_at : ℕ → MemoryLink → List (Option MemoryLink) → List (Option MemoryLink)
put_at place link places = slice_set places place (Some link)

abbrev pub has_name : List ℕ → NamedLog → Bool
has_name name named = bytes_eq (string_bytes named.name) name

-- the first of some logs that has this name is taken out, and the others stay
pub record TakesFirst (name : List ℕ) (before now : List NamedLog) (named : NamedLog) : Type 0 where
  pub place : ℕ
  pub first : position (has_name name) before ≡ Some place
  pub there : slice_get before place ≡ Some named
  pub others : now ≡ remove before place

-- none of them has this name, and all stay
abbrev pub TakesNone : List ℕ → List NamedLog → List NamedLog → Type 0
TakesNone name before now = (position (has_name name) before ≡ None) × (now ≡ before)

-- the first log of this name is handed out, as it is
pub record HandsOut (name : List ℕ) (before now : List NamedLog) (log : MemorySource) : Type 0 where
  pub named : NamedLog
  pub takes : TakesFirst name before now named
  pub state : source_state log ≡ source_state named.log
  pub calls : source_calls log ≡ source_calls named.log

-- the next link is taken out of its place
pub record TakesLink (before : List (Option MemoryLink)) (next : ℕ) (now : List (Option MemoryLink)) (next_now : ℕ) (link : MemoryLink) : Type 0 where
  pub there : stands_at before next ≡ Some link
  pub others : now ≡ slice_set before next None
  pub next_is : next_now ≡ next + 1

-- no link is left, and all stay
pub record TakesNoLink (before : List (Option MemoryLink)) (next : ℕ) (now : List (Option MemoryLink)) (next_now : ℕ) : Type 0 where
  pub none : stands_at before next ≡ None
  pub others : now ≡ before
  pub next_is : next_now ≡ next

-- the next link is handed out, as it is, and knows its place
pub record HandsOutLink (before : List (Option MemoryLink)) (next : ℕ) (now : List (Option MemoryLink)) (next_now : ℕ) (link : MemoryLink) : Type 0 where
  pub stood : MemoryLink
  pub takes : TakesLink before next now next_now stood
  pub state : link_state link ≡ link_state stood
  pub calls : link_calls link ≡ link_calls stood
  pub book : link_book link ≡ link_book stood
  pub hearings : hearings_of link ≡ hearings_of stood
  pub moments : moments_of link ≡ moments_of stood
  pub place : link.place ≡ next
