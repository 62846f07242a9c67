-- The openings that the rows of an outside in memory stand for: scaffolding, which no public clause needs.
use Rattle.std.specs.Prelude.{◌≡◌, ℕ, ◌+◌, ◌≤◌, Option, None, Some, IfSome, Bool, List, [], ◌∷◌, ◌++◌, length, take, drop, map, if◌then◌else◌}
use Rattle.std.specs.Option.{option_map}
use Rattle.std.specs.List.{sum_by}
use Rattle.outside_traits.specs.States.{Adds}
use Rattle.outside_traits.specs.Openings.{Wanted, State, Opening, Room, HasRoom, with_back}
use Rattle.outside_traits.specs.Openings.Wanted.{LogOf, LinkAt}
use Rattle.outside_traits.specs.Openings.State.{OfLog, OfLink}
use Rattle.memory_outside.specs.MemorySource.{source_state}
use Rattle.memory_outside.specs.MemoryLink.{link_state}
use Rattle.memory_outside.specs.declared.ledger.Port.{Port}
use Rattle.memory_outside.specs.declared.ledger.Seen.{Seen}
use Rattle.memory_outside.specs.declared.ledger.Seen.TheVariants.{Log, Link}
use Rattle.memory_outside.specs.declared.ledger.Row.{Row}

abbrev pub state_of : Seen → State
state_of (Log seen) = OfLog (source_state seen.value)
state_of (Link seen) = OfLink (link_state seen.value)

-- a link by its port, or a log by its name
abbrev pub wanted_by : List ℕ → Option Port → Wanted
wanted_by name None = LogOf name
wanted_by name (Some port) = LinkAt port.port port.start

-- a row's name stands among the names
abbrev pub opening_of : List ℕ → Row → Opening
opening_of names row = record {
  what = wanted_by (take row.name_len (drop row.name_at names)) row.port;
  opened = option_map state_of row.opened;
  back = option_map state_of row.back;
}

abbrev pub openings_reported : Bool → List ℕ → List Row → Option (List Opening)
openings_reported reports names rows = if reports then Some (map (opening_of names) rows) else None

-- what an outside in memory reports of its openings, and its room for them
pub record Book : Type 0 where
  pub openings : Option (List Opening)
  pub room : Room

-- each row's name stands among the names; a link has none
abbrev pub HasNames : List ℕ → List Row → Type 0
HasNames names [] = Unit {0}
HasNames names (row ∷ rows) = (row.name_at + row.name_len ≤ length names) × IfSome row.port (λ _. row.name_len ≡ 0) × HasNames names rows

-- the rows' names stand among the names, which are no longer than they are together
pub record AreRows (names : List ℕ) (rows : List Row) : Type 0 where
  pub has_names : HasNames names rows
  pub all_names : sum_by (λ row. row.name_len) rows ≡ length names

-- one opening more, reported as long as there is room
pub record Notes (before now : Book) (opening : Opening) : Type 0 where
  pub noted : Adds before.openings now.openings (opening ∷ [])
  pub reported : (openings : List Opening) → before.openings ≡ Some openings → HasRoom before.room (openings ++ opening ∷ []) →
      now.openings ≡ Some (openings ++ opening ∷ [])
  pub same_room : now.room ≡ before.room

-- the object of this number was given back
pub record PutsBack (before now : Book) (number : ℕ) (state : State) : Type 0 where
  pub noted : now.openings ≡ option_map (with_back number state) before.openings
  pub same_room : now.room ≡ before.room
