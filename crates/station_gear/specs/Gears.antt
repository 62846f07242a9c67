-- The gear of a station: the logs and links that it needs, in their order, and the states that they report while open. A leap
-- second file is a log. All of it is this project's own.
use Rattle.std.specs.Prelude.{◌≡◌, ◌≤◌, ℕ, None, List, [], ◌++◌, length, map, vec_capacity}
use Rattle.std.specs.Option.{option_to_list}
use Rattle.outside_traits.specs.States.{SourceState, LinkState}
use Rattle.outside_traits.specs.Openings.{Wanted, State}
use Rattle.outside_traits.specs.Openings.Wanted.{LogOf, LinkAt}
use Rattle.outside_traits.specs.Openings.State.{OfLog, OfLink}
use Rattle.station_values.specs.Station.{StationFields}
use Rattle.station_gear.specs.declared.gear.Gear.{Gear}

-- the logs of its radios, by their names
abbrev pub logs_needed : StationFields → List Wanted
logs_needed of = map (λ radio. LogOf radio.log) of.radios

-- its leap second file, where it names one
abbrev pub leap_needed : StationFields → List Wanted
leap_needed of = map LogOf (option_to_list of.leap_file)

-- for each server a link on any free port, whose moments count from the station's start
abbrev pub servers_needed : StationFields → List Wanted
servers_needed of = map (λ server. LinkAt 0 of.top.start) of.servers

-- the links that it serves on, by their ports, whose moments count from the station's start
abbrev pub links_needed : StationFields → List Wanted
links_needed of = map (λ port. LinkAt port of.top.start) of.links

-- all that it opens, in order
abbrev pub wanted_by : StationFields → List Wanted
wanted_by of = logs_needed of ++ (leap_needed of ++ (servers_needed of ++ links_needed of))

-- what some logs, and some links, report at one moment
abbrev pub log_states : {L : Type 0} → (L → SourceState) → List L → List State
log_states state logs = map (λ log. OfLog (state log)) logs

abbrev pub link_states : {T : Type 0} → (T → LinkState) → List T → List State
link_states state links = map (λ link. OfLink (state link)) links

-- what the objects of a gear report, in the station's order
abbrev pub states_of : {L T : Type 0} → (L → SourceState) → (T → LinkState) → Gear L T → List State
states_of log link gear = log_states log gear.logs.items
    ++ (log_states log (option_to_list gear.leap) ++ (link_states link gear.servers.items ++ link_states link gear.links.items))

-- the numbers of their openings, in the station's order
abbrev pub numbers_of : {L T : Type 0} → (L → ℕ) → (T → ℕ) → Gear L T → List ℕ
numbers_of log link gear = map log gear.logs.items
    ++ (map log (option_to_list gear.leap) ++ (map link gear.servers.items ++ map link gear.links.items))

-- nothing is open, and there is room for all that the station has
pub record IsEmptyFor {L T : Type 0} (of : StationFields) (gear : Gear L T) : Type 0 where
  pub no_log : gear.logs.items ≡ []
  pub no_leap : gear.leap ≡ None
  pub no_server : gear.servers.items ≡ []
  pub no_link : gear.links.items ≡ []
  pub log_room : length of.radios ≤ vec_capacity gear.logs
  pub server_room : length of.servers ≤ vec_capacity gear.servers
  pub link_room : length of.links ≤ vec_capacity gear.links
