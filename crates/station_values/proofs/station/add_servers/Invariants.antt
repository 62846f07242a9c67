-- What stays true in the loops of `station::add_servers`.
use Rattle.std.proofs.Common.{◌≡◌, ◌++◌, map, take}
use Rattle.station_values.specs.KeptStation.{server_fields}
use Rattle.station_values.specs.Station.{kind_of_server}
use Rattle.station_values.proofs.station.add_servers.Given as goal

abbrev pub invariant-loop-server : goal.invariant-loop-server
invariant-loop-server l = l.settings ≡ record l.initial.settings { sources = l.initial.settings.sources ++ map (λ s. kind_of_server (server_fields s)) (take l.server-index l.servers) }
