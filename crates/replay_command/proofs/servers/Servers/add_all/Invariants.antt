-- What stays true in the loops of `servers::Servers::add_all`.
use Rattle.std.proofs.Common.{◌≡◌, ◌≤◌, [], length, vec_capacity}
use Rattle.station_values.specs.Station.{IsStation}
use Rattle.replay_command.specs.KeptPlayer.{HasPolling, first_servers}
use Rattle.replay_command.proofs.servers.Servers.add_all.Given as goal

abbrev pub invariant-loop-place : goal.invariant-loop-place
invariant-loop-place l =
    HasPolling l.self.servers.items (first_servers l.place l.station) []
    × IsStation l.station
    × (l.count ≡ length l.station.servers)
    × (l.count ≤ vec_capacity l.self.servers)
    × (l.self.first ≡ length l.station.radios)
    × (l.least ≡ 0)
