-- What stays true in the loop of `opening::open_servers`.
use Rattle.std.proofs.Common.{◌≡◌, ◌≤◌, ◌-◌, None, length, map}
use Rattle.std.specs.Prelude.{vec_capacity, vec_len}
use Rattle.station_gear.specs.Gears.{servers_needed, link_states}
use Rattle.station_gear.specs.Opens.{HoldsOpenings}
use Rattle.station_gear.proofs.opening.open_servers.Given as goal

abbrev pub invariant-loop-servers : goal.invariant-loop-servers
invariant-loop-servers g l = record {
  openings : HoldsOpenings (servers_needed l.station) (map g.O.Net.Link.opening l.servers.items) (link_states g.O.Net.Link.state l.servers.items)
      (g.O.Outside.state l.fn.outside) (g.O.Outside.state l.outside) None;
  room : length l.station.servers ≤ vec_capacity l.servers;
  gate : g.O.Outside.gate_out l.outside ≡ g.O.Outside.gate_out l.fn.outside;
}

abbrev pub decreases-loop-servers : goal.decreases-loop-servers
decreases-loop-servers g l = length l.station.servers - vec_len l.servers
