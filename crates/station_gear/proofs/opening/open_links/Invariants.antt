-- What stays true in the loop of `opening::open_links`.
use Rattle.std.proofs.Common.{◌≡◌, ◌≤◌, ◌-◌, None, length, map}
use Rattle.std.specs.Prelude.{vec_capacity, vec_len}
use Rattle.station_gear.specs.Gears.{links_needed, link_states}
use Rattle.station_gear.specs.Opens.{HoldsOpenings}
use Rattle.station_gear.proofs.opening.open_links.Given as goal

abbrev pub invariant-loop-row : goal.invariant-loop-row
invariant-loop-row g l = record {
  openings : HoldsOpenings (links_needed l.station) (map g.O.Net.Link.opening l.links.items) (link_states g.O.Net.Link.state l.links.items)
      (g.O.Outside.state l.fn.outside) (g.O.Outside.state l.outside) None;
  room : length l.station.links ≤ vec_capacity l.links;
  gate : g.O.Outside.gate_out l.outside ≡ g.O.Outside.gate_out l.fn.outside;
}

abbrev pub decreases-loop-row : goal.decreases-loop-row
decreases-loop-row g l = length l.station.links - vec_len l.links
