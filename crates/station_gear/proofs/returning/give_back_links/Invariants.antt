-- What stays true in the loop of `returning::give_back_links`.
use Rattle.std.proofs.Common.{◌≡◌, length, map}
use Rattle.std.specs.Vec.Iter.{into_iter_items, into_iter_len}
use Rattle.outside_traits.specs.Openings.{OutsideState}
use Rattle.outside_traits.specs.ManyOut.{AreOut, GivesAllBack}
use Rattle.station_gear.specs.Gears.{link_states}
use Rattle.station_gear.proofs.returning.give_back_links.Given as goal

abbrev pub invariant-loop-link : goal.invariant-loop-link
invariant-loop-link g l = record {
  out : AreOut (g.O.Outside.state l.outside).openings (map g.O.Net.Link.opening (into_iter_items l.link-iterator));
  back : (later : OutsideState) →
      GivesAllBack (g.O.Outside.state l.outside) later (map g.O.Net.Link.opening (into_iter_items l.link-iterator)) (link_states g.O.Net.Link.state (into_iter_items l.link-iterator)) →
      GivesAllBack (g.O.Outside.state l.initial.outside) later (map g.O.Net.Link.opening (into_iter_items l.initial.link-iterator)) (link_states g.O.Net.Link.state (into_iter_items l.initial.link-iterator));
  size : length (into_iter_items l.link-iterator) ≡ into_iter_len l.link-iterator;
  gate : g.O.Outside.gate_out l.outside ≡ g.O.Outside.gate_out l.initial.outside;
}
