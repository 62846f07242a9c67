-- What stays true in the loop of `returning::give_back_logs`.
use Rattle.std.proofs.Common.{◌≡◌, length, map}
use Rattle.std.specs.Vec.Iter.{into_iter_items, into_iter_len}
use Rattle.outside_traits.specs.Openings.{OutsideState}
use Rattle.outside_traits.specs.ManyOut.{AreOut, GivesAllBack}
use Rattle.station_gear.specs.Gears.{log_states}
use Rattle.station_gear.proofs.returning.give_back_logs.Given as goal

abbrev pub invariant-loop-log : goal.invariant-loop-log
invariant-loop-log g l = record {
  out : AreOut (g.O.Outside.state l.outside).openings (map g.O.Log.Source.opening (into_iter_items l.log-iterator));
  back : (later : OutsideState) →
      GivesAllBack (g.O.Outside.state l.outside) later (map g.O.Log.Source.opening (into_iter_items l.log-iterator)) (log_states g.O.Log.Source.state (into_iter_items l.log-iterator)) →
      GivesAllBack (g.O.Outside.state l.initial.outside) later (map g.O.Log.Source.opening (into_iter_items l.initial.log-iterator)) (log_states g.O.Log.Source.state (into_iter_items l.initial.log-iterator));
  size : length (into_iter_items l.log-iterator) ≡ into_iter_len l.log-iterator;
  gate : g.O.Outside.gate_out l.outside ≡ g.O.Outside.gate_out l.initial.outside;
}
