-- What the search leaves open of `station::open_gates`.
use Rattle.std.proofs.Common.{rules, ◌≡◌}
use Rattle.kiss_gate.specs.Gates.{Gate}
use Rattle.station_values.specs.Station.{gate_of}
use Rattle.feed_workers.proofs.ListLaws.{all_pushed}
use Rattle.station_crew.proofs.station.open_gates.Goals as goal

pub loop-preserved : goal.loop-preserved
loop-preserved c = record {
  alike = all_pushed (λ (z : Gate). z ≡ gate_of c.args.station.now) c.loop.gates.items c.push_reserved.new.self.items c.in-Ok.gate c.push_reserved.ensures.items c.loop.invariant.alike c.in-Ok.ensures;
  opened = search rules;
  room = search rules;
}
