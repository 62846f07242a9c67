-- The loop of `station::open_gates`.
use Rattle.std.proofs.Common.{◌≡◌, ◌≤◌}
use Rattle.std.specs.Prelude.{All, vec_capacity, vec_len}
use Rattle.station_values.specs.Station.{gate_of}
use Rattle.station_crew.proofs.station.open_gates.Given as goal

abbrev pub invariant-loop : goal.invariant-loop
invariant-loop l = record {
  alike : All (λ gate. gate ≡ gate_of l.station) l.gates.items;
  opened : vec_len l.gates ≡ l.counter;
  room : l.count ≤ vec_capacity l.gates;
}
