-- The loop of `assigning::assign_responders`.
use Rattle.std.proofs.Common.{◌≡◌, ◌+◌, ◌≤◌, ◌++◌, map}
use Rattle.std.specs.Prelude.{All, None, vec_capacity, vec_len}
use Rattle.std.specs.List.{range_with_len}
use Rattle.packet_auth.specs.Keys.{keys_of}
use Rattle.station_values.specs.Station.{gate_of}
use Rattle.station_crew.specs.Collecting.{link_of, number_of, serve_pass}
use Rattle.station_crew.proofs.assigning.assign_responders.Given as goal

abbrev pub invariant-loop : goal.invariant-loop
invariant-loop g l = record {
  links : map link_of l.jobs.items ++ l.links.items ≡ l.initial.links.items;
  passes : map serve_pass l.jobs.items ++ l.readers.items ≡ l.initial.readers.items;
  numbers : map number_of l.jobs.items ≡ range_with_len 0 (vec_len l.jobs);
  none : All (λ j. j.work.second ≡ None) l.jobs.items;
  keyed : All (λ j. keys_of j.responder.keys ≡ l.station.keys) l.jobs.items;
  gated : All (λ j. j.responder.clients ≡ gate_of l.station) l.jobs.items;
  alike : All (λ gate. gate ≡ gate_of l.station) l.gates.items;
  left : l.counter + vec_len l.links ≡ l.count;
  whole : vec_len l.jobs + vec_len l.links ≡ vec_len l.initial.links;
  gates : vec_len l.links ≤ vec_len l.gates;
  enough : vec_len l.links ≤ vec_len l.readers;
  few : vec_len l.jobs + vec_len l.links ≤ 8;
  room : vec_len l.jobs + vec_len l.links ≤ vec_capacity l.jobs;
  links_room : vec_capacity l.links ≡ vec_capacity l.initial.links;
  readers_room : vec_capacity l.readers ≡ vec_capacity l.initial.readers;
}
