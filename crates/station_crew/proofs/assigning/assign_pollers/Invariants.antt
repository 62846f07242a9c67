-- The loop of `assigning::assign_pollers`.
use Rattle.std.proofs.Common.{◌≡◌, ◌+◌, ◌≤◌, ◌++◌, length, map, take}
use Rattle.std.specs.Prelude.{vec_capacity, vec_len}
use Rattle.station_crew.specs.Collecting.{poll_pass, server_link, server_of}
use Rattle.station_crew.proofs.assigning.assign_pollers.Given as goal

abbrev pub invariant-loop : goal.invariant-loop
invariant-loop g l = record {
  links : map server_link l.jobs.items ++ l.links.items ≡ l.initial.links.items;
  servers : map server_of l.jobs.items ≡ take (vec_len l.jobs) l.station.servers;
  passes : map poll_pass l.jobs.items ++ l.feeds.items ≡ l.initial.feeds.items;
  left : l.counter + vec_len l.links ≡ l.count;
  whole : vec_len l.jobs + vec_len l.links ≡ length l.station.servers;
  enough : vec_len l.links ≤ vec_len l.feeds;
  room : vec_len l.jobs + vec_len l.links ≤ vec_capacity l.jobs;
  links_room : vec_capacity l.links ≡ vec_capacity l.initial.links;
  feeds_room : vec_capacity l.feeds ≡ vec_capacity l.initial.feeds;
}
