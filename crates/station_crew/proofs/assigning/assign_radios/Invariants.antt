-- The loop of `assigning::assign_radios`.
use Rattle.std.proofs.Common.{◌≡◌, ◌+◌, ◌≤◌, ◌++◌, map}
use Rattle.std.specs.Prelude.{All, vec_capacity, vec_len}
use Rattle.station_crew.specs.Jobs.{IsAssigned}
use Rattle.station_crew.specs.Collecting.{log_of, radio_pass}
use Rattle.feed_workers.specs.Lists.{PairsPrefix}
use Rattle.station_crew.proofs.assigning.assign_radios.Given as goal

abbrev pub invariant-loop : goal.invariant-loop
invariant-loop g l = record {
  logs : map log_of l.jobs.items ++ l.logs.items ≡ l.initial.logs.items;
  passes : map radio_pass l.jobs.items ++ l.feeds.items ≡ l.initial.feeds.items;
  assigned : PairsPrefix (IsAssigned (λ b h. (goal.Receiver-dyn g (b.vtable, b.value)).stands_for b.value h) (λ b. (goal.Receiver-dyn g (b.vtable, b.value)).least_start b.value)) l.initial.receivers.items l.receivers.items l.jobs.items;
  blank : All (λ b. (goal.Receiver-dyn g (b.vtable, b.value)).least_start b.value ≡ 0) l.receivers.items;
  whole : l.counter + vec_len l.logs ≡ l.count;
  receivers : vec_len l.receivers ≡ vec_len l.logs;
  enough : vec_len l.logs ≤ vec_len l.feeds;
  room : vec_len l.jobs + vec_len l.logs ≤ vec_capacity l.jobs;
  logs_room : vec_capacity l.logs ≡ vec_capacity l.initial.logs;
  feeds_room : vec_capacity l.feeds ≡ vec_capacity l.initial.feeds;
}
