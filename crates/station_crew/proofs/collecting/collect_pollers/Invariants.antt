-- The loop of `collecting::collect_pollers`.
use Rattle.std.proofs.Common.{◌≡◌, ◌+◌, ◌≤◌, ◌++◌, length, map}
use Rattle.std.specs.Prelude.{vec_capacity, vec_len}
use Rattle.std.specs.Vec.Iter.{into_iter_items}
use Rattle.station_crew.specs.Collecting.{server_link, poll_pass}
use Rattle.station_crew.proofs.collecting.collect_pollers.Given as goal

abbrev pub invariant-loop-job : goal.invariant-loop-job
invariant-loop-job g l = record {
  links : l.links.items ++ map server_link (into_iter_items l.job-iterator) ≡ l.initial.links.items ++ map server_link (into_iter_items l.initial.job-iterator);
  works : l.works.items ++ map (λ j. j.work) (into_iter_items l.job-iterator) ≡ l.initial.works.items ++ map (λ j. j.work) (into_iter_items l.initial.job-iterator);
  passes : l.feeds.items ++ map poll_pass (into_iter_items l.job-iterator) ≡ l.initial.feeds.items ++ map poll_pass (into_iter_items l.initial.job-iterator);
  links_room : vec_len l.links + length (into_iter_items l.job-iterator) ≤ vec_capacity l.links;
  works_room : vec_len l.works + length (into_iter_items l.job-iterator) ≤ vec_capacity l.works;
  room : vec_len l.feeds + length (into_iter_items l.job-iterator) ≤ vec_capacity l.feeds;
  same : vec_capacity l.feeds ≡ vec_capacity l.initial.feeds;
}
