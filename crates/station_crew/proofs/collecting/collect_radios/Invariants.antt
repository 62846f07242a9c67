-- The loop of `collecting::collect_radios`.
use Rattle.std.proofs.Common.{◌≡◌, ◌+◌, ◌≤◌, ◌++◌, length, map}
use Rattle.std.specs.Prelude.{vec_capacity, vec_len}
use Rattle.std.specs.Vec.Iter.{into_iter_items}
use Rattle.station_crew.specs.Collecting.{log_of, radio_pass}
use Rattle.station_crew.proofs.collecting.collect_radios.Given as goal

abbrev pub invariant-loop-job : goal.invariant-loop-job
invariant-loop-job g l = record {
  logs : l.logs.items ++ map log_of (into_iter_items l.job-iterator) ≡ l.initial.logs.items ++ map log_of (into_iter_items l.initial.job-iterator);
  works : l.works.items ++ map (λ j. j.work) (into_iter_items l.job-iterator) ≡ l.initial.works.items ++ map (λ j. j.work) (into_iter_items l.initial.job-iterator);
  passes : l.feeds.items ++ map radio_pass (into_iter_items l.job-iterator) ≡ l.initial.feeds.items ++ map radio_pass (into_iter_items l.initial.job-iterator);
  logs_room : vec_len l.logs + length (into_iter_items l.job-iterator) ≤ vec_capacity l.logs;
  works_room : vec_len l.works + length (into_iter_items l.job-iterator) ≤ vec_capacity l.works;
  room : vec_len l.feeds + length (into_iter_items l.job-iterator) ≤ vec_capacity l.feeds;
  same : vec_capacity l.feeds ≡ vec_capacity l.initial.feeds;
}
