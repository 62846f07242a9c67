-- The loop of `collecting::collect_responders`.
use Rattle.std.proofs.Common.{◌≡◌, ◌+◌, ◌≤◌, ◌++◌, length, map}
use Rattle.std.specs.Prelude.{vec_capacity, vec_len}
use Rattle.std.specs.Vec.Iter.{into_iter_items}
use Rattle.station_crew.specs.Collecting.{link_of, serve_pass}
use Rattle.station_crew.proofs.collecting.collect_responders.Given as goal

abbrev pub invariant-loop-job : goal.invariant-loop-job
invariant-loop-job g l = record {
  links : l.links.items ++ map link_of (into_iter_items l.job-iterator) ≡ l.initial.links.items ++ map link_of (into_iter_items l.initial.job-iterator);
  works : l.works.items ++ map (λ j. j.work) (into_iter_items l.job-iterator) ≡ l.initial.works.items ++ map (λ j. j.work) (into_iter_items l.initial.job-iterator);
  passes : l.readers.items ++ map serve_pass (into_iter_items l.job-iterator) ≡ l.initial.readers.items ++ map serve_pass (into_iter_items l.initial.job-iterator);
  links_room : vec_len l.links + length (into_iter_items l.job-iterator) ≤ vec_capacity l.links;
  works_room : vec_len l.works + length (into_iter_items l.job-iterator) ≤ vec_capacity l.works;
  room : vec_len l.readers + length (into_iter_items l.job-iterator) ≤ vec_capacity l.readers;
  same : vec_capacity l.readers ≡ vec_capacity l.initial.readers;
}
