-- The loop of `informing::inform_each`.
use Rattle.std.proofs.Common.{◌≡◌, length}
use Rattle.station_crew.specs.Informing.{WasInformed}
use Rattle.station_crew.proofs.InPlaceLaws.{RanUpTo}
use Rattle.station_crew.proofs.informing.inform_each.Given as goal

abbrev pub invariant-loop-i : goal.invariant-loop-i
invariant-loop-i g l = record {
  same : l.feeds ≡ l.initial.feeds;
  count : length l.jobs ≡ length l.initial.jobs;
  informed : RanUpTo (WasInformed l.initial.feeds) l.initial.jobs l.jobs l.i;
}
