-- What stays true in the loops of `figures::jitter2_of`.
use Rattle.std.proofs.Common.{◌≡◌, ◌≤◌, ◌*◌, ◌^◌, take, sum_by}
use Rattle.tick_units.specs.Units.{square}
use Rattle.clock_filter.proofs.figures.jitter2_of.Given as goal

abbrev pub invariant-loop-taken : goal.invariant-loop-taken
invariant-loop-taken l = (l.sum ≡ sum_by (λ x. square x.sample.offset l.best.sample.offset) (take l.taken-index l.others)) × (l.sum ≤ l.taken-index * 2 ^ 80)
