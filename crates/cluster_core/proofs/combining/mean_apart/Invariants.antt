-- What stays true in the loops of `combining::mean_apart`.
use Rattle.std.proofs.Common.{take}
use Rattle.cluster_core.proofs.MeanLaws.{AreSummed}
use Rattle.cluster_core.proofs.combining.mean_apart.Given as goal

abbrev pub invariant-loop-x : goal.invariant-loop-x
invariant-loop-x l = AreSummed l.base (take l.x-index l.survivors) l.x-index l.sum l.weights
