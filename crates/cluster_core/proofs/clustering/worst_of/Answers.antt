-- What the search leaves open of `clustering::worst_of`.
use Rattle.std.proofs.Common.{arith}
use Rattle.cluster_core.proofs.WorstLaws.{worst-is}
use Rattle.cluster_core.proofs.clustering.worst_of.Goals as goal

pub returns-clause-place : goal.returns-clause-place
returns-clause-place c = (worst-is c.args.all.now c.loop-place.place c.loop-place.worst.place c.loop-place.worst.jitter (omega arith) (omega arith) c.loop-place.invariant).0
