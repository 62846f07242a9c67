-- What stays true in the loops of `clustering::worst_of`.
use Rattle.cluster_core.specs.Clusters.{selection_jitter}
use Rattle.cluster_core.proofs.WorstLaws.{IsWorstSoFar}
use Rattle.cluster_core.proofs.clustering.worst_of.Given as goal

abbrev pub invariant-loop-place : goal.invariant-loop-place
invariant-loop-place l = IsWorstSoFar (selection_jitter l.all) l.all l.place l.worst.place l.worst.jitter
