-- What stays true in the loops of `clustering::settle`.
use Rattle.std.proofs.Common.{List}
use Rattle.arrayvec.specs.ArrayVec.{array_vec_len}
use Rattle.cluster_core.specs.Clusters.{Settles}
use Rattle.cluster_core.specs.declared.survivor.Survivor.{Survivor}
use Rattle.cluster_core.proofs.clustering.settle.Given as goal

abbrev pub invariant-loop-place : goal.invariant-loop-place
invariant-loop-place l = (settled : List Survivor) → Settles l.left.items settled → Settles l.initial.left.items settled

abbrev pub decreases-loop-place : goal.decreases-loop-place
decreases-loop-place l = array_vec_len l.left
