-- What stays true in the loops of `spread::sums_of`.
use Rattle.std.proofs.Common.{◌≤ℤ◌, take}
use Rattle.std.specs.Prelude.{All}
use Rattle.cluster_core.specs.Sums.{AreSums}
use Rattle.cluster_core.proofs.spread.sums_of.Given as goal

abbrev pub invariant-loop-x : goal.invariant-loop-x
invariant-loop-x l = record {
  least : All (λ x. l.sums.base ≤ℤ x.offset) l.all;
  kept : AreSums l.sums (take l.x-index l.all);
}
