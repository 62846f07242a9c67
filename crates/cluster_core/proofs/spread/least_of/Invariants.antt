-- What stays true in the loops of `spread::least_of`.
use Rattle.std.proofs.Common.{◌≤ℤ◌, take}
use Rattle.std.specs.Prelude.{All}
use Rattle.cluster_core.proofs.spread.least_of.Given as goal

abbrev pub invariant-loop-x : goal.invariant-loop-x
invariant-loop-x l = All (λ x. l.least ≤ℤ x.offset) (take l.x-index l.all)
