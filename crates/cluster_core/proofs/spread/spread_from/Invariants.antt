-- What stays true in the loops of `spread::spread_from`.
use Rattle.std.proofs.Common.{◌≡◌, ◌≤◌, ◌*◌, ◌^◌, take, sum_by}
use Rattle.tick_units.specs.Units.{square}
use Rattle.cluster_core.proofs.spread.spread_from.Given as goal

abbrev pub invariant-loop-y : goal.invariant-loop-y
invariant-loop-y l = (l.sum ≡ sum_by (λ y. square y.offset l.x.offset) (take l.y-index l.all)) × (l.sum ≤ l.y-index * 2 ^ 80)
