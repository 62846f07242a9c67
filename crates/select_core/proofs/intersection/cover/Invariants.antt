-- What stays true in the loops of `intersection::cover`.
use Rattle.std.proofs.Common.{◌≡◌, ◌≤◌, take}
use Rattle.select_core.specs.Selection as selection
use Rattle.select_core.proofs.intersection.cover.Given as goal

abbrev pub invariant-loop-c : goal.invariant-loop-c
invariant-loop-c l = (l.count ≡ selection.cover (take l.c-index l.candidates) l.point) × (l.count ≤ l.c-index)
