-- What stays true in the loops of `intersection::outside`.
use Rattle.std.proofs.Common.{◌≡◌, ◌≤◌, take}
use Rattle.select_core.specs.Selection as selection
use Rattle.select_core.proofs.intersection.outside.Given as goal

abbrev pub invariant-loop-c : goal.invariant-loop-c
invariant-loop-c l = (l.count ≡ selection.outside (take l.c-index l.candidates) l.low l.high) × (l.count ≤ l.c-index)
