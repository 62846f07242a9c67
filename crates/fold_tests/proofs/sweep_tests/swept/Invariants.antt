-- What stays true in the loops of `sweep_tests::swept`.
use Rattle.std.proofs.Common.{◌≤◌, length}
use Rattle.fold_tests.proofs.sweep_tests.swept.Given as goal

abbrev pub invariant-loop-c : goal.invariant-loop-c
invariant-loop-c l = length l.sweep ≤ l.c-index
