-- What stays true in the loop of `minutes::read_all`.
use Rattle.std.proofs.Common.{◌≡◌}
use Rattle.worker_tests.proofs.minutes.read_all.Given as goal

abbrev pub invariant-loop : goal.invariant-loop
invariant-loop l = l.pass.table ≡ l.cell.table
