-- The invariant of the loop in `counting_tests::receive_all`.
use Rattle.std.proofs.Common.{◌≤◌}
use Rattle.decode_tests.proofs.counting_tests.receive_all.Given as goal

abbrev pub invariant-loop-reduction : goal.invariant-loop-reduction
invariant-loop-reduction g l = g.T.Receiver.least_start l.receiver ≤ l.least
