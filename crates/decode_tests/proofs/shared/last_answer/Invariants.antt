-- The invariants of the loop of `shared::last_answer`.
use Rattle.std.proofs.Common.{◌≤◌}
use Rattle.decode_tests.proofs.shared.last_answer.Given as goal

abbrev pub invariant-loop-reduction : goal.invariant-loop-reduction
invariant-loop-reduction g l = (goal.Receiver-dyn g (l.receiver.vtable, l.receiver.value)).least_start l.receiver.value ≤ l.least
