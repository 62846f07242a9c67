-- What the search leaves open of `sweep_tests::swept`.
use Rattle.std.proofs.Common.{ap, arith, length}
use Rattle.select_core.proofs.StandingLaws.{others-few, with-few}
use Rattle.fold_tests.proofs.sweep_tests.swept.Goals as goal

pub put-requires-clause-room : goal.put-requires-clause-room
put-requires-clause-room c = omega (arith, others-few c.c-item.result.feed c.loop-c.sweep)

pub loop-c-preserved : goal.loop-c-preserved
loop-c-preserved c = omega (arith, ap length c.put.ensures, with-few c.c-item.result c.loop-c.sweep)
