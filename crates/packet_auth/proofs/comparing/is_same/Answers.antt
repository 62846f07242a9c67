use Rattle.packet_auth.proofs.DifferenceLaws.{one_more}
use Rattle.packet_auth.proofs.comparing.is_same.Goals as goal

pub loop-own-preserved : goal.loop-own-preserved
loop-own-preserved c = one_more _ _ _ _ _ _ _ _ c.in-Some.ensures.steps.0 c.in-Some.ensures.steps.1 c.loop-own.invariant
