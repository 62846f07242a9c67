-- What the search leaves open of `plain::last_verdict`.
use Rattle.system_fold.proofs.PlainLaws.{verdict-more}
use Rattle.system_fold.proofs.plain.last_verdict.Goals as goal

pub loop-e-preserved : goal.loop-e-preserved
loop-e-preserved c = verdict-more c.args.journal.now c.loop-e.e-index c.e-item.result c.loop-e.last _ c.verdict_said.result c.loop-e-test.true c.e-item.is c.loop-e.invariant c.verdict_said.ensures c.or-last.ensures
