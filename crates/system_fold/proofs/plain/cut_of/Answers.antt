-- What the search leaves open of `plain::cut_of`.
use Rattle.system_fold.proofs.PlainLaws.{cut-more}
use Rattle.system_fold.proofs.plain.cut_of.Goals as goal

pub loop-end-preserved : goal.loop-end-preserved
loop-end-preserved c = cut-more c.args.journal.now c.loop-end.end c.loop-end.cut _ c.passed.result c.loop-end-test.true c.loop-end.invariant c.passed.ensures c.max-cut.ensures
