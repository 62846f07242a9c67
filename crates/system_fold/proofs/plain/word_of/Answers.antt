-- What the search leaves open of `plain::word_of`.
use Rattle.system_fold.proofs.PlainLaws.{word-more}
use Rattle.system_fold.proofs.plain.word_of.Goals as goal

pub loop-e-preserved : goal.loop-e-preserved
loop-e-preserved c = word-more c.args.journal.now c.loop-e.e-index c.args.feed c.e-item.result c.loop-e.word _ c.loop-e-test.true c.e-item.is c.loop-e.invariant c.word_after-word.ensures
