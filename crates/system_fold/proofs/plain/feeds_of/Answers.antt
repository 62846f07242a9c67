-- What the search leaves open of `plain::feeds_of`.
use Rattle.std.proofs.Common.{arith}
use Rattle.system_fold.proofs.PlainLaws.{feeds-push-more}
use Rattle.system_fold.proofs.plain.feeds_of.Goals as goal

pub loop-number-preserved : goal.loop-number-preserved
loop-number-preserved c = (
  feeds-push-more c.args.settings.now c.sources-kinds.result.now c.args.journal.now c.loop-number.number _ c.loop-number.feeds.items _ _ c.loop-number-test.true c.sources-kinds.ensures.value c.loop-number.invariant.0 c.feed_of.ensures c.push.ensures.items,
  (let was = c.loop-number.invariant.1 in let len = c.push.ensures.len in omega arith),
)
