-- What the search leaves open of `spread::least_of`.
use Rattle.cluster_core.proofs.SpreadLaws.{least-all, least-more}
use Rattle.cluster_core.proofs.spread.least_of.Goals as goal

pub loop-x-preserved : goal.loop-x-preserved
loop-x-preserved c = least-more c.args.all.now c.loop-x.x-index c.x-item.result c.loop-x.least c.min-least.result c.loop-x-test.true c.x-item.is c.loop-x.invariant c.min-least.ensures

pub returns : goal.returns
returns c = least-all c.args.all.now c.loop-x.x-index c.loop-x.least c.loop-x-test.false c.loop-x.invariant
