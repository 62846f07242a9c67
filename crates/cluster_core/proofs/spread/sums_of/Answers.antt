-- What the search leaves open of `spread::sums_of`.
use Rattle.cluster_core.proofs.SpreadLaws.{sums-more}
use Rattle.cluster_core.proofs.spread.sums_of.Goals as goal

pub loop-x-preserved : goal.loop-x-preserved
loop-x-preserved c =
    let more = sums-more c.loop-x.sums c.with-sums.result c.args.all.now c.loop-x.x-index c.x-item.result c.abs_diff-apart.result c.loop-x-test.true c.x-item.is c.loop-x.invariant.least c.loop-x.invariant.kept c.abs_diff-apart.ensures c.if-apart-gt-FARTHEST.false c.with-sums.ensures in
    record { least = more.0; kept = more.1 }
