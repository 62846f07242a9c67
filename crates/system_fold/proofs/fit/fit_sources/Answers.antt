-- What the search leaves open of `fit::fit_sources`.
use Rattle.system_fold.proofs.FitLaws.{fit-push}
use Rattle.system_fold.proofs.fit.fit_sources.Goals as goal

-- src/fit.rt:51:5
pub loop-number-preserved : goal.loop-number-preserved
loop-number-preserved c = fit-push c.args.cut c.args.now c.args.feeds.now c.loop-number.number c.index-feeds-number.result c.loop-number.fit _ c.fit_source.result c.loop-number-test.true c.index-feeds-number.is c.loop-number.invariant c.fit_source.ensures.value c.fit_source.ensures.fit c.push_some.ensures.items c.push_some.ensures.len
