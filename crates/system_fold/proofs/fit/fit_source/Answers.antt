-- What the search leaves open of `fit::fit_source`.
use Rattle.std.proofs.Common.{◌∙◌, sym}
use Rattle.system_fold.proofs.FitLaws.{newest-by, fit-by}
use Rattle.system_fold.proofs.fit.fit_source.Goals as goal

pub is_fit-requires-clause-moment : goal.is_fit-requires-clause-moment
is_fit-requires-clause-moment c = newest-by c.args.cut c.args.now c.args.feed.now c.in_ok-figures.figures c.requires (sym c.in_ok-figures.was ∙ c.ready.ensures.value c.args.feed.now.filter c.requires.last)

pub returns-then-is_fit-clause-fit : goal.returns-then-is_fit-clause-fit
returns-then-is_fit-clause-fit c = fit-by c.args.cut c.args.now _ c.args.feed.now c.ready.result c.requires c.in_ok-figures.was (c.ready.ensures.value c.args.feed.now.filter c.requires.last) c.ready.ensures.timely c.ready.ensures.jitter (c.ready.ensures.measured c.args.feed.now.filter c.requires.last c.requires.valid) (sym c.if-is_fit.true ∙ c.is_fit.ensures)
