-- What the search leaves open of `filter::Filter::ready`.
use Rattle.std.proofs.Common.{◌∙◌}
use Rattle.clock_filter.proofs.KnownLaws.{known_timely, known_measured}
use Rattle.clock_filter.proofs.filter.Filter.ready.Goals as goal

pub returns-then-cut-self-clause-timely : goal.returns-then-cut-self-clause-timely
returns-then-cut-self-clause-timely c = rw (c.if-cut-self.true) (known_timely c.self.inside.cut _ c.self.inside.known c.self.invariant.0)

pub returns-then-cut-self-clause-measured : goal.returns-then-cut-self-clause-measured
returns-then-cut-self-clause-measured c = λ samples stands valid. known_measured c.self.inside.cut _ samples c.self.inside.known c.self.invariant.0 (c.self.view_is ∙ stands.last) valid

pub returns-else-cut-self-clause-timely : goal.returns-else-cut-self-clause-timely
returns-else-cut-self-clause-timely c = known_timely c.args.cut _ c.figures_from.result c.figures_from.ensures

pub returns-else-cut-self-clause-measured : goal.returns-else-cut-self-clause-measured
returns-else-cut-self-clause-measured c = λ samples stands valid. known_measured c.args.cut _ samples c.figures_from.result c.figures_from.ensures (c.as_slice.ensures.value ∙ c.self.view_is ∙ stands.last) valid
