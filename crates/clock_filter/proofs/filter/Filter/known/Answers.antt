-- What the search leaves open of `filter::Filter::known`.
use Rattle.std.proofs.Common.{◌∙◌, sym, subst}
use Rattle.std.specs.Prelude.{IfSome, Option}
use Rattle.clock_filter.specs.Bounds.{IsMeasured, IsTimely}
use Rattle.clock_filter.specs.declared.figures.Figures.{Figures}
use Rattle.clock_filter.proofs.KnownLaws.{known_timely, known_measured}
use Rattle.clock_filter.proofs.filter.Filter.known.Goals as goal

pub returns-then-cut-self-clause-timely : goal.returns-then-cut-self-clause-timely
returns-then-cut-self-clause-timely c = subst (λ (o : Option Figures). IfSome o (IsTimely c.args.cut)) (sym c.as_ref.ensures.value) (rw (c.if-cut-self.true) (known_timely c.self.inside.cut _ c.self.inside.known c.self.invariant.0))

pub returns-then-cut-self-clause-measured : goal.returns-then-cut-self-clause-measured
returns-then-cut-self-clause-measured c = λ samples stands valid. subst (λ (o : Option Figures). IfSome o IsMeasured) (sym c.as_ref.ensures.value) (known_measured c.self.inside.cut _ samples c.self.inside.known c.self.invariant.0 (c.self.view_is ∙ stands.last) valid)
