-- What the search leaves open of `ready::Ready::distance`.
use Rattle.std.proofs.Common.{◌≤ℤ◌, ℤ, pos, sym, subst}
use Rattle.clock_filter.proofs.ReadyLaws.{distance-least, distance-ready}
use Rattle.clock_filter.proofs.ready.Ready.distance.Goals as goal

pub returns-clause-value : goal.returns-clause-value
returns-clause-value c = distance-ready c.self.inside.figures c.args.self.now c.self.inside.dispersion c.self.inside.distance c.drift.result c.add.result c.args.now c.self.view_is c.self.invariant c.requires.delay c.requires.dispersion c.drift.ensures c.add.ensures

pub returns-clause-least : goal.returns-clause-least
returns-clause-least c = λ least. subst (λ (z : ℤ). pos 1 ≤ℤ z) (sym (returns-clause-value c)) (distance-least c.args.self.now c.args.now least)
