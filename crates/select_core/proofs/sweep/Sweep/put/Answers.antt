-- What the search leaves open of `sweep::Sweep::put`.
use Rattle.std.proofs.Common.{◌∙◌, subst}
use Rattle.select_core.specs.KeptSweep.{IsStanding}
use Rattle.select_core.proofs.StandingLaws.{with-set}
use Rattle.select_core.proofs.sweep.Sweep.put.Goals as goal

pub returns-then-has_at : goal.returns-then-has_at
returns-then-has_at c =
    let there = c.has_at.ensures.there c.if-has_at.true in
    c.exchange.ensures ∙ with-set c.args.c.feed c.args.self.now c.args.c.feed c.args.c there.0 there.1 (subst IsStanding c.self.view_is c.self.invariant.0).feeds
