-- What the search leaves open of `sweep::Sweep::remove`.
use Rattle.std.proofs.Common.{◌∙◌, subst}
use Rattle.select_core.specs.KeptSweep.{IsStanding}
use Rattle.select_core.proofs.StandingLaws.{above-place, below-place, differ-all, feeds-differ, others-all, others-remove}
use Rattle.select_core.proofs.sweep.Sweep.remove.Goals as goal

pub returns-then-has_at : goal.returns-then-has_at
returns-then-has_at c =
    let cs = c.args.self.now in
    let there = c.has_at.ensures.there c.if-has_at.true in
    c.take_out.ensures ∙ others-remove c.args.feed cs c.place_of-place.result there.0 there.1 (feeds-differ cs (subst IsStanding c.self.view_is c.self.invariant.0).feeds)

pub returns-else-has_at : goal.returns-else-has_at
returns-else-has_at c =
    let cs = c.args.self.now in
    let feed = c.args.feed in
    let place = c.place_of-place.result in
    let before = below-place feed cs place c.place_of-place.ensures.point c.place_of-place.ensures.within in
    let after = above-place feed cs place c.place_of-place.ensures.point (subst IsStanding c.self.view_is c.self.invariant.0) (c.has_at.ensures.not_there c.if-has_at.false) in
    others-all feed cs (differ-all feed cs place c.place_of-place.ensures.within before after)
