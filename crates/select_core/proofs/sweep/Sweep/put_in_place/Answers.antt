-- What the search leaves open of `sweep::Sweep::put_in_place`.
use Rattle.std.proofs.Common.{◌∙◌, ap, arith, length, subst}
use Rattle.select_core.specs.KeptSweep.{IsStanding}
use Rattle.select_core.proofs.StandingLaws.{above-place, below-place, differ-all, others-all, with-insert, with-set}
use Rattle.select_core.proofs.sweep.Sweep.put_in_place.Goals as goal

pub add-requires-clause-room : goal.add-requires-clause-room
add-requires-clause-room c =
    let cs = c.args.self.now in
    let feed = c.args.c.feed in
    let place = c.place_of-place.result in
    let before = below-place feed cs place c.place_of-place.ensures.point c.place_of-place.ensures.within in
    let after = above-place feed cs place c.place_of-place.ensures.point (subst IsStanding c.self.view_is c.self.invariant.0) (c.has_at.ensures.not_there c.if-has_at.false) in
    let room = c.requires.room in
    omega (arith, ap length (others-all feed cs (differ-all feed cs place c.place_of-place.ensures.within before after)))

pub add-requires-clause-after : goal.add-requires-clause-after
add-requires-clause-after c = above-place c.args.c.feed c.args.self.now c.place_of-place.result c.place_of-place.ensures.point (subst IsStanding c.self.view_is c.self.invariant.0) (c.has_at.ensures.not_there c.if-has_at.false)

pub returns-then-has_at : goal.returns-then-has_at
returns-then-has_at c =
    let there = c.has_at.ensures.there c.if-has_at.true in
    c.exchange.ensures ∙ with-set c.args.c.feed c.args.self.now c.place_of-place.result c.args.c there.0 there.1 (subst IsStanding c.self.view_is c.self.invariant.0).feeds

pub returns-else-has_at : goal.returns-else-has_at
returns-else-has_at c =
    let cs = c.args.self.now in
    let feed = c.args.c.feed in
    let place = c.place_of-place.result in
    let before = below-place feed cs place c.place_of-place.ensures.point c.place_of-place.ensures.within in
    let after = above-place feed cs place c.place_of-place.ensures.point (subst IsStanding c.self.view_is c.self.invariant.0) (c.has_at.ensures.not_there c.if-has_at.false) in
    c.add.ensures ∙ with-insert feed cs place c.args.c c.place_of-place.ensures.within before after
