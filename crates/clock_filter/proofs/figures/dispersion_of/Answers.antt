-- What the search leaves open of `figures::dispersion_of`.
use Rattle.std.proofs.Common.{◌≡◌, ◌+◌, ◌<◌, ◌^◌, ◌+ℤ◌, unsigned_abs, arith, sym, ◌∙◌, ap, subst}
use Rattle.tick_units.specs.Units.{ceil_div}
use Rattle.clock_filter.specs.Figures.{staged}
use Rattle.clock_filter.proofs.StageLaws.{Within, within-none, within-more, within-small, staged-more}
use Rattle.clock_filter.proofs.figures.dispersion_of.Goals as goal

pub loop-stage-init : goal.loop-stage-init
unfolding staged
loop-stage-init c = (c.from-sum.ensures, subst (Within 0) (sym c.from-sum.ensures) within-none)

pub add-sum-requires : goal.add-sum-requires
add-sum-requires c =
    let more = within-more c.loop-stage.stage c.loop-stage.sum c.age_of.result (omega arith) c.age_of.ensures.small c.age_of.ensures.most c.loop-stage.invariant.1 in
    let small = within-small (c.loop-stage.stage + 1) _ (omega arith) more in
    subst (λ half. unsigned_abs (c.loop-stage.sum +ℤ half) < 2 ^ 70) (sym c.halved_up.ensures) small

pub loop-stage-preserved : goal.loop-stage-preserved
loop-stage-preserved c =
    let more = within-more c.loop-stage.stage c.loop-stage.sum c.age_of.result (omega arith) c.age_of.ensures.small c.age_of.ensures.most c.loop-stage.invariant.1 in
    let sum : c.add-sum.result ≡ c.loop-stage.sum +ℤ ceil_div c.age_of.result (2 ^ (c.loop-stage.stage + 1)) = c.add-sum.ensures ∙ ap (λ half. c.loop-stage.sum +ℤ half) c.halved_up.ensures in
    let stages = staged-more c.loop-stage.stage c.args.now c.args.held.now in
    (sum ∙ ap (λ was. was +ℤ ceil_div c.age_of.result (2 ^ (c.loop-stage.stage + 1))) c.loop-stage.invariant.0 ∙ ap (λ age. staged c.loop-stage.stage c.args.now c.args.held.now +ℤ ceil_div age (2 ^ (c.loop-stage.stage + 1))) c.age_of.ensures.value ∙ sym stages, subst (Within (c.loop-stage.stage + 1)) (sym sum) more)
