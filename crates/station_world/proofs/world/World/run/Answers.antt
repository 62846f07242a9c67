-- What the search leaves open of `World::run`.
use Rattle.std.proofs.Common.{rules}
use Rattle.station_world.proofs.RunLaws.{may-first, runs-more, stops-here}
use Rattle.station_world.proofs.world.World.run.Goals as goal

pub step-requires : goal.step-requires
step-requires c = may-first c.args.self.now c.loop-s.self c.args.steps.now c.loop-s.s-index c.s-item.result c.loop-s-test.true c.s-item.is c.loop-s.invariant

pub loop-s-preserved : goal.loop-s-preserved
loop-s-preserved c =
    let ok = c.in_ok-step.ensures.ok in
    runs-more c.args.self.now c.loop-s.self c.step.new.self c.args.steps.now c.loop-s.s-index c.s-item.result c.loop-s-test.true c.s-item.is c.loop-s.invariant ok.0 ok.1 c.step.ensures.rises c.step.ensures.chained

pub returns-in_err-step-clause-err : goal.returns-in_err-step-clause-err
returns-in_err-step-clause-err c =
    let err = c.in_err-step.ensures.err in
    let stops = stops-here c.args.self.now c.loop-s.self c.step.new.self c.args.steps.now c.loop-s.s-index c.s-item.result c.in_err-step.field-0.0 c.loop-s-test.true c.s-item.is c.loop-s.invariant err.0 err.1 in
    search rules

pub returns-clause-chained : goal.returns-clause-chained
returns-clause-chained c = c.loop-s.invariant.chained
