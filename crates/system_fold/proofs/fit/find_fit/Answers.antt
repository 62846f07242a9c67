-- What the search leaves open of `fit::find_fit`.
use Rattle.std.proofs.Common.{length, refl}
use Rattle.system_fold.specs.Fit.{fit_source}
use Rattle.system_fold.proofs.FitLaws.{fit-none, fit-push, one-longer}
use Rattle.system_fold.proofs.SweepLaws.{fit-number, room-next, standing-all, standing-first, standing-next}
use Rattle.system_fold.proofs.fit.find_fit.Goals as goal

pub loop-index-init : goal.loop-index-init
loop-index-init c = record {
  sources = fit-none c.args.cut c.args.now c.clear.new.self c.clear.ensures;
  standing = standing-first c.args.now c.clear.new.self c.args.sweep.now c.clear.ensures;
}

pub look_at-requires-clause-room : goal.look_at-requires-clause-room
look_at-requires-clause-room c = room-next c.args.cut c.args.now c.loop-index.index c.args.feeds.now c.loop-index.fit c.args.sweep.now c.loop-index.sweep c.loop-index-test.true c.requires.few c.requires.standing c.loop-index.invariant.sources c.loop-index.invariant.standing

pub loop-index-preserved : goal.loop-index-preserved
loop-index-preserved c =
    let feed = c.index-feeds-index.result in
    let source = fit_source c.args.cut c.args.now (c.loop-index.index, feed) in
    record {
      sources = fit-push c.args.cut c.args.now c.args.feeds.now c.loop-index.index feed c.loop-index.fit _ source c.loop-index-test.true c.index-feeds-index.is c.loop-index.invariant.sources refl c.look_at.ensures.source c.look_at.ensures.fit (one-longer c.loop-index.fit _ source c.look_at.ensures.fit);
      standing = standing-next c.args.cut c.args.now c.loop-index.index c.args.feeds.now c.loop-index.fit c.look_at.new.fit c.args.sweep.now c.loop-index.sweep c.look_at.new.sweep source c.loop-index-test.true c.loop-index.invariant.sources c.loop-index.invariant.standing (fit-number c.args.cut c.args.now c.loop-index.index feed) c.look_at.ensures.sweep c.look_at.ensures.fit;
    }

pub returns-clause-sweep : goal.returns-clause-sweep
returns-clause-sweep c = standing-all c.args.now (length c.args.feeds.now) c.loop-index.index c.loop-index.fit c.args.sweep.now c.loop-index.sweep c.loop-index-test.false c.requires.standing c.loop-index.invariant.standing
