-- What the search leaves open of `state::Responder::serve`.
use Rattle.std.proofs.Common.{refl, rules}
use Rattle.responder.proofs.TurnLaws.{serving_more, serving_none, serves_some}
use Rattle.responder.proofs.state.Responder.serve.Goals as goal

pub loop-init : goal.loop-init
loop-init g c = record {
  same = record { link = refl; table = refl; same = refl; keys = refl };
  serving = serving_none _ _ refl refl refl refl refl refl;
}

pub returns-then-not-turn-clause-serves : goal.returns-then-not-turn-clause-serves
returns-then-not-turn-clause-serves g c =
    serves_some _ _ _ c.loop.counter c.args.budget c.loop.served c.turn.new.served (search rules) c.loop.invariant.serving c.if-not-turn.ensures.stops

pub loop-preserved : goal.loop-preserved
loop-preserved g c = record {
  same = search rules;
  serving = serving_more _ _ _ c.loop.counter c.loop.served c.turn.new.served c.loop.invariant.serving c.if-not-turn.ensures.goes;
}
