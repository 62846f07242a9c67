-- What stays true in the loop of `World::run`.
use Rattle.station_world.proofs.RunLaws.{RunsOn}
use Rattle.station_world.proofs.world.World.run.Given as goal

abbrev pub invariant-loop-s : goal.invariant-loop-s
invariant-loop-s l = RunsOn l.initial.self l.steps l.s-index l.self
