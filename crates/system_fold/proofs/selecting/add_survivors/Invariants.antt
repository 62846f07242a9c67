-- What stays true in the loops of `selecting::add_survivors`.
use Rattle.std.proofs.Common.{take}
use Rattle.system_fold.specs.Surviving.{AreSurvivors}
use Rattle.system_fold.proofs.selecting.add_survivors.Given as goal

abbrev pub invariant-loop-source : goal.invariant-loop-source
invariant-loop-source l = AreSurvivors l.chime l.now (take l.source-index l.fit) l.survivors
