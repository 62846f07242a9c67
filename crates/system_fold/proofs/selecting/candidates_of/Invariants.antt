-- What stays true in the loops of `selecting::candidates_of`.
use Rattle.std.proofs.Common.{◌≡◌, take, map}
use Rattle.std.specs.Prelude.{IsTrue}
use Rattle.select_core.specs.Selection.{are_measured}
use Rattle.system_fold.specs.Selecting.{candidate_of}
use Rattle.system_fold.proofs.selecting.candidates_of.Given as goal

abbrev pub invariant-loop-source : goal.invariant-loop-source
invariant-loop-source l = (l.candidates.items ≡ map (candidate_of l.now) (take l.source-index l.fit)) × IsTrue (are_measured l.candidates.items)
