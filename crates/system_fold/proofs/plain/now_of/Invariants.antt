-- What stays true in the loops of `plain::now_of`.
use Rattle.std.proofs.Common.{◌≡◌, take}
use Rattle.system_fold.specs.Journal.{now_of}
use Rattle.system_fold.proofs.plain.now_of.Given as goal

abbrev pub invariant-loop-e : goal.invariant-loop-e
invariant-loop-e l = l.now ≡ now_of (take l.e-index l.journal)
