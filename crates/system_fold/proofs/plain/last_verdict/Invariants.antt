-- What stays true in the loops of `plain::last_verdict`.
use Rattle.std.proofs.Common.{◌≡◌, take}
use Rattle.system_fold.specs.Leaps.{last_verdict}
use Rattle.system_fold.proofs.plain.last_verdict.Given as goal

abbrev pub invariant-loop-e : goal.invariant-loop-e
invariant-loop-e l = l.last ≡ last_verdict (take l.e-index l.journal)
