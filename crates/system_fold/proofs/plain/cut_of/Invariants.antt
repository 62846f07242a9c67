-- What stays true in the loops of `plain::cut_of`.
use Rattle.std.proofs.Common.{◌≡◌, take}
use Rattle.system_fold.specs.Leaps.{cut_of}
use Rattle.system_fold.proofs.plain.cut_of.Given as goal

abbrev pub invariant-loop-end : goal.invariant-loop-end
invariant-loop-end l = l.cut ≡ cut_of (take l.end l.journal)
