-- What stays true in the loops of `fit::fit_sources`.
use Rattle.std.proofs.Common.{take}
use Rattle.system_fold.specs.Fit.{AreFit}
use Rattle.system_fold.proofs.fit.fit_sources.Given as goal

abbrev pub invariant-loop-number : goal.invariant-loop-number
invariant-loop-number l = AreFit l.cut l.now (take l.number l.feeds) l.fit
