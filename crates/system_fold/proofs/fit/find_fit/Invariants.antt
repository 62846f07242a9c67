-- What stays true in the loops of `fit::find_fit`.
use Rattle.std.proofs.Common.{◌≡◌, ◌++◌, map, take}
use Rattle.system_fold.specs.Fit.{AreFit, from_feed}
use Rattle.system_fold.specs.Selecting.{candidate_of}
use Rattle.system_fold.proofs.fit.find_fit.Given as goal

abbrev pub invariant-loop-index : goal.invariant-loop-index
invariant-loop-index l = record {
  sources : AreFit l.cut l.now (take l.index l.feeds) l.fit;
  standing : l.sweep ≡ map (candidate_of l.now) l.fit ++ from_feed l.index l.fn.sweep;
}
