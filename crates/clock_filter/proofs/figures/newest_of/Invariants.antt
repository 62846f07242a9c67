-- What stays true in the loops of `figures::newest_of`.
use Rattle.std.proofs.Common.{◌≡◌, ◌∷◌, take}
use Rattle.clock_filter.specs.Figures as figures
use Rattle.clock_filter.proofs.figures.newest_of.Given as goal

abbrev pub invariant-loop-taken : goal.invariant-loop-taken
invariant-loop-taken l = l.newest ≡ figures.newest_of (l.best ∷ take l.taken-index l.others)
