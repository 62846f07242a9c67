-- What stays true in the loops of `figures::dispersion_of`.
use Rattle.std.proofs.Common.{◌≡◌}
use Rattle.clock_filter.specs.Figures as figures
use Rattle.clock_filter.proofs.StageLaws.{Within}
use Rattle.clock_filter.proofs.figures.dispersion_of.Given as goal

abbrev pub invariant-loop-stage : goal.invariant-loop-stage
invariant-loop-stage l = (l.sum ≡ figures.staged l.stage l.now l.held) × Within l.stage l.sum
