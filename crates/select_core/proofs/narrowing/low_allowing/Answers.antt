-- What the search leaves open of `narrowing::low_allowing`.
use Rattle.std.proofs.Common.{◌∙◌}
use Rattle.select_core.proofs.SweepLaws.{edge-low}
use Rattle.select_core.proofs.narrowing.low_allowing.Goals as goal

pub returns : goal.returns
returns c = c.edge.ensures ∙ edge-low c.args.candidates.now c.args.lowers.now c.args.uppers.now c.args.allowed c.requires.measured c.requires.ends c.requires.allowed
