-- The invariants of the loop of `segment::breaks_spacing_to`.
use Rattle.std.proofs.Common.{◌≡◌, length}
use Rattle.frame_rules.specs.MarkRules.{breaks_spacing_to}
use Rattle.frame_rules.proofs.segment.breaks_spacing_to.Given as goal

-- what is left decides
abbrev pub invariant-marks : goal.invariant-marks
invariant-marks l = breaks_spacing_to l.rest l.close ≡ breaks_spacing_to l.marks l.close

abbrev pub decreases-marks : goal.decreases-marks
decreases-marks l = length l.rest
