-- The invariants of the loop of `segment::breaks_spacing`.
use Rattle.std.proofs.Common.{◌≡◌, length}
use Rattle.frame_rules.specs.MarkRules.{breaks_spacing}
use Rattle.frame_rules.proofs.segment.breaks_spacing.Given as goal

-- what is left decides
abbrev pub invariant-marks : goal.invariant-marks
invariant-marks l = breaks_spacing l.rest ≡ breaks_spacing l.marks

abbrev pub decreases-marks : goal.decreases-marks
decreases-marks l = length l.rest
