-- The invariants of the loop of `rules::has_stray_marker`.
use Rattle.std.proofs.Common.{◌≡◌, ◌-◌, ◌||◌, List, drop}
use Rattle.std.specs.List.{list_any, range_with_len}
use Rattle.tick_units.specs.declared.marks.Mark.{Mark}
use Rattle.frame_rules.specs.Words.{has_long}
use Rattle.plan_wwvb.specs.Rules.{has_stray_marker}
use Rattle.plan_wwvb.proofs.MarkerLaws.{is_stray}
use Rattle.plan_wwvb.proofs.rules.has_stray_marker.Given as goal

-- what is left decides
abbrev pub invariant-loop-place : goal.invariant-loop-place
invariant-loop-place g l = (marks : List Mark) → g.P.Places.stands_for l.segment marks → (list_any (is_stray marks) (range_with_len l.place (61 - l.place)) || has_long (drop 61 marks)) ≡ has_stray_marker marks
