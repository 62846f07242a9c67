-- What stays true in the loop of `drill::text::counts_of`.
use Rattle.std.proofs.Common.{take}
use Rattle.page_cell.specs.Claims.{of_feed}
use Rattle.station_report.specs.DrillScaffold.{Counted}
use Rattle.station_report.proofs.drill_text.counts_of.Given as goal

-- the entries so far are counted
abbrev pub invariant-loop-place : goal.invariant-loop-place
invariant-loop-place l = Counted (of_feed l.feed (take l.place l.journal.entries)) l.counts
