-- What stays true in the loops of `serve::cause::with_works`.
use Rattle.std.proofs.Common.{◌≡◌, ◌+◌, List, drop}
use Rattle.station_report.specs.Crewing.{HasLeast}
use Rattle.station_report.specs.Headline.{each_cause}
use Rattle.command_ends.specs.declared.ending.Ending.{Ending}
use Rattle.station_report.proofs.EachLaws.{HasLooked}
use Rattle.station_report.proofs.cause.with_works.Given as goal

-- the one found so far is reported of those before and of the workers looked at
abbrev pub invariant-loop-work : goal.invariant-loop-work
invariant-loop-work g l = (l.place ≡ l.first + l.work-index)
    × ((all : List Ending) → HasLeast all l.fn.found → HasLooked g.W.Work.cause all l.place (drop l.work-index l.works) (each_cause g.W.Work.cause l.first l.works) l.found)
