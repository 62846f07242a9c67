-- What the search leaves open of `drill::run_drill`.
use Rattle.std.proofs.Common.{inr}
use Rattle.station_report.proofs.DrillLaws.{drills}
use Rattle.radio_engine.proofs.drill.run_drill.Goals as goal

pub returns-in-Ok-serve_day-clause-runs : goal.returns-in-Ok-serve_day-clause-runs
returns-in-Ok-serve_day-clause-runs g c =
    let drilled = c.in-Ok-serve_day.ensures.drilled c.args.seed c.in-Ok-day_equipment.ensures.gear in
    inr (drills c.args.seed c.args.limit c.in-Ok-serve_day.done _ _ _ _ _ c.in-Ok-serve_day.ensures.same drilled c.finish_drilled.ensures.finishes)
