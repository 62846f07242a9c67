-- What the search leaves open of `serve::run_serve`.
use Rattle.std.proofs.Common.{ℕ, List, inr, subst}
use Rattle.file_reader.specs.declared.reader.FileEnd.{FileEnd}
use Rattle.station_reader.specs.Faults.{Says}
use Rattle.command_ends.specs.Keeping.{OpensStation}
use Rattle.command_ends.specs.StationFile.{IsObstacle}
use Rattle.station_report.proofs.ServingLaws.{ends_at_station, ends_served, ends_unserved}
use Rattle.command_ends.proofs.StationFileLaws.{reported_by}
use Rattle.radio_engine.proofs.serve.run_serve.Goals as goal

pub returns-in-Err-clause-runs : goal.returns-in-Err-clause-runs
returns-in-Err-clause-runs g c =
    let cause = subst (λ (b : List ℕ). IsObstacle c.in-Ok-open_station.end b c.in-Err.obstacle) c.as_slice.ensures.value c.in-Err.ensures in
    inr (ends_at_station c.args.name.now c.args.orders _ (g.O.Outside.state c.open_station.new.outside) _ _ _ _ c.in-Ok-open_station.end _ c.in-Err.obstacle c.in-Ok-open_station.ensures.tried cause
    (c.finish_at.ensures.answers (reported_by c.in-Ok-open_station.end _ c.in-Err.obstacle cause)))

pub returns-in-Ok-serve-clause-runs : goal.returns-in-Ok-serve-clause-runs
returns-in-Ok-serve-clause-runs g c =
    let judged = c.in-Ok-judge.ensures in
    let opens = subst (λ (end : FileEnd). OpensStation c.args.name.now (g.O.Outside.state c.args.outside.now) (g.O.Outside.state c.open_station.new.outside) end c.open_station.new.text.items) judged.0 c.in-Ok-open_station.ensures.tried in
    inr (ends_served c.args.name.now c.args.orders _ _ _ _ _ _ c.in-Ok-judge.station _ c.in-Ok-serve.done opens (subst (λ (b : List ℕ). Says b c.in-Ok-judge.station) c.as_slice.ensures.value judged.1) c.in-Ok-serve.ensures.tried c.finish_served.ensures.finishes)

pub returns-clause-runs : goal.returns-clause-runs
returns-clause-runs g c =
    let judged = c.in-Ok-judge.ensures in
    let opens = subst (λ (end : FileEnd). OpensStation c.args.name.now (g.O.Outside.state c.args.outside.now) (g.O.Outside.state c.open_station.new.outside) end c.open_station.new.text.items) judged.0 c.in-Ok-open_station.ensures.tried in
    inr (ends_unserved c.args.name.now c.args.orders _ _ _ _ _ _ c.in-Ok-judge.station _ c.in-Err-serve.ending opens (subst (λ (b : List ℕ). Says b c.in-Ok-judge.station) c.as_slice.ensures.value judged.1) c.in-Err-serve.ensures.tried c.finish-in-Err-serve.ensures.answers)
