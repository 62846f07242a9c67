-- What the search leaves open of `migrate::run_migrate`.
use Rattle.std.proofs.Common.{ℕ, List, inr, subst}
use Rattle.file_reader.specs.declared.reader.FileEnd.{FileEnd}
use Rattle.station_reader.specs.Faults.{Says}
use Rattle.command_ends.specs.Keeping.{OpensStation}
use Rattle.command_ends.specs.StationFile.{IsObstacle}
use Rattle.line_files.proofs.LineFileLaws.{ends_at, file_tried}
use Rattle.file_commands.specs.Migrating.{journal_of}
use Rattle.command_ends.specs.declared.ending.subject.Subject.TheVariants.{Journal}
use Rattle.command_ends.proofs.StationFileLaws.{reported_by}
use Rattle.file_commands.proofs.migrate.run_migrate.Goals as goal

pub returns-in-Ok-prepare-clause-runs : goal.returns-in-Ok-prepare-clause-runs
returns-in-Ok-prepare-clause-runs g c =
    let judged = c.in-Ok-prepare.ensures.judged in
    let opens = subst (λ (end : FileEnd). OpensStation c.args.station.now (g.O.Outside.state c.args.outside.now) (g.O.Outside.state c.open_station.new.outside) end c.open_station.new.text.items) judged.0 c.in-Ok-open_station.ensures.tried in
    inr (file_tried Journal journal_of c.args.station.now c.args.journal.now _ _ _ _ _ _ _ judged.1.0 opens (subst (λ (b : List ℕ). Says b judged.1.0) c.as_slice.ensures.value judged.1.1) (c.open_and_move.ensures.tried judged.1.0 judged.1.2))

pub returns-in-Err-clause-runs : goal.returns-in-Err-clause-runs
returns-in-Err-clause-runs g c =
    let cause = subst (λ (b : List ℕ). IsObstacle c.in-Ok-open_station.end b c.in-Err.obstacle) c.as_slice.ensures.value c.in-Err.ensures.judged in
    inr (ends_at Journal journal_of c.args.station.now c.args.journal.now _ _ _ _ _ c.in-Ok-open_station.end _ c.in-Err.obstacle c.in-Ok-open_station.ensures.tried cause (c.finish_at.ensures.answers (reported_by c.in-Ok-open_station.end _ c.in-Err.obstacle cause)))

pub returns-in-Ok-prepare-clause-reports : goal.returns-in-Ok-prepare-clause-reports
returns-in-Ok-prepare-clause-reports g c = (let judged = c.in-Ok-prepare.ensures.judged in c.open_and_move.ensures.reports judged.1.0 judged.1.2)
