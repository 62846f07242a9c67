-- What the search leaves open of `migrate::move_whole`.
use Rattle.std.proofs.Common.{◌∙◌}
use Rattle.file_commands.specs.Moving.{journal_way}
use Rattle.file_commands.specs.Migrating.{journal_of}
use Rattle.line_files.proofs.LineFileLaws.{runs_after, runs_stopped}
use Rattle.line_files.proofs.ReportLaws.{reports_ended, reports_stopped}
use Rattle.file_commands.proofs.migrate.move_whole.Goals as goal

pub returns-in-Ok-clause-runs : goal.returns-in-Ok-clause-runs
returns-in-Ok-clause-runs g c = λ of h. runs_after _ (journal_way of) c.read_lines.new.taker _ _ _ _ _ c.in-Ok.end _ c.page.result c.migrate_ending.result
    (c.in-Ok.ensures.ends of (c.new-lines.ensures.taken of h)) (λ lines bad moved. c.page.ensures ∙ moved.page) (λ lines bad moved. c.migrate_ending.ensures) c.finish_page.ensures.answers

pub returns-in-Err-clause-runs : goal.returns-in-Err-clause-runs
returns-in-Err-clause-runs g c = λ of h. runs_stopped (journal_of of) _ _ _ _ (c.in-Err.ensures.ends of (c.new-lines.ensures.taken of h))

pub returns-in-Ok-clause-reports : goal.returns-in-Ok-clause-reports
returns-in-Ok-clause-reports g c = λ of h. reports_ended _ _ _ _ _ _ _ c.in-Ok.end c.finish_page.result (c.in-Ok.ensures.ends of (c.new-lines.ensures.taken of h)) c.finish_page.ensures.reports

pub returns-in-Err-clause-reports : goal.returns-in-Err-clause-reports
returns-in-Err-clause-reports g c = λ of h. reports_stopped _ _ _ _ _ _ (c.in-Err.ensures.ends of (c.new-lines.ensures.taken of h))
