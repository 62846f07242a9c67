-- What the search leaves open of `replay::play_whole`.
use Rattle.std.proofs.Common.{Bool, ap, ◌∙◌}
use Rattle.replay_command.specs.Replay.{case_of}
use Rattle.replay_command.specs.Playing.{script_way}
use Rattle.replay_command.specs.Replaying.{replay_ending, script_of}
use Rattle.line_files.proofs.LineFileLaws.{runs_after, runs_stopped}
use Rattle.line_files.proofs.ReportLaws.{reports_ended, reports_stopped}
use Rattle.replay_command.proofs.replay.play_whole.Goals as goal

pub returns-in-Ok-clause-replays : goal.returns-in-Ok-clause-replays
returns-in-Ok-clause-replays g c = λ station h.
    let of = case_of station c.args.limit in
    runs_after _ (script_way _ of) c.read_lines.new.taker _ _ _ _ _ c.in-Ok.end _ c.page-page.result c.replay_ending-ending.result (c.in-Ok.ensures.ends of (c.new-lines.ensures.taken of h)) (λ lines bad played. c.page-page.ensures of lines played)
    (λ lines bad played. c.replay_ending-ending.ensures ∙ ap (λ (b : Bool). replay_ending c.in-Ok.end b c.args.limit) (c.is_full.ensures of lines played)) c.finish_page.ensures.answers

pub returns-clause-replays : goal.returns-clause-replays
returns-clause-replays g c = λ station h. runs_stopped (script_of c.args.limit station) _ _ _ _ (let of = case_of station c.args.limit in c.in-Err.ensures.ends of (c.new-lines.ensures.taken of h))

pub returns-in-Ok-clause-reports : goal.returns-in-Ok-clause-reports
returns-in-Ok-clause-reports g c = λ station h. (let of = case_of station c.args.limit in reports_ended _ _ _ _ _ _ _ c.in-Ok.end c.finish_page.result (c.in-Ok.ensures.ends of (c.new-lines.ensures.taken of h)) c.finish_page.ensures.reports)

pub returns-clause-reports : goal.returns-clause-reports
returns-clause-reports g c = λ station h. reports_stopped _ _ _ _ _ _ (let of = case_of station c.args.limit in c.in-Err.ensures.ends of (c.new-lines.ensures.taken of h))
