-- What the search leaves open of `decode::decode_with`.
use Rattle.std.proofs.Common.{Option, subst, sym}
use Rattle.command_ends.specs.Endings.{status_of, status_line}
use Rattle.command_ends.specs.Reports.{status_in}
use Rattle.command_ends.specs.Writing.{Answers}
use Rattle.command_ends.specs.declared.ending.Ending.{Ending}
use Rattle.command_ends.specs.declared.minutes.Minutes.{Minutes}
use Rattle.file_commands.specs.Decoding.{CountsMinutes, KnowsMinutes}
use Rattle.file_commands.proofs.DecodingLaws.{decodes_after, counts_after, decodes_stopped}
use Rattle.line_files.proofs.ReportLaws.{reports_ended, reports_stopped}
use Rattle.file_commands.proofs.decode.decode_with.Goals as goal

pub returns-in-Ok-clause-decodes : goal.returns-in-Ok-clause-decodes
returns-in-Ok-clause-decodes g c = λ plan h. decodes_after _ plan c.read_lines.new.taker _ _ _ _ _ c.in-Ok.end _
    (c.in-Ok.ensures.ends plan (c.new-decoding.ensures.start plan h))
    (subst (λ (e : Ending). Answers (status_of e) (status_in c.finish.result) (g.K.Sink.state c.read_lines.new.out) (g.K.Sink.state c.finish.new.out) (status_line e)) c.ending_at.ensures c.finish.ensures.answers)

pub returns-clause-decodes : goal.returns-clause-decodes
returns-clause-decodes g c = λ plan h. decodes_stopped plan _ _ _ _ (c.in-Err.ensures.ends plan (c.new-decoding.ensures.start plan h))

pub returns-in-Ok-clause-reports : goal.returns-in-Ok-clause-reports
returns-in-Ok-clause-reports g c = λ plan h. reports_ended _ _ _ _ _ _ _ c.in-Ok.end c.finish.result
    (c.in-Ok.ensures.ends plan (c.new-decoding.ensures.start plan h)) c.finish.ensures.reports

pub returns-clause-reports : goal.returns-clause-reports
returns-clause-reports g c = λ plan h. reports_stopped _ _ _ _ _ _ (c.in-Err.ensures.ends plan (c.new-decoding.ensures.start plan h))

pub returns-in-Ok-clause-minutes : goal.returns-in-Ok-clause-minutes
returns-in-Ok-clause-minutes g c = λ plan h.
    let was = g.S.Source.state c.args.log.now in
    let is = g.S.Source.state c.read_lines.new.file in
    let counted = counts_after _ plan c.read_lines.new.taker _ _ _ _ c.in-Ok.end (c.in-Ok.ensures.ends plan (c.new-decoding.ensures.start plan h)) in
    subst (λ (known : Option Minutes). KnowsMinutes plan was is c.finish.result known) (sym c.of_minutes.ensures.minutes)
    (subst (λ (minutes : Minutes). CountsMinutes plan was is minutes) (sym c.minutes.ensures) counted)
