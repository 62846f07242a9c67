-- What the search leaves open of `serve::text::finish_served`.
use Rattle.std.proofs.Common.{◌≡◌, List, ℕ, ◌++◌, append_assoc, ap, ◌∙◌, sym, subst}
use Rattle.clock_page.specs.Page.{PageFields}
use Rattle.station_report.specs.Crewing.{line_of_work}
use Rattle.command_ends.specs.Endings.{status_of, status_line}
use Rattle.station_report.specs.Headline.{each_text}
use Rattle.line_files.specs.Texts.{journal_text}
use Rattle.command_ends.specs.Text.{page_text}
use Rattle.command_ends.specs.Reports.{status_in}
use Rattle.command_ends.specs.Writing.{Answers}
use Rattle.command_ends.specs.declared.ending.status.Status.TheVariants.{WriteFault}
use Rattle.command_ends.proofs.ReportLaws.{reports_more, reports_none}
use Rattle.command_ends.proofs.WritingLaws.{answers_prefix, answers_more}
use Rattle.station_report.proofs.text.finish_served.Goals as goal

regroup : (j l p s : List ℕ) → (j ++ l) ++ (p ++ s) ≡ (j ++ (l ++ p)) ++ s
regroup j l p s = sym (append_assoc (j ++ l) p s) ∙ ap (λ t. t ++ s) (append_assoc j l p)

pub returns-in-Ok-clause-finishes : goal.returns-in-Ok-clause-finishes
returns-in-Ok-clause-finishes g c =
    let done = c.args.done.now in
    let due = c.ending_of-ending.result in
    let page = subst (λ (p : PageFields). Answers (status_of due) (status_in c.finish_page.result) (g.K.Sink.state c.write_lines.new.out) (g.K.Sink.state c.finish_page.new.out) (page_text p ++ status_line due)) c.page.ensures c.finish_page.ensures.answers in
    record {
      due = due;
      cause = c.ending_of-ending.ensures;
      written = subst (λ t. Answers (status_of due) (status_in c.finish_page.result) (g.K.Sink.state c.args.out.now) (g.K.Sink.state c.finish_page.new.out) t)
          (regroup (journal_text done.journal.settings done.journal.entries) (each_text line_of_work 0 done.work.links.items) _ (status_line due))
          (answers_more (status_of due) _ _ _ _ _ _ c.in-Ok.ensures.ok page);
    }

pub returns-in-Err-clause-finishes : goal.returns-in-Err-clause-finishes
returns-in-Err-clause-finishes g c =
    let done = c.args.done.now in
    let due = c.ending_of-ending.result in
    record {
      due = due;
      cause = c.ending_of-ending.ensures;
      written = subst (λ t. Answers (status_of due) WriteFault (g.K.Sink.state c.args.out.now) (g.K.Sink.state c.write_lines.new.out) t)
          (regroup (journal_text done.journal.settings done.journal.entries) (each_text line_of_work 0 done.work.links.items) _ (status_line due))
          (answers_prefix (status_of due) _ _ _ _ c.in-Err.ensures.err);
    }

pub returns-in-Ok-clause-reports : goal.returns-in-Ok-clause-reports
returns-in-Ok-clause-reports g c = reports_more c.finish_page.result _ _ _ _ c.in-Ok.ensures.ok c.finish_page.ensures.reports

pub returns-in-Err-clause-reports : goal.returns-in-Err-clause-reports
returns-in-Err-clause-reports g c = reports_none _ _ _ c.in-Err.ensures.err
