-- What the search leaves open of `ending::page::finish_page`.
use Rattle.std.proofs.Common.{ℕ, List, subst}
use Rattle.command_ends.specs.Endings.{status_of, status_line}
use Rattle.command_ends.specs.Text.{page_text}
use Rattle.outside_traits.specs.Writing.{WritesAll, WritesPrefix}
use Rattle.command_ends.proofs.WritingLaws.{answers_more, answers_prefix}
use Rattle.command_ends.proofs.ReportLaws.{reports_more, reports_none}
use Rattle.command_ends.proofs.ending.page.finish_page.Goals as goal

pub returns-in-Ok-clause-answers : goal.returns-in-Ok-clause-answers
returns-in-Ok-clause-answers g c = answers_more (status_of c.args.ending) _ _ _ _ (page_text c.args.page.now) (status_line c.args.ending)
    (subst (λ (t : List ℕ). WritesAll (g.K.Sink.state c.args.out.now) (g.K.Sink.state c.write_all.new.out) t) c.write_page_line-length.ensures.text c.in-Ok.ensures.ok) c.finish.ensures.answers

pub returns-in-Err-clause-answers : goal.returns-in-Err-clause-answers
returns-in-Err-clause-answers g c = answers_prefix (status_of c.args.ending) _ _ (page_text c.args.page.now) (status_line c.args.ending)
    (subst (λ (t : List ℕ). WritesPrefix (g.K.Sink.state c.args.out.now) (g.K.Sink.state c.write_all.new.out) t) c.write_page_line-length.ensures.text c.in-Err.ensures.err)

pub returns-in-Ok-clause-reports : goal.returns-in-Ok-clause-reports
returns-in-Ok-clause-reports g c = reports_more c.finish.result _ _ _ _ c.in-Ok.ensures.ok c.finish.ensures.reports

pub returns-in-Err-clause-reports : goal.returns-in-Err-clause-reports
returns-in-Err-clause-reports g c = reports_none _ _ _ c.in-Err.ensures.err
