-- What the search leaves open of `serve::text::write_lines`.
use Rattle.std.proofs.Common.{ℕ, List, ap, refl, subst}
use Rattle.station_report.specs.Crewing.{line_of_work}
use Rattle.station_report.specs.Headline.{each_text}
use Rattle.line_files.specs.Texts.{journal_text}
use Rattle.outside_traits.specs.Writing.{WritesPrefix}
use Rattle.outside_traits.proofs.WritingLaws.{on_err, on_err_by}
use Rattle.outside_traits.proofs.WritingLaws.{prefix_of_more, writes_prefix}
use Rattle.station_report.proofs.text.write_lines.Goals as goal

pub returns-in_err-write_journal-clause-err : goal.returns-in_err-write_journal-clause-err
returns-in_err-write_journal-clause-err g c =
    let done = c.args.done.now in
    on_err c.from_residual.result (prefix_of_more _ _ (journal_text done.journal.settings done.journal.entries) _ (each_text line_of_work 0 done.work.links.items, refl) c.in_err-write_journal.ensures.err)

pub returns-clause-err : goal.returns-clause-err
returns-clause-err g c =
    let done = c.args.done.now in
    let lines = journal_text done.journal.settings done.journal.entries in
    let same = ap (each_text line_of_work 0) c.as_slice.ensures.value in
    on_err_by c.write_links.result
    (λ prefix. writes_prefix (g.K.Sink.state c.args.out.now) (g.K.Sink.state c.write_journal.new.out) (g.K.Sink.state c.write_links.new.out) lines (each_text line_of_work 0 done.work.links.items) c.in_ok-write_journal.ensures.ok
    (subst (λ (t : List ℕ). WritesPrefix (g.K.Sink.state c.write_journal.new.out) (g.K.Sink.state c.write_links.new.out) t) same prefix))
    c.write_links.ensures.err
