-- What the search leaves open of `writer::LogWriter::write_second`.
use Rattle.std.proofs.Common.{◌+◌, length, refl, ap, ◌∙◌, subst}
use Rattle.drill_day.specs.Made.{parts_of, text_of}
use Rattle.outside_traits.specs.Writing.{WritesAll, WritesPrefix}
use Rattle.outside_traits.proofs.WritingLaws.{on_err}
use Rattle.drill_day.proofs.ProgressLaws.{written_push, stopped_push}
use Rattle.drill_day.proofs.writer.LogWriter.write_second.Goals as goal

pub returns-in_err-count-clause-err : goal.returns-in_err-count-clause-err
returns-in_err-count-clause-err g c = on_err c.from_residual.result (λ plan start begin seconds h.
    stopped_push plan start c.number_after-self.result begin (g.K.Sink.state c.args.out.now) (g.K.Sink.state c.write_parts.new.out) c.args.self.now seconds c.args.second c.number_after-self.ensures.value
    (subst (λ n. WritesPrefix (g.K.Sink.state c.args.out.now) (g.K.Sink.state c.write_parts.new.out) (text_of (parts_of c.args.self.now.plan n c.args.second.symbol))) c.start_of-start.ensures.value c.in_err-count.ensures.err) h)

pub returns-clause-ok : goal.returns-clause-ok
returns-clause-ok g c plan start begin seconds h =
    written_push plan start begin (g.K.Sink.state c.args.out.now) (g.K.Sink.state c.write_parts.new.out) c.args.self.now
    (record { plan = c.args.self.now.plan; number = c.number_after-self.result; lines = c.args.self.now.lines + c.in_ok-count.count }) seconds c.args.second
    refl c.number_after-self.ensures.value
    (ap (λ n. c.args.self.now.lines + n) (c.in_ok-count.ensures.lines ∙ ap (λ n. length (parts_of c.args.self.now.plan n c.args.second.symbol)) c.start_of-start.ensures.value))
    (subst (λ n. WritesAll (g.K.Sink.state c.args.out.now) (g.K.Sink.state c.write_parts.new.out) (text_of (parts_of c.args.self.now.plan n c.args.second.symbol))) c.start_of-start.ensures.value c.in_ok-count.ensures.ok) h
