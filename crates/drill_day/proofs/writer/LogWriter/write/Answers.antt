-- What the search leaves open of `writer::LogWriter::write`.
use Rattle.std.proofs.Common.{rules, arith, ◌<◌, List, ◌++◌, length, take, subst}
use Rattle.drill_day.specs.Minutes.{seconds_from}
use Rattle.drill_day.specs.Progress.{HasWritten}
use Rattle.drill_day.specs.declared.seconds.Second.{Second}
use Rattle.outside_traits.proofs.WritingLaws.{on_err}
use Rattle.drill_day.proofs.SecondsLaws.{next_second, stopped_within}
use Rattle.drill_day.proofs.writer.LogWriter.write.Goals as goal

pub returns-in_err-write_second-clause-err : goal.returns-in_err-write_second-clause-err
returns-in_err-write_second-clause-err g c =
    let i = c.loop-symbol.symbol-index in
    let lt : i < length c.args.symbols.now = search rules in
    on_err c.from_residual.result (λ plan start begin seconds h.
    stopped_within plan start begin (g.K.Sink.state c.write_second.new.out) seconds c.args.index c.loop-symbol.next c.args.symbols.now i _ lt c.loop-symbol.invariant.0 (search rules)
    (c.in_err-write_second.ensures.err plan start begin (seconds ++ seconds_from c.args.index (take i c.args.symbols.now)) (c.loop-symbol.invariant.2 plan start begin seconds h)))

pub loop-symbol-preserved : goal.loop-symbol-preserved
loop-symbol-preserved g c =
    let i = c.loop-symbol.symbol-index in
    let lt : i < length c.args.symbols.now = search rules in (
      omega (arith, c.loop-symbol.invariant.0),
      omega (arith, c.loop-symbol.invariant.1, c.in_ok-write_second.ensures.few),
      (λ plan start begin seconds h.
          subst (λ (l : List Second). HasWritten plan start begin c.write_second.new.self (g.K.Sink.state c.write_second.new.out) l)
          (next_second seconds c.args.index c.loop-symbol.next c.args.symbols.now i _ lt c.loop-symbol.invariant.0 (search rules))
          (c.in_ok-write_second.ensures.ok plan start begin (seconds ++ seconds_from c.args.index (take i c.args.symbols.now)) (c.loop-symbol.invariant.2 plan start begin seconds h))),
    )
