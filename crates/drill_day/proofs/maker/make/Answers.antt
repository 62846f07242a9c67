-- What the search leaves open of `maker::make`.
use Rattle.std.proofs.Common.{rules, arith, ◌+◌, ◌≤◌, List, [], length, take, subst}
use Rattle.drill_day.specs.Made.{seeded}
use Rattle.drill_day.specs.Minutes.{begun}
use Rattle.drill_day.specs.Progress.{HasWritten, HasStopped}
use Rattle.drill_day.specs.declared.seconds.Second.{Second}
use Rattle.outside_traits.proofs.WritingLaws.{on_err}
use Rattle.drill_day.proofs.MakingLaws.{opening_same, minute_same, stopped_at}
use Rattle.drill_day.proofs.MadeOrderLaws.{made_is_read}
use Rattle.drill_day.proofs.maker.make.Goals as goal

pub returns-in_err-write-clause-failed : goal.returns-in_err-write-clause-failed
returns-in_err-write-clause-failed g c =
    let plan = c.args.plan in
    let start = seeded plan c.args.seed in
    let begin = g.K.Sink.state c.args.out.now in
    let same = opening_same plan c.args.first c.args.seed c.opening_index.result c.opening_symbols.result.now c.opening_index.ensures.value c.opening_symbols.ensures.symbols in
    on_err c.from_residual.result
    (stopped_at plan start c.args.first c.args.seed c.args.minutes 0 begin (g.K.Sink.state c.write.new.out) (omega arith)
    (subst (λ (l : List Second). HasStopped plan start begin (g.K.Sink.state c.write.new.out) l) same (c.in_err-write.ensures.err plan start begin [] (c.new-log.ensures.start begin))))

pub loop-minute-init : goal.loop-minute-init
loop-minute-init g c =
    let plan = c.args.plan in
    let start = seeded plan c.args.seed in
    let begin = g.K.Sink.state c.args.out.now in
    let same = opening_same plan c.args.first c.args.seed c.opening_index.result c.opening_symbols.result.now c.opening_index.ensures.value c.opening_symbols.ensures.symbols in (
      subst (λ (l : List Second). HasWritten plan start begin c.write.new.self (g.K.Sink.state c.write.new.out) l) same (c.in_ok-write.ensures.ok plan start begin [] (c.new-log.ensures.start begin)),
      omega (arith, c.in_ok-write.ensures.few, c.new-log.ensures.lines, c.opening_symbols.ensures.few),
    )

pub returns-in_err-write-2-clause-failed : goal.returns-in_err-write-2-clause-failed
returns-in_err-write-2-clause-failed g c =
    let plan = c.args.plan in
    let start = seeded plan c.args.seed in
    let begin = g.K.Sink.state c.args.out.now in
    let m = c.loop-minute.minute in
    let within : m + 1 ≤ c.args.minutes = search rules in
    let same = minute_same plan c.args.first c.args.seed m _ _ c.index_of.ensures.value c.write_symbols-count.ensures.symbols in
    on_err c.from_residual-in_err-write-2.result
    (stopped_at plan start c.args.first c.args.seed c.args.minutes (m + 1) begin (g.K.Sink.state c.write-in-loop-minute.new.out) within
    (subst (λ (l : List Second). HasStopped plan start begin (g.K.Sink.state c.write-in-loop-minute.new.out) l) same
    (c.in_err-write-2.ensures.err plan start begin (begun plan c.args.first c.args.seed m) c.loop-minute.invariant.0)))

pub loop-minute-preserved : goal.loop-minute-preserved
loop-minute-preserved g c =
    let plan = c.args.plan in
    let start = seeded plan c.args.seed in
    let begin = g.K.Sink.state c.args.out.now in
    let m = c.loop-minute.minute in
    let same = minute_same plan c.args.first c.args.seed m _ _ c.index_of.ensures.value c.write_symbols-count.ensures.symbols in
    let short : length (take c.write_symbols-count.result c.write_symbols-count.new.out) ≤ 61 = search rules in (
      subst (λ (l : List Second). HasWritten plan start begin c.write-in-loop-minute.new.self (g.K.Sink.state c.write-in-loop-minute.new.out) l) same
          (c.in_ok-write-2.ensures.ok plan start begin (begun plan c.args.first c.args.seed m) c.loop-minute.invariant.0),
      omega (arith, c.in_ok-write-2.ensures.few, c.loop-minute.invariant.1, short),
    )

pub returns-clause-read : goal.returns-clause-read
returns-clause-read g c = made_is_read c.args.plan c.args.first c.args.minutes c.args.seed c.requires.few
