-- What the search leaves open of `writer::write_parts`.
use Rattle.std.proofs.Common.{rules, ◌≡◌}
use Rattle.tick_units.specs.declared.marks.Symbol.TheVariants.{OnlyB}
use Rattle.outside_traits.proofs.WritingLaws.{on_err}
use Rattle.drill_day.proofs.LineLaws.{first_stopped, second_stopped}
use Rattle.drill_day.proofs.writer.write_parts.Goals as goal

pub returns-in_err-write_whole-clause-err : goal.returns-in_err-write_whole-clause-err
returns-in_err-write_whole-clause-err g c = on_err c.from_residual.result (first_stopped _ _ c.args.plan c.args.start c.args.symbol c.in_err-write_whole.ensures.err)

pub returns-in_err-write_whole-2-clause-err : goal.returns-in_err-write_whole-2-clause-err
returns-in_err-write_whole-2-clause-err g c =
    let is : c.args.symbol ≡ OnlyB = search rules in
    on_err c.from_residual-in_err-write_whole-2.result
    (second_stopped _ _ _ c.args.plan c.args.start c.args.symbol is c.in_ok-write_whole.ensures.ok c.in_err-write_whole-2.ensures.err)
