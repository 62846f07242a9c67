-- What the search leaves open of `writer::write_reduction`.
use Rattle.std.proofs.Common.{ℕ, List, subst}
use Rattle.std.specs.Prelude.{OnOk, OnErr}
use Rattle.outside_traits.specs.Writing.{WritesAll, WritesPrefix}
use Rattle.drill_day.proofs.LineLaws.{prefix_is_line}
use Rattle.drill_day.proofs.writer.write_reduction.Goals as goal

pub returns-clause-ok : goal.returns-clause-ok
returns-clause-ok g c = subst (λ (t : List ℕ). OnOk c.write_all.result (WritesAll (g.K.Sink.state c.args.out.now) (g.K.Sink.state c.write_all.new.out) t))
    (prefix_is_line c.args.r _ _ _ c.write_line-length.ensures.text c.write_line-length.ensures.length) c.write_all.ensures.ok

pub returns-clause-err : goal.returns-clause-err
returns-clause-err g c = subst (λ (t : List ℕ). OnErr c.write_all.result (WritesPrefix (g.K.Sink.state c.args.out.now) (g.K.Sink.state c.write_all.new.out) t))
    (prefix_is_line c.args.r _ _ _ c.write_line-length.ensures.text c.write_line-length.ensures.length) c.write_all.ensures.err
