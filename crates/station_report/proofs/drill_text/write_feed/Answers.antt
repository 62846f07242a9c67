-- What the search leaves open of `drill::text::write_feed`.
use Rattle.std.proofs.Common.{ℕ, List, subst}
use Rattle.outside_traits.specs.Writing.{WritesPrefix}
use Rattle.outside_traits.proofs.WritingLaws.{on_err_by}
use Rattle.station_report.proofs.drill_text.write_feed.Goals as goal

pub returns-clause-err : goal.returns-clause-err
returns-clause-err g c =
    on_err_by c.write_all.result
    (λ prefix. subst (λ (t : List ℕ). WritesPrefix (g.K.Sink.state c.args.out.now) (g.K.Sink.state c.write_all.new.out) t) c.write_feed_line-length.ensures.text prefix)
    c.write_all.ensures.err
