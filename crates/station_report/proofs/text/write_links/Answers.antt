-- What the search leaves open of `serve::text::write_links`.
use Rattle.std.proofs.Common.{◌≡◌, ℕ, ◌+◌, ◌<◌, List, arith, drop, length, rules, subst, suc}
use Rattle.station_report.specs.Crewing.{line_of_work}
use Rattle.station_report.specs.Headline.{each_text}
use Rattle.outside_traits.specs.Writing.{WritesAll, WritesPrefix}
use Rattle.outside_traits.proofs.WritingLaws.{on_err}
use Rattle.station_report.proofs.EachLaws.{HasWritten, text_split, written_prefix, written_more}
use Rattle.station_report.proofs.text.write_links.Goals as goal

pub returns-in_err-write_all-clause-err : goal.returns-in_err-write_all-clause-err
returns-in_err-write_all-clause-err g c =
    let i = c.loop-number.number in
    let lt : i < length c.args.works.now = search rules in
    on_err c.from_residual.result (written_prefix _ _ _ _ _ _ _ (text_split line_of_work i c.args.works.now i _ lt) c.loop-number.invariant
    (subst (λ (t : List ℕ). WritesPrefix (g.K.Sink.state c.loop-number.out) (g.K.Sink.state c.write_all.new.out) t) c.write_link_line-length.ensures.text c.in_err-write_all.ensures.err))

pub loop-number-preserved : goal.loop-number-preserved
loop-number-preserved g c =
    let i = c.loop-number.number in
    let lt : i < length c.args.works.now = search rules in
    let next : suc i ≡ i + 1 = omega arith in
    subst (λ n. HasWritten (g.K.Sink.state c.args.out.now) (g.K.Sink.state c.write_all.new.out) (each_text line_of_work 0 c.args.works.now) (each_text line_of_work n (drop (i + 1) c.args.works.now))) next
    (written_more _ _ _ _ _ _ _ (text_split line_of_work i c.args.works.now i _ lt) c.loop-number.invariant
    (subst (λ (t : List ℕ). WritesAll (g.K.Sink.state c.loop-number.out) (g.K.Sink.state c.write_all.new.out) t) c.write_link_line-length.ensures.text c.in_ok-write_all.ensures.ok))
