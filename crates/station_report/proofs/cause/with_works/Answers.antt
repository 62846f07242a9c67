-- What the search leaves open of `serve::cause::with_works`.
use Rattle.std.proofs.Common.{◌≡◌, ◌<◌, ap, arith, length, rules, ◌∙◌}
use Rattle.station_report.proofs.EachLaws.{looked_all, looked_more, none_later}
use Rattle.station_report.proofs.cause.with_works.Goals as goal

pub loop-work-preserved : goal.loop-work-preserved
loop-work-preserved g c =
    let i = c.loop-work.work-index in
    let lt : i < length c.args.works.now = search rules in (
      omega (arith, c.loop-work.invariant.0),
      λ all h. looked_more g.W.Work.cause all _ c.loop-work.place _ c.args.works.now i _ _ _ c.cause.result (omega arith) lt (c.cause.ensures ∙ ap (g.W.Work.cause c.loop-work.place) c.work-item.is) (λ before k. c.with_next-found.ensures before k) (c.loop-work.invariant.1 all h),
    )

pub returns : goal.returns
returns g c = λ all h.
    let end : c.loop-work.work-index ≡ length c.args.works.now = search rules in
    looked_all g.W.Work.cause all _ _ _ _ (none_later c.args.works.now c.loop-work.work-index end) (c.loop-work.invariant.1 all h)
