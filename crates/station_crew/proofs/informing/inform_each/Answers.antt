-- What the search leaves open of `informing::inform_each`.
use Rattle.std.proofs.Common.{rules, ◌≡◌, ◌<◌, slice_index_or, length, ◌∙◌, sym, subst}
use Rattle.std.specs.Prelude.{All}
use Rattle.page_cell.specs.Passes.{Known}
use Rattle.station_crew.specs.Informing.{WasInformed}
use Rattle.station_crew.proofs.InPlaceLaws.{ran_none, ran_more, ran_whole}
use Rattle.station_crew.proofs.informing.inform_each.Goals as goal

pub loop-i-init : goal.loop-i-init
loop-i-init g c = record {
  same = search rules;
  count = search rules;
  informed = ran_none (WasInformed c.args.feeds.now) c.args.jobs.now;
}

pub inform_all-requires-clause-feeds : goal.inform_all-requires-clause-feeds
inform_all-requires-clause-feeds g c κs within = subst (All (λ (f : Known). f.table ≡ c.args.cell.now.table)) (sym c.loop-i.invariant.same) c.requires.feeds

pub inform_all-requires-clause-reader : goal.inform_all-requires-clause-reader
inform_all-requires-clause-reader g c κs within =
    let lt : c.loop-i.i < length c.args.jobs.now = search rules in
    let x = c.index-jobs-i.result in
    subst (λ j. j.responder.pass.table ≡ c.args.cell.now.table) (sym (c.loop-i.invariant.informed.rest c.loop-i.i x (search rules))) (c.requires.readers c.loop-i.i x lt)

pub loop-i-preserved : goal.loop-i-preserved
loop-i-preserved g c =
    let i = c.loop-i.invariant in
    let lt : c.loop-i.i < length c.loop-i.jobs = search rules in
    record {
      same = c.inform_all.ensures.same ∙ i.same;
      count = search rules;
      informed = ran_more (WasInformed c.args.feeds.now) c.args.jobs.now c.loop-i.jobs c.loop-i.i c.index-jobs-i.result c.inform_all.new.job lt (subst (λ fs. WasInformed fs (slice_index_or c.loop-i.jobs c.loop-i.i c.index-jobs-i.result) c.inform_all.new.job) i.same c.inform_all.ensures.informed) i.informed;
    }

pub returns-clause-informed : goal.returns-clause-informed
returns-clause-informed g c = ran_whole _ c.args.jobs.now c.loop-i.jobs c.loop-i.i (search rules) c.loop-i.invariant.informed
