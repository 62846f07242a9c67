-- What the search leaves open of `informing::inform_all`.
use Rattle.std.proofs.Common.{rules, ◌<◌, ◌≤◌, slice_index_or, length, ◌∙◌, subst}
use Rattle.page_cell.specs.Passes.{Known, claim_of}
use Rattle.feed_workers.proofs.ListLaws.{reported_more, reported_all, same_set}
use Rattle.station_crew.proofs.informing.inform_all.Goals as goal

pub loop-i-preserved : goal.loop-i-preserved
loop-i-preserved g c =
    let i = c.loop-i.invariant in
    let e = c.inform.ensures in
    let lt : c.loop-i.i < length c.args.feeds.now = search rules in
    record {
      same = same_set _ c.loop-i.i _ _ e.same ∙ i.same;
      link = e.others.0 ∙ i.link;
      work = e.others.1 ∙ i.work;
      number = e.others.2 ∙ i.number;
      keys = e.others.3 ∙ i.keys;
      clients = e.others.4 ∙ i.clients;
      learnt = search rules;
      seen = reported_more (λ (f : Known). length (claim_of f.view).seen) c.args.feeds.now c.loop-i.i c.loop-i.job.responder.pass.view.seen _ _ lt e.learnt.seen (subst (λ l. length (claim_of (slice_index_or l c.loop-i.i c.index-feeds-i.result).view).seen ≤ c.inform.new.job.responder.pass.view.seen) i.same e.seen) i.seen;
    }

pub returns-clause-informed : goal.returns-clause-informed
returns-clause-informed g c =
    let i = c.loop-i.invariant in
    record {
      link = i.link;
      work = i.work;
      number = i.number;
      keys = i.keys;
      clients = i.clients;
      learnt = i.learnt;
      seen = reported_all (λ (f : Known). length (claim_of f.view).seen ≤ c.loop-i.job.responder.pass.view.seen) c.args.feeds.now c.loop-i.i (search rules) i.seen;
    }
