use Rattle.std.proofs.Common.{◌<◌, length, rules, ap, ◌∙◌, arith}
use Rattle.system_fold.proofs.StandingLaws.{feeds-length}
use Rattle.system_fold.specs.declared.feed.Feed.{Feed}
use Rattle.std.specs.Prelude.{List}
use Rattle.page_cell.proofs.writer.Writer.publish.Goals as goal

pub step-requires-clause-valid : goal.step-requires-clause-valid
step-requires-clause-valid c =
    let w = c.self.inside in
    let stands = c.self.invariant.1 in
    let feeds = ap (λ (fs : List Feed). length fs) stands.feeds ∙ feeds-length w.baton.view.settings w.baton.view.list in
    let below : c.number-feed.result < w.feeds = search rules in
    let known = c.self.invariant.2 in
    record { feed = omega (arith, feeds, below, known); what = search rules }
