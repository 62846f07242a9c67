-- What the search leaves open of `fold::take_sample`.
use Rattle.std.proofs.Common.{◌≡◌, ◌<◌, ℕ, ◌∙◌, ap, length, subst, List, get_or}
use Rattle.system_fold.specs.declared.feed.Feed.{Feed}
use Rattle.system_fold.proofs.FeedLaws.{feeds-taken}
use Rattle.system_fold.proofs.StandingLaws.{feeds-length}
use Rattle.system_fold.proofs.fold.take_sample.Goals as goal

pub returns : goal.returns
returns c = λ settings journal h.
    let few : length c.args.feeds.now ≡ length settings.sources = ap (λ (fs : List Feed). length fs) h ∙ feeds-length settings journal in
    c.look_from.ensures ∙ feeds-taken settings journal c.args.e.now (get_or c.args.feeds.now c.args.e.now.feed c.index-feeds-e.result) c.take.new.self c.args.feeds.now h (subst (λ (n : ℕ). c.args.e.now.feed < n) few c.requires.feed) (ap (λ (d : Feed). get_or c.args.feeds.now c.args.e.now.feed d) c.index-feeds-e.is) c.take.ensures.kind c.take.ensures.filter
