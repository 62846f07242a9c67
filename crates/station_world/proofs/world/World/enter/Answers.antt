-- What the search leaves open of `World::enter`.
use Rattle.std.proofs.Common.{◌≡◌, ◌<◌, List, [], ◌∷◌, ◌++◌, length, rules, sym, ap, ◌∙◌, subst, arith, length-append}
use Rattle.journal_entry.specs.declared.entry.Entry.{Entry}
use Rattle.station_world.specs.KeptWorld.{state_of}
use Rattle.station_world.specs.Machine.{published_page}
use Rattle.system_fold.proofs.StandingLaws.{feeds-length}
use Rattle.system_fold.specs.KeptFold.{StandsForJournal}
use Rattle.system_fold.specs.declared.feed.Feed.{Feed}
use Rattle.station_world.proofs.StepLaws.{page_before}
use Rattle.station_world.proofs.world.World.enter.Goals as goal

pub step-requires-clause-valid : goal.step-requires-clause-valid
step-requires-clause-valid c =
    let w = c.self.inside in
    let feeds = ap (λ (fs : List Feed). length fs) c.self.invariant.fold.feeds ∙ feeds-length w.settings.value w.entries.items in
    let below : c.args.e.now.feed < w.feeds = search rules in
    let known = c.self.invariant.feeds in
    record { feed = omega (arith, feeds, below, known); what = c.requires.0 }

pub invariant_of-self-2 : goal.invariant_of-self-2
invariant_of-self-2 c =
    let w = c.self.inside in
    let i = c.self.invariant in
    let e = c.args.e.now in
    let items : c.extend_from_slice.new.self.items ≡ w.entries.items ++ e ∷ [] = search rules in
    let longer = ap length items in
    let whole : w.published ≡ length w.entries.items = search rules in
    let fold = subst (StandsForJournal c.step.new.self w.settings.value) (sym items) (c.step.ensures w.settings.value w.entries.items i.fold) in
    record {
      feeds = i.feeds;
      fold = fold;
      page = i.page ∙ sym (page_before (state_of w) e i.chained.published) ∙ ap (λ (l : List Entry). published_page (record (state_of w) { journal = l })) (sym items);
      next = c.page-self-inside.ensures w.settings.value c.extend_from_slice.new.self.items fold;
      chained = record { seen = i.chained.seen; published = omega (arith, longer, whole, length-append w.entries.items (e ∷ [])); last = omega (arith, longer, whole, length-append w.entries.items (e ∷ [])) };
    }
