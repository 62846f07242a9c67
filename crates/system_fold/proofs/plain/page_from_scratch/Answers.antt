-- What the search leaves open of `plain::page_from_scratch`.
use Rattle.std.proofs.Common.{◌∙◌, sym, ap, subst, refl, length, List}
use Rattle.std.specs.Prelude.{All}
use Rattle.system_fold.specs.Fit.{IsSound, fit_feeds}
use Rattle.system_fold.specs.declared.feed.Feed.{Feed}
use Rattle.system_fold.proofs.PageLaws.{page-stands}
use Rattle.system_fold.proofs.PlainLaws.{stands-whole}
use Rattle.system_fold.proofs.SoundLaws.{sound-feeds}
use Rattle.system_fold.proofs.UpwardLaws.{feeds-upward}
use Rattle.system_fold.proofs.plain.page_from_scratch.Goals as goal

pub fit_sources-fit-requires-clause-sound : goal.fit_sources-fit-requires-clause-sound
fit_sources-fit-requires-clause-sound c =
    let stands = stands-whole (record { bound = c.bound.result; feeds = c.feeds_of-feeds.result.items; leaps = c.leaps_of-leaps.result; length = length c.args.journal.now }) c.args.settings.now c.args.journal.now c.requires.settings c.feeds_of-feeds.ensures.few c.requires.entries c.bound.ensures c.feeds_of-feeds.ensures.items c.leaps_of-leaps.ensures refl in
    subst (λ (fs : List Feed). All (IsSound c.leaps_of-leaps.result.latest) fs) (sym c.as_slice.ensures.value) (sound-feeds _ c.args.settings.now c.args.journal.now stands)

pub page_by-requires-clause-upward : goal.page_by-requires-clause-upward
page_by-requires-clause-upward c = feeds-upward c.leaps_of-leaps.result.cut c.leaps_of-leaps.result.latest c.as_slice.result.now c.as_slice-2.result.now (c.as_slice-2.ensures.value ∙ c.fit_sources-fit.ensures.value)

pub returns : goal.returns
returns c =
    let stands = stands-whole (record { bound = c.bound.result; feeds = c.feeds_of-feeds.result.items; leaps = c.leaps_of-leaps.result; length = length c.args.journal.now }) c.args.settings.now c.args.journal.now c.requires.settings c.feeds_of-feeds.ensures.few c.requires.entries c.bound.ensures c.feeds_of-feeds.ensures.items c.leaps_of-leaps.ensures refl in
    c.page_by.ensures ∙ page-stands _ c.armed.result _ c.args.settings.now c.args.journal.now stands (c.armed.ensures c.args.journal.now c.leaps_of-leaps.ensures) (c.as_slice-2.ensures.value ∙ c.fit_sources-fit.ensures.value ∙ ap (fit_feeds c.leaps_of-leaps.result.cut c.leaps_of-leaps.result.latest) c.as_slice.ensures.value)
