-- What the search leaves open of `fold::FoldState::page`.
use Rattle.std.proofs.Common.{◌∙◌, sym, ap, subst, map}
use Rattle.std.specs.Prelude.{All}
use Rattle.select_core.specs.Selection.{chime_of}
use Rattle.system_fold.specs.Fit.{AreUpward, IsFit}
use Rattle.system_fold.specs.Selecting.{candidate_of}
use Rattle.system_fold.specs.KeptFold.{StandsForJournal, FoldFields}
use Rattle.system_fold.proofs.PageLaws.{page-stands}
use Rattle.system_fold.proofs.UpwardLaws.{feeds-upward}
use Rattle.system_fold.proofs.fold.FoldState.page.Goals as goal

pub page_within-requires-clause-fit : goal.page_within-requires-clause-fit
page_within-requires-clause-fit c = subst (All (IsFit c.self.inside.leaps.latest)) (sym c.as_slice.ensures.value) c.self.invariant.sources.all

pub page_within-requires-clause-upward : goal.page_within-requires-clause-upward
page_within-requires-clause-upward c = subst AreUpward (sym c.as_slice.ensures.value) (feeds-upward c.self.inside.leaps.cut c.self.inside.leaps.latest c.self.inside.feeds.items c.self.inside.fit c.self.invariant.sources.value)

pub page_within-requires-clause-chime : goal.page_within-requires-clause-chime
page_within-requires-clause-chime c = c.chime.ensures.chime ∙ ap chime_of (c.self.invariant.candidates ∙ ap (map (candidate_of c.self.inside.leaps.latest)) (sym c.as_slice.ensures.value))

pub returns : goal.returns
returns c = λ settings journal h.
    let stands = subst (λ (f : FoldFields). StandsForJournal f settings journal) (sym c.self.view_is) h in
    c.page_within.ensures ∙ page-stands _ c.armed.result _ settings journal stands (c.armed.ensures journal stands.leaps) (c.as_slice.ensures.value ∙ c.self.invariant.sources.value)
