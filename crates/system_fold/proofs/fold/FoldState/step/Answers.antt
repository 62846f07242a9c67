-- What the search leaves open of `fold::FoldState::step`.
use Rattle.std.proofs.Common.{◌++◌, ◌∷◌, [], ◌∙◌, refl, ap, length, subst, sym, List, arith}
use Rattle.std.specs.Prelude.{All}
use Rattle.journal_entry.specs.Valid.{IsValid}
use Rattle.system_fold.specs.Fit.{AreFit, IsSound}
use Rattle.system_fold.specs.KeptFold.{StandsForJournal, FoldFields, kept_by}
use Rattle.system_fold.specs.declared.feed.Feed.{Feed}
use Rattle.system_fold.proofs.SoundLaws.{sound-feeds}
use Rattle.system_fold.proofs.StandingLaws.{few, stands-step}
use Rattle.system_fold.proofs.SweepLaws.{few-standing, stands-same}
use Rattle.system_fold.proofs.fold.FoldState.step.Goals as goal

pub step-requires : goal.step-requires
step-requires c =
    let valid = subst (λ (f : FoldFields). IsValid (length f.feeds) c.args.e.now) (sym c.self.view_is) c.requires.valid in
    let below = valid.feed in
    let most = few _ _ _ c.self.invariant in
    omega arith

pub find_fit-requires-clause-sound : goal.find_fit-requires-clause-sound
find_fit-requires-clause-sound c = subst (All (IsSound c.step.new.self.latest)) (sym c.as_slice.ensures.value) (sound-feeds _ _ _ (stands-step (kept_by c.self.inside) _ c.take_sample.new.feeds c.step.new.self c.args.e.now refl (record { valid = subst (λ (f : FoldFields). IsValid (length f.feeds) c.args.e.now) (sym c.self.view_is) c.requires.valid; moment = c.step.ensures.moment }) (λ settings journal same. c.take_sample.ensures settings journal (c.as_mut_slice.ensures.value ∙ same)) c.step.ensures.leaps c.self.invariant.settings c.self.invariant.journal c.self.invariant.stands))

pub find_fit-requires-clause-standing : goal.find_fit-requires-clause-standing
find_fit-requires-clause-standing c = few-standing _ _ _ _ _ _ c.self.invariant.sources c.self.invariant.candidates (ap (λ (fs : List Feed). length fs) c.as_slice.ensures.value ∙ stands-same _ _ _ _ _ c.self.invariant.stands (stands-step (kept_by c.self.inside) _ c.take_sample.new.feeds c.step.new.self c.args.e.now refl (record { valid = subst (λ (f : FoldFields). IsValid (length f.feeds) c.args.e.now) (sym c.self.view_is) c.requires.valid; moment = c.step.ensures.moment }) (λ settings journal same. c.take_sample.ensures settings journal (c.as_mut_slice.ensures.value ∙ same)) c.step.ensures.leaps c.self.invariant.settings c.self.invariant.journal c.self.invariant.stands))

pub invariant_of-self : goal.invariant_of-self
invariant_of-self c = record {
  settings = c.self.invariant.settings;
  journal = c.self.invariant.journal ++ c.args.e.now ∷ [];
  stands = stands-step (kept_by c.self.inside) _ c.take_sample.new.feeds c.step.new.self c.args.e.now refl (record { valid = subst (λ (f : FoldFields). IsValid (length f.feeds) c.args.e.now) (sym c.self.view_is) c.requires.valid; moment = c.step.ensures.moment }) (λ settings journal same. c.take_sample.ensures settings journal (c.as_mut_slice.ensures.value ∙ same)) c.step.ensures.leaps c.self.invariant.settings c.self.invariant.journal c.self.invariant.stands;
  sources = subst (λ (fs : List Feed). AreFit c.step.new.self.cut c.step.new.self.latest fs c.find_fit.new.fit) c.as_slice.ensures.value c.find_fit.ensures.fit;
  candidates = c.find_fit.ensures.sweep;
}

pub returns : goal.returns
returns c = λ settings journal h. stands-step (kept_by c.self.inside) _ c.take_sample.new.feeds c.step.new.self c.args.e.now refl (record { valid = subst (λ (f : FoldFields). IsValid (length f.feeds) c.args.e.now) (sym c.self.view_is) c.requires.valid; moment = c.step.ensures.moment }) (λ settings journal same. c.take_sample.ensures settings journal (c.as_mut_slice.ensures.value ∙ same)) c.step.ensures.leaps settings journal (subst (λ (f : FoldFields). StandsForJournal f settings journal) (sym c.self.view_is) h)
