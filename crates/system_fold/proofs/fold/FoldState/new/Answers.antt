-- What the search leaves open of `fold::FoldState::new`.
use Rattle.std.proofs.Common.{◌≤◌, [], ◌∙◌, ap, refl, length, subst, List}
use Rattle.std.specs.Prelude.{map}
use Rattle.system_fold.specs.KeptFold.{blank}
use Rattle.system_fold.specs.declared.settings.SourceKind.{SourceKind}
use Rattle.system_fold.proofs.StandingLaws.{stands-nil}
use Rattle.system_fold.proofs.SweepLaws.{blank-fit, none-standing}
use Rattle.system_fold.proofs.fold.FoldState.new.Goals as goal

pub invariant_of-result : goal.invariant_of-result
invariant_of-result c =
    let blanks = c.blank_feeds.ensures ∙ ap (map blank) c.sources.ensures.value in
    record {
      settings = c.args.settings.now;
      journal = [];
      stands = stands-nil _ c.args.settings.now c.requires (subst (λ (xs : List SourceKind). length xs ≤ 16) c.sources.ensures.value c.sources.ensures.few) c.bound.ensures blanks c.new.ensures refl;
      sources = blank-fit _ _ _ c.args.settings.now.sources _ blanks c.new-2.ensures;
      candidates = none-standing _ _ _ c.new-2.ensures c.new-3.ensures;
    }

pub returns : goal.returns
returns c = stands-nil _ c.args.settings.now c.requires (subst (λ (xs : List SourceKind). length xs ≤ 16) c.sources.ensures.value c.sources.ensures.few) c.bound.ensures (c.blank_feeds.ensures ∙ ap (map blank) c.sources.ensures.value) c.new.ensures refl
