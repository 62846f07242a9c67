-- What the search leaves open of `journals::is_journal`.
use Rattle.std.proofs.Common.{ℕ, length, arith, subst}
use Rattle.system_fold.specs.Settings.{IsKept}
use Rattle.system_fold.proofs.StandingLaws.{all-more, all-seen}
use Rattle.fold_tests.proofs.journals.is_journal.Goals as goal

pub loop-e-preserved : goal.loop-e-preserved
loop-e-preserved c = all-more (IsKept (length c.args.settings.now.sources)) c.args.journal.now c.loop-e.e-index c.e-item.result c.loop-e-test.true c.e-item.is c.loop-e.invariant kept
  where
    kept : IsKept (length c.args.settings.now.sources) c.e-item.result
    kept = subst (λ (n : ℕ). IsKept n c.e-item.result) c.count.ensures.value (c.is_kept.ensures.valid c.if-not-is_kept.false)

pub returns : goal.returns
returns c = λ _. all-seen (IsKept (length c.args.settings.now.sources)) c.args.journal.now c.loop-e.e-index (let past = c.loop-e-test.false in omega arith) c.loop-e.invariant
