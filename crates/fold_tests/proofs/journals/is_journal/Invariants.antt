-- What stays true in the loops of `journals::is_journal`.
use Rattle.std.proofs.Common.{length, take}
use Rattle.std.specs.Prelude.{All}
use Rattle.system_fold.specs.Settings.{IsKept}
use Rattle.fold_tests.proofs.journals.is_journal.Given as goal

abbrev pub invariant-loop-e : goal.invariant-loop-e
invariant-loop-e l = All (IsKept (length l.settings.sources)) (take l.e-index l.journal)
