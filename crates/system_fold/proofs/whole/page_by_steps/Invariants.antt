-- What stays true in the loops of `whole::page_by_steps`.
use Rattle.std.proofs.Common.{take}
use Rattle.system_fold.specs.KeptFold.{StandsForJournal}
use Rattle.system_fold.proofs.whole.page_by_steps.Given as goal

abbrev pub invariant-loop-entry : goal.invariant-loop-entry
invariant-loop-entry l = StandsForJournal l.fold l.settings (take l.entry-index l.journal)
