-- What the search leaves open of `whole::page_by_steps`.
use Rattle.std.proofs.Common.{take}
use Rattle.system_fold.proofs.StandingLaws.{kept-at}
use Rattle.system_fold.proofs.whole.page_by_steps.Goals as goal

pub step-requires-clause-valid : goal.step-requires-clause-valid
step-requires-clause-valid c = kept-at c.loop-entry.fold c.args.settings.now (take c.loop-entry.entry-index c.args.journal.now) c.args.journal.now c.loop-entry.entry-index c.entry-item.result c.loop-entry.invariant c.requires.entries c.loop-entry-test.true c.entry-item.is
