-- What stays true in the loop of `minutes::append_all`.
use Rattle.std.proofs.Common.{length}
use Rattle.feed_workers.specs.Keeping.{IsOfFeed}
use Rattle.page_cell.specs.Passes.{claim_of}
use Rattle.worker_tests.proofs.minutes.append_all.Given as goal

abbrev pub invariant-loop-number : goal.invariant-loop-number
invariant-loop-number g l =
    IsOfFeed g.N.HubName.table (length g.N.HubName.settings.sources) (claim_of l.pass.view).number l.pass
