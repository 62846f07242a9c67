-- What stays true in the loop of `journal_tests::append_in_turn`.
use Rattle.std.proofs.Common.{length}
use Rattle.feed_workers.specs.Keeping.{IsOfFeed}
use Rattle.page_cell.specs.Passes.{claim_of}
use Rattle.worker_tests.proofs.journal_tests.append_in_turn.Given as goal

abbrev pub invariant-loop-number : goal.invariant-loop-number
invariant-loop-number g l =
    IsOfFeed g.N.HubName.table (length g.N.HubName.settings.sources) (claim_of l.first.view).number l.first
    × IsOfFeed g.N.HubName.table (length g.N.HubName.settings.sources) (claim_of l.second.view).number l.second
