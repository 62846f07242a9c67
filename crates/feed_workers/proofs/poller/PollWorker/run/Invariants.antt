-- What stays true in the loops of `poller::PollWorker::run`.
use Rattle.std.proofs.Common.{◌≡◌, length}
use Rattle.page_cell.specs.Passes.{claim_of}
use Rattle.feed_workers.specs.Asking.{Polled}
use Rattle.feed_workers.specs.Keeping.{IsOfFeed, share_of}
use Rattle.feed_workers.specs.Polling.{session_at}
use Rattle.feed_workers.proofs.poller.PollWorker.run.Given as goal

-- this many whole rounds were made
abbrev pub invariant-polls : goal.invariant-polls
invariant-polls g l = record {
  link : g.L.Link.opening l.link ≡ g.L.Link.opening l.fn.self.link;
  pass : IsOfFeed g.N.HubName.table (length g.N.HubName.settings.sources) l.feed l.pass;
  polled : Polled l.poll (session_at l.fn.self.server (g.L.Link.state l.fn.self.link) (g.L.Link.state l.link) (share_of (claim_of l.fn.self.pass.view) l.pass g.N.HubName.limit l.full)) l.counter;
}
