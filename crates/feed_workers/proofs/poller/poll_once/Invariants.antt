-- What stays true in the loops of `poller::poll_once`.
use Rattle.std.proofs.Common.{◌≡◌, ◌≤◌, ℕ}
use Rattle.std.specs.Option.{ForSome}
use Rattle.outside_traits.specs.States.{LinkState}
use Rattle.page_cell.specs.declared.view.Claim.{Claim}
use Rattle.poll_core.specs.Polling.{asked_at}
use Rattle.feed_workers.specs.Asking.{InRound, Polled}
use Rattle.feed_workers.specs.Keeping.{IsOfFeed, share_of}
use Rattle.feed_workers.specs.Polling.{session_at}
use Rattle.feed_workers.proofs.poller.poll_once.Given as goal

-- the request was sent, and none of the hearings so far ends the round
abbrev pub invariant-hearings : goal.invariant-hearings
invariant-hearings g l = record {
  link : g.L.Link.opening l.link ≡ g.L.Link.opening l.fn.link;
  pass : IsOfFeed g.K.Recorder.table g.K.Recorder.sources l.fn.peer.feed l.pass;
  asked : ForSome (asked_at l.poll) (λ moment. moment ≤ (g.L.Link.state l.link).latest);
  so_far : (before : LinkState) (begun : Claim) (count : ℕ) →
      Polled l.fn.poll (session_at l.fn.peer.server before (g.L.Link.state l.fn.link) (share_of begun l.fn.pass g.K.Recorder.limit l.fn.full)) count → begun.number ≡ l.fn.peer.feed →
      InRound l.poll (session_at l.fn.peer.server before (g.L.Link.state l.link) (share_of begun l.pass g.K.Recorder.limit l.full)) count l.counter;
}
