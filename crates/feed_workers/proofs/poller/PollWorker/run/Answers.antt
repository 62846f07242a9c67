-- What the search leaves open of `poller::PollWorker::run`.
use Rattle.std.proofs.Common.{rules, refl}
use Rattle.feed_workers.proofs.PollLaws.{polled_none}
use Rattle.feed_workers.proofs.poller.PollWorker.run.Goals as goal

pub polls-init : goal.polls-init
polls-init g c = record {
  link = refl;
  pass = rw c.number-feed.ensures c.requires;
  polled = polled_none c.args.self.now.server _ _ _ c.new-poll.result c.new-poll.ensures.polled;
}

pub returns-in-Some-clause-runs : goal.returns-in-Some-clause-runs
returns-in-Some-clause-runs g c = c.in-Some.ensures.stops _ _ c.polls.counter c.args.self.now.polls (search rules) c.polls.invariant.polled (search rules)
