-- What stays true in the loops of `fold::look_all_from`.
use Rattle.std.proofs.Common.{◌≡◌}
use Rattle.system_fold.proofs.fold.look_all_from.Given as goal

abbrev pub invariant-loop-feed : goal.invariant-loop-feed
invariant-loop-feed l = l.feed-items ≡ l.fn.feeds
