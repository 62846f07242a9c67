-- What stays true in the loops of `watch::Watch::wait`.
use Rattle.std.proofs.Common.{◌≡◌, true}
use Rattle.service_links.proofs.watch.Watch.wait.Given as goal

-- a link that had ended has ended
abbrev pub invariant-loop : goal.invariant-loop
invariant-loop g l = l.fn.self.is_over ≡ true → l.self.is_over ≡ true
