-- What stays true in the loops of `link::ServiceLink::pause`.
use Rattle.std.proofs.Common.{◌≡◌, true}
use Rattle.service_links.proofs.link.ServiceLink.pause.Given as goal

-- only the watch changes, and a link that had ended has ended
abbrev pub invariant-loop : goal.invariant-loop
invariant-loop g l = record {
  over : l.fn.self.watch.is_over ≡ true → l.self.watch.is_over ≡ true;
  others : l.self ≡ record l.fn.self { watch = l.self.watch };
}
