-- What stays true in the loops of `link::ServiceLink::wait`.
use Rattle.std.proofs.Common.{◌≡◌}
use Rattle.host_links.specs.Sockets.{Repeats, is_passed_over}
use Rattle.service_links.proofs.link.ServiceLink.wait.Given as goal

-- the calls so far gave nothing that can be answered, and only the socket and the watch changed
abbrev pub invariant-loop : goal.invariant-loop
invariant-loop g l = record {
  calls : Repeats is_passed_over (g.S.DatagramSocket.passed l.fn.self.socket) (g.S.DatagramSocket.passed l.self.socket);
  others : l.self ≡ record l.fn.self { socket = l.self.socket; watch = l.self.watch };
}
