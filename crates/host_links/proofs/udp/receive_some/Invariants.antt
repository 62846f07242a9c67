-- What stays true in the loops of `udp::receive_some`.
use Rattle.host_links.specs.Sockets.{Repeats, is_passed_over}
use Rattle.host_links.proofs.udp.receive_some.Given as goal

-- the calls so far gave nothing that can be answered
abbrev pub invariant-loop : goal.invariant-loop
invariant-loop g l = Repeats is_passed_over (g.S.DatagramSocket.passed l.fn.socket) (g.S.DatagramSocket.passed l.socket)
