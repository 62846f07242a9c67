-- What stays true in the loops of `udp::send_whole`.
use Rattle.host_links.specs.Sockets.{Repeats, is_in_vain}
use Rattle.host_links.proofs.udp.send_whole.Given as goal

-- the calls so far took nothing
abbrev pub invariant-loop : goal.invariant-loop
invariant-loop g l = Repeats is_in_vain (g.S.DatagramSocket.passed l.fn.socket) (g.S.DatagramSocket.passed l.socket)
