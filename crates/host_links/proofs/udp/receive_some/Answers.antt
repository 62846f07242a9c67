-- A call that gave nothing that can be answered is one more that is passed over.
use Rattle.host_links.specs.Sockets.{PassesOver, is_passed_over}
use Rattle.host_links.proofs.SocketLaws.{one_more}
use Rattle.host_links.proofs.udp.receive_some.Goals as goal

pub returns-in-Err-clause-given : goal.returns-in-Err-clause-given
returns-in-Err-clause-given g c = one_more is_passed_over _ _ _ c.in-Err.ensures.call c.loop.invariant c.in-Err.ensures.over c.in-Err.ensures.added

pub loop-preserved : goal.loop-preserved
loop-preserved g c =
    let over : PassesOver (g.S.DatagramSocket.passed c.loop.socket) (g.S.DatagramSocket.passed c.receive_once.new.socket) = rw c.in-Ok-PassedOver.field-0-is at c.in-Ok-PassedOver.ensures in
    one_more is_passed_over _ _ _ over.call c.loop.invariant over.over over.added
