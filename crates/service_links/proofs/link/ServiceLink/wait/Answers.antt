-- A call that gave nothing that can be answered is one more that is passed over, and the last call ends the waiting.
use Rattle.std.proofs.Common.{Some, rules}
use Rattle.host_links.specs.Sockets.{PassesOver, is_passed_over}
use Rattle.host_links.proofs.SocketLaws.{one_more}
use Rattle.service_links.specs.Held.{GivesPart}
use Rattle.service_links.proofs.HeldLaws.{gives_waited}
use Rattle.service_links.proofs.link.ServiceLink.wait.Goals as goal

pub returns-in-Ok-Some-clause-given : goal.returns-in-Ok-Some-clause-given
returns-in-Ok-Some-clause-given g c =
    let part : GivesPart (g.S.DatagramSocket.passed c.loop.self.socket) (g.S.DatagramSocket.passed c.wait_once.new.self.socket) (Some c.in-Ok-Some.waited) c.wait_once.new.piece = rw c.in-Ok-Some.field-0-is at c.in-Ok-Some.ensures.given in
    gives_waited _ _ _ c.in-Ok-Some.waited _ c.loop.invariant.calls part

pub returns-in-Err-clause-given : goal.returns-in-Err-clause-given
returns-in-Err-clause-given g c = one_more is_passed_over _ _ _ c.in-Err.ensures.given.call c.loop.invariant.calls c.in-Err.ensures.given.over c.in-Err.ensures.given.added

pub loop-preserved : goal.loop-preserved
loop-preserved g c =
    let over : PassesOver (g.S.DatagramSocket.passed c.loop.self.socket) (g.S.DatagramSocket.passed c.wait_once.new.self.socket) = rw c.in-Ok-None.field-0-is at c.in-Ok-None.ensures.given in
    record {
      calls = one_more is_passed_over _ _ _ over.call c.loop.invariant.calls over.over over.added;
      others = search rules;
    }
