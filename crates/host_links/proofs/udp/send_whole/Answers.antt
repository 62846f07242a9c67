-- A call that took nothing, after which the datagram is sent again, is one more in vain.
use Rattle.std.proofs.Common.{◌≡◌, ◌∙◌, true, sym, ap}
use Rattle.std.specs.IoError.{error_kind}
use Rattle.host_links.specs.Sockets.{is_in_vain, is_sent_again}
use Rattle.host_links.specs.Sockets.Passed.{TookNone}
use Rattle.host_links.proofs.SocketLaws.{one_more}
use Rattle.host_links.proofs.udp.send_whole.Goals as goal

pub loop-preserved : goal.loop-preserved
loop-preserved g c =
    let again : is_sent_again (error_kind c.in-Err.e) ≡ true = ap is_sent_again (sym c.kind-kind.ensures) ∙ sym c.is_sent_again.ensures ∙ c.if-not-is_sent_again.false in
    one_more is_in_vain _ _ _ (TookNone c.receiver-at.result (error_kind c.in-Err.e)) c.loop.invariant again c.in-Err.ensures.taken
