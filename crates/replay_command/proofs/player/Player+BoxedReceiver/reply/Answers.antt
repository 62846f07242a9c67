-- What the search leaves open of `player::Player+BoxedReceiver::reply`.
use Rattle.std.proofs.Common.{◌≡◌, take, Err, subst, ◌∙◌}
use Rattle.reply_core.specs.Reply.{request_of}
use Rattle.script_line.specs.declared.line.ScriptLine.TheVariants.{Request}
use Rattle.replay_command.specs.KeptPlayer.{HasGiven}
use Rattle.replay_command.proofs.PlayerLaws.{drops-request}
use Rattle.replay_command.proofs.player.Player+BoxedReceiver.reply.Goals as goal

pub returns-in-Ok-clause-given : goal.returns-in-Ok-clause-given
returns-in-Ok-clause-given g c of before h =
    let e : take c.write-length.result c.write-length.new.out ≡ c.args.datagram.now = c.write-length.ensures.bytes in
    let same : c.in-Ok.request.datagram.now ≡ c.args.datagram.now = c.in-Ok.ensures.read ∙ e in
    subst (λ d. HasGiven (λ b h. (goal.Receiver-dyn g (b.vtable, b.value)).stands_for b.value h) c.judge_and_reply.new.self of before (Request c.args.connection c.args.arrived c.args.sent d) c.judge_and_reply.result) same
    (c.judge_and_reply.ensures.given of before h)

pub returns-in-Err-clause-given : goal.returns-in-Err-clause-given
returns-in-Err-clause-given g c of before h =
    let e : take c.write-length.result c.write-length.new.out ≡ c.args.datagram.now = c.write-length.ensures.bytes in
    let dropped : request_of (take c.write-length.result c.write-length.new.out) ≡ Err c.in-Err.why = c.in-Err.ensures.dropped in
    drops-request _ c.args.self.now of before c.args.connection c.args.arrived c.args.sent c.args.datagram.now c.in-Err.why
    (subst (λ d. request_of d ≡ Err c.in-Err.why) e dropped) h
