-- What the search leaves open of `player::Player+BoxedReceiver::judge_and_reply`.
use Rattle.std.proofs.Common.{refl}
use Rattle.replay_command.proofs.PlayerLaws.{judges-request}
use Rattle.replay_command.proofs.player.Player+BoxedReceiver.judge_and_reply.Goals as goal

pub returns-clause-given : goal.returns-clause-given
returns-clause-given g c of before h =
    judges-request _ c.args.self.now _ of before c.args.connection c.args.arrived c.args.sent c.args.request.now.datagram.now c.sender_of.result c.judge-judged.result c.reply.result c.page-page.result
    refl refl refl refl refl c.sender_of.ensures c.judge-judged.ensures.judged c.judge-judged.ensures.table c.reply.ensures.replied (c.page-page.ensures of before h) h
