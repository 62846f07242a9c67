-- What the search leaves open of `player::Player+BoxedReceiver::ask`.
use Rattle.std.proofs.Common.{refl}
use Rattle.std.proofs.lemmas.Result.{err_from_is_err_and}
use Rattle.replay_command.specs.Replay.{lines_of}
use Rattle.replay_command.proofs.PlayerLaws.{asks-server, still-servers}
use Rattle.replay_command.proofs.player.Player+BoxedReceiver.ask.Goals as goal

pub returns-in_err-request-clause-plays : goal.returns-in_err-request-clause-plays
returns-in_err-request-clause-plays g c of before h =
    let p = err_from_is_err_and c.from_residual.result c.from_residual.ensures.1 in
    rw p.1 (still-servers _ c.args.self.now _ of before _ refl refl refl refl refl (c.in_err-request.ensures.asked of.station (lines_of before) h.servers) h)

pub returns-clause-plays : goal.returns-clause-plays
returns-clause-plays g c of before h =
    asks-server _ c.args.self.now _ of before c.args.feed c.args.at c.in_ok-request.request
    (c.in_ok-request.ensures.asked of.station (lines_of before) h.servers) c.in_ok-request.ensures.request refl refl refl refl refl h
