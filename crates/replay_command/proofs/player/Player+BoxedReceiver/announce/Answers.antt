-- What the search leaves open of `player::Player+BoxedReceiver::announce`.
use Rattle.std.proofs.Common.{refl}
use Rattle.std.proofs.lemmas.Result.{err_from_is_err_and}
use Rattle.replay_command.specs.Replay.{lines_of}
use Rattle.replay_command.proofs.PlayerLaws.{still-leap, reports-leap}
use Rattle.replay_command.proofs.player.Player+BoxedReceiver.announce.Goals as goal

pub returns-in_err-entry-clause-plays : goal.returns-in_err-entry-clause-plays
returns-in_err-entry-clause-plays g c of before h =
    let p = err_from_is_err_and c.from_residual.result c.from_residual.ensures.1 in
    rw p.1 (still-leap _ c.args.self.now _ of before _ refl refl refl refl refl (c.in_err-entry.ensures.reported of.station (lines_of before) h.leap) h)

pub returns-clause-plays : goal.returns-clause-plays
returns-clause-plays g c of before h =
    reports-leap _ c.args.self.now _ of before c.args.feed c.args.at c.args.leap_at c.in_ok-entry.entry c.take.result
    (c.in_ok-entry.ensures.reported of.station (lines_of before) h.leap) refl refl refl refl c.take.ensures.kept c.take.ensures.outcome h
