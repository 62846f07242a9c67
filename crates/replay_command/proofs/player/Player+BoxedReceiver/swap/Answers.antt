-- What the search leaves open of `player::Player+BoxedReceiver::swap`.
use Rattle.std.proofs.Common.{refl}
use Rattle.std.proofs.lemmas.Result.{err_from_is_err_and}
use Rattle.replay_command.specs.Replay.{lines_of}
use Rattle.replay_command.proofs.PlayerLaws.{still, swaps-radio}
use Rattle.replay_command.proofs.player.Player+BoxedReceiver.swap.Goals as goal

pub returns-in_err-swap-clause-plays : goal.returns-in_err-swap-clause-plays
returns-in_err-swap-clause-plays g c of before h =
    let p = err_from_is_err_and c.from_residual.result c.from_residual.ensures.1 in
    rw p.1 (still _ c.args.self.now _ of before _ refl refl refl refl refl (c.in_err-swap.ensures.swapped of.station (lines_of before) h.radios) h)

pub returns-clause-plays : goal.returns-clause-plays
returns-clause-plays g c of before h =
    swaps-radio _ c.args.self.now _ of before c.args.feed (c.in_ok-swap.ensures.swapped of.station (lines_of before) h.radios) refl refl refl refl refl h
