-- What the search leaves open of `player::Player+BoxedReceiver::is_full`.
use Rattle.station_values.specs.Station.{settings_of}
use Rattle.replay_command.specs.Replay.{due, lines_of}
use Rattle.replay_command.proofs.player.Player+BoxedReceiver.is_full.Goals as goal

pub returns : goal.returns
returns g c of before h = c.is_full.ensures (settings_of of.station) of.limit (due of.station (lines_of before)) h.journal
