-- Scaffolding: how the lines of a script are taken.
use Rattle.line_files.specs.LineTaking.{LineWay}
use Rattle.radio_receiver.specs.Histories.{History}
use Rattle.replay_command.specs.KeptPlayer.{HasPlayed}
use Rattle.replay_command.specs.Replay.{ReplayCase}
use Rattle.replay_command.specs.Replaying.{script_of}
use Rattle.replay_command.specs.declared.player.Player.{Player}

-- by a player, which stands for those that it has played
abbrev pub script_way : {B : Type 0} → (B → History → Type 0) → ReplayCase → LineWay (Player B)
script_way stands of = record { file = script_of of.limit of.station; stands = λ player played bad. HasPlayed stands player of played }
