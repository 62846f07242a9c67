-- What stays true in the loops of `tests::play_lines`.
use Rattle.replay_command.specs.KeptPlayer.{IsReady}
use Rattle.player_tests.proofs.script_tests.play_lines.Given as goal

abbrev pub invariant-loop-words : goal.invariant-loop-words
invariant-loop-words g l = IsReady (λ b. (goal.Receiver-dyn g (b.vtable, b.value)).least_start b.value) l.player
