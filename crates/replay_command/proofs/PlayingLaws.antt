-- The text of a script's lines.
use Rattle.std.proofs.Common.{◌≡◌, ℕ, Some, List, [], ◌∷◌, ◌++◌, take, ap, sym, ◌∙◌}
use Rattle.radio_receiver.specs.Histories.{History}
use Rattle.line_files.specs.LineTaking.{LineTexts, TakesLine}
use Rattle.replay_command.specs.KeptPlayer.{HasPlayed}
use Rattle.replay_command.specs.Playing.{script_way}
use Rattle.replay_command.specs.Replay.{Played, ReplayCase, outcome}
use Rattle.replay_command.specs.Script.{says_played}
use Rattle.replay_command.specs.Texts.{outcome_text, replay_text}
use Rattle.replay_command.specs.declared.player.Player.{Player}
use Rattle.replay_command.proofs.ReplayLaws.{replay_push}

-- a line that was played adds its own text
pub takes_played : {B : Type 0} (stands : B → History → Type 0) (player : Player B) (of : ReplayCase) (before : List Played) (line : LineTexts) (size : ℕ) (played : Played) →
    says_played of.station before line.text played → HasPlayed stands player of (before ++ played ∷ []) → take size line.given ≡ outcome_text (outcome of.station of.limit before played) →
    TakesLine (script_way stands of) player before line (Some size)
takes_played stands player of before line size played says stood is =
    (played, says, stood, replay_push of.station of.limit before played ∙ ap (λ (t : List ℕ). replay_text of.station of.limit before ++ t) (sym is))
