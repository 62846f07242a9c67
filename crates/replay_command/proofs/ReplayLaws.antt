-- What one line more does to what a script comes to.
use Rattle.std.proofs.Common.{◌≡◌, ℕ, true, Ok, Err, Result, List, [], ◌∷◌, ◌++◌, refl}
use Rattle.std.proofs.lemmas.List.{map-append}
use Rattle.std.proofs.lemmas.List.Sums.{fold-append}
use Rattle.kiss_gate.specs.Gates.{Gate}
use Rattle.ntp_packet.specs.declared.header.Header.{Header}
use Rattle.reply_core.specs.Reply.{request_of}
use Rattle.reply_core.specs.declared.dropped.Dropped.{Dropped as WhyDropped}
use Rattle.station_values.specs.Station.{StationFields, gate_of}
use Rattle.script_line.specs.declared.line.ScriptLine.{ScriptLine}
use Rattle.script_line.specs.declared.line.ScriptLine.TheVariants.{Pulse, Ask, Answer, Swap, Request, Leap}
use Rattle.replay_command.specs.Replay.{MayBePlayed, MayKeep, MayKeepSender, Played, gate_after, gate_with, lines_of, outcome, played_so, sender_of}
use Rattle.replay_command.specs.Texts.{outcome_text, replay_text}
use Rattle.replay_command.proofs.LineLaws.{each_after-push}

-- the lines
pub lines_push : (before : List Played) (p : Played) → lines_of (before ++ p ∷ []) ≡ lines_of before ++ p.line ∷ []
lines_push before p = map-append (λ q. q.line) before (p ∷ [])

-- the gate
pub gate_push : (station : StationFields) (before : List Played) (p : Played) → gate_after station (before ++ p ∷ []) ≡ gate_with (gate_after station before) p.line p.kept
gate_push station before p = fold-append (λ gate q. gate_with gate q.line q.kept) (gate_of station) before (p ∷ [])

-- the text
pub replay_push : (station : StationFields) (limit : ℕ) (before : List Played) (p : Played) →
    replay_text station limit (before ++ p ∷ []) ≡ replay_text station limit before ++ outcome_text (outcome station limit before p)
replay_push station limit before p = each_after-push (λ b q. outcome_text (outcome station limit b q)) [] before p

-- every line may be played so that its sender's judging is kept
sender_may : (r : Result Header WhyDropped) (gate : Gate) (ip at : ℕ) → MayKeepSender r gate ip at true
sender_may (Ok request) gate ip at = λ never. absurd (cc)
sender_may (Err why) gate ip at = refl

line_may : (gate : Gate) (line : ScriptLine) → MayKeep gate line true
line_may gate (Pulse feed reduction) = refl
line_may gate (Ask feed at) = refl
line_may gate (Answer feed at datagram) = refl
line_may gate (Swap feed) = refl
line_may gate (Leap feed at leap_at) = refl
line_may gate (Request connection arrived sent datagram) = sender_may (request_of datagram) gate (sender_of connection) arrived

pub may_be_kept : (station : StationFields) (before : List Played) (line : ScriptLine) → MayBePlayed station before (played_so line true)
may_be_kept station before line = line_may (gate_after station before) line
