-- The lines of a replay script, up to the first bad one.
use Rattle.std.specs.Prelude.{◌≡◌, ℕ, true}
use Rattle.line_files.specs.Items.{Saying}
use Rattle.script_line.specs.Texts.{IsTextOf}
use Rattle.script_line.specs.declared.line.ScriptLine.{ScriptLine}
use Rattle.replay_command.specs.Replay.{Played, MayBePlayed, is_valid, lines_of}
use Rattle.station_values.specs.Station.{StationFields}

-- a text says a line that may stand after the lines before it
abbrev pub says_line : StationFields → Saying ScriptLine
says_line station before text line = IsTextOf text line × (is_valid station before line ≡ true)

-- the same of a line that was played: where the gate takes memory for the sender of a request, either outcome may be answered
abbrev pub says_played : StationFields → Saying Played
says_played station before text played = says_line station (lines_of before) text played.line × MayBePlayed station before played

-- a line is too long at its 4096th byte, wherever it stands
abbrev pub script_line_limit : ℕ → ℕ
script_line_limit lines = 4096
