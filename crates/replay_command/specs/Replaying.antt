-- The command `replay`: it plays the lines of a script, one after another, on a station. All of it is this project's own.
use Rattle.std.specs.Prelude.{ℕ, ◌^◌, Bool, true, false, List}
use Rattle.outside_traits.specs.Openings.{OutsideState}
use Rattle.file_reader.specs.declared.reader.FileEnd.TheVariants.{Whole, Fault, TooLong}
use Rattle.replay_command.specs.Replay.{Played, is_full, lines_of, page_after}
use Rattle.replay_command.specs.Texts.{replay_text}
use Rattle.station_values.specs.Station.{StationFields}
use Rattle.command_ends.specs.Effects.{Effect}
use Rattle.command_ends.specs.Endings.{ending_at}
use Rattle.line_files.specs.LineFiles.{LineFile, RunsAgainst, HasGoodFile}
use Rattle.replay_command.specs.Script.{says_played, script_line_limit}
use Rattle.command_ends.specs.declared.ending.Ending.{Ending}
use Rattle.command_ends.specs.declared.ending.Ending.TheVariants.{Full}
use Rattle.command_ends.specs.declared.ending.subject.Subject.TheVariants.{Script}
use Rattle.file_reader.specs.declared.log_end.LogEnd.{LogEnd}
use Rattle.file_reader.specs.declared.log_end.LogEnd.TheVariants as log

-- how a command ends that has played a script so far, where entries were lost or not: of two causes the status line reports the
-- one with the lesser number
abbrev pub replay_ending : LogEnd → Bool → ℕ → Ending
replay_ending end false limit = ending_at Script end
replay_ending log.Whole true limit = Full limit
replay_ending log.Fault true limit = ending_at Script log.Fault
replay_ending log.Long true limit = Full limit
replay_ending (log.BadLine line) true limit = ending_at Script (log.BadLine line)

-- a script of at most 2^26 bytes, played with at most this many entries: what its lines give, and the page of the entries kept
abbrev pub script_of : ℕ → StationFields → LineFile
script_of limit station = record {
  Item = Played;
  says = says_played station;
  too_long = script_line_limit;
  most = 2 ^ 26;
  text = replay_text station limit;
  page = λ played. page_after station limit (lines_of played);
  ending = λ end played. replay_ending end (is_full station limit (lines_of played)) limit;
}

-- the effects that `replay` may have, and when all that it opens has no fault
abbrev pub RunsReplay : List ℕ → List ℕ → ℕ → Effect → Type 0
RunsReplay name script_name limit = RunsAgainst Script (script_of limit) name script_name

abbrev pub HasGoodScript : List ℕ → List ℕ → ℕ → OutsideState → OutsideState → Type 0
HasGoodScript name script_name limit = HasGoodFile (script_of limit) name script_name
