-- What the last line of a command reports, and its status.
use Rattle.std.specs.Prelude.{ℕ, List, ◌++◌}
use Rattle.outside_traits.specs.States.{SinkState}
use Rattle.command_ends.specs.Endings.{status_of, status_line}
use Rattle.command_ends.specs.StationFile.{station_line}
use Rattle.command_ends.specs.declared.ending.status.Status.{Status}
use Rattle.command_ends.specs.declared.ending.status.Status.TheVariants.{Station, WriteFault}
use Rattle.command_ends.specs.declared.report.Report.{Report}
use Rattle.command_ends.specs.declared.report.Report.TheVariants.{Ended, Refused, Unwritten}
use Rattle.outside_traits.specs.Writing.{WritesAll, WritesPrefix}

abbrev pub status_in : Report → Status
status_in (Ended ending) = status_of ending
status_in (Refused fault) = Station
status_in Unwritten = WriteFault

-- a text was written whole, and this line is its last
abbrev pub EndsInLine : List ℕ → SinkState → SinkState → Type 0
EndsInLine line out out_now = (before : List ℕ) × WritesAll out out_now (before ++ line)

-- the last line that was written reports this; or a write failed, and nothing was written after it
abbrev pub Reports : Report → SinkState → SinkState → Type 0
Reports (Ended ending) out out_now = EndsInLine (status_line ending) out out_now
Reports (Refused fault) out out_now = EndsInLine (station_line fault) out out_now
Reports Unwritten out out_now = (text : List ℕ) × WritesPrefix out out_now text
