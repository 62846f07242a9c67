-- How a command ends: its status with its number, and the status line. The numbers and lines are this project's own.
use Rattle.std.specs.Prelude.{ℕ, List, ◌++◌, codes, decimal}
use Rattle.command_ends.specs.declared.ending.Ending.{Ending}
use Rattle.command_ends.specs.declared.ending.Ending.TheVariants.{Whole, WrongWords, NotOpened, NotRead, WrongLine, Full, NoMemory, LinkFailed, Long}
use Rattle.file_reader.specs.declared.log_end.LogEnd.{LogEnd}
use Rattle.file_reader.specs.declared.log_end.LogEnd.TheVariants as log
use Rattle.command_ends.specs.declared.ending.status.Status.{Status}
use Rattle.command_ends.specs.declared.ending.status.Status.TheVariants.{Done, Usage, OpenFault, Station, ReadFault, BadLine, JournalFull, LinkFault, WriteFault, Memory, TooLong}
use Rattle.command_ends.specs.declared.ending.subject.Subject.{Subject}
use Rattle.command_ends.specs.declared.ending.subject.Subject.TheVariants as subject

abbrev pub number_of : Status → ℕ
number_of Done = 0
number_of Usage = 1
number_of OpenFault = 2
number_of Station = 3
number_of ReadFault = 4
number_of BadLine = 5
number_of JournalFull = 6
number_of LinkFault = 7
number_of WriteFault = 8
number_of Memory = 9
number_of TooLong = 10

abbrev pub status_of : Ending → Status
status_of Whole = Done
status_of WrongWords = Usage
status_of (NotOpened what) = OpenFault
status_of (NotRead what) = ReadFault
status_of (WrongLine what line) = BadLine
status_of (Full limit) = JournalFull
status_of (LinkFailed what) = LinkFault
status_of NoMemory = Memory
status_of (Long what) = TooLong

-- what a status line calls a file or a link
abbrev pub name_of : Subject → List ℕ
name_of subject.Station = codes "station"
name_of subject.Script = codes "script"
name_of subject.Journal = codes "journal"
name_of (subject.Feed number) = codes "feed " ++ decimal number
name_of (subject.Link number) = codes "link " ++ decimal number

-- where a line of it stands: a line of a log is named by its feed
abbrev pub place_of : Subject → List ℕ
place_of (subject.Feed number) = codes "line " ++ decimal number
place_of subject.Station = codes "station"
place_of subject.Script = codes "script"
place_of subject.Journal = codes "journal"
place_of (subject.Link number) = codes "link " ++ decimal number

-- the last line that is written
abbrev pub status_line : Ending → List ℕ
status_line Whole = codes "status 0\n"
status_line WrongWords = codes "status 1 usage\n"
status_line (NotOpened what) = codes "status 2 open " ++ name_of what ++ codes "\n"
status_line (NotRead what) = codes "status 4 read " ++ name_of what ++ codes "\n"
status_line (WrongLine what line) = codes "status 5 " ++ place_of what ++ codes " " ++ decimal line ++ codes "\n"
status_line (Full limit) = codes "status 6 full " ++ decimal limit ++ codes "\n"
status_line (LinkFailed what) = codes "status 7 " ++ name_of what ++ codes "\n"
status_line NoMemory = codes "status 9 memory\n"
status_line (Long what) = codes "status 10 long " ++ name_of what ++ codes "\n"

-- how a command ends that has read a file so far
abbrev pub ending_at : Subject → LogEnd → Ending
ending_at what log.Whole = Whole
ending_at what log.Fault = NotRead what
ending_at what log.Long = Long what
ending_at what (log.BadLine line) = WrongLine what line
