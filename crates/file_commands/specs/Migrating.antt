-- The command `migrate`: it reads a journal of either form and writes it in the second form, with the numbers and rates that a
-- station gives. All of it is this project's own.
use Rattle.std.specs.Prelude.{◌≡◌, ℕ, ◌+◌, ◌<◌, ◌^◌, ◌==◌, List, [], ◌∷◌, length, map, if◌then◌else◌}
use Rattle.outside_traits.specs.Openings.{OutsideState}
use Rattle.journal_entry.specs.Valid.{IsValid}
use Rattle.journal_entry.specs.Lines.{IsLineText, entry_of, form_of}
use Rattle.journal_entry.specs.declared.entry.Entry.{Entry}
use Rattle.journal_entry.specs.declared.line.JournalLine.{JournalLine}
use Rattle.journal_entry.specs.declared.line.JournalLine.TheVariants.{Bare, Numbered}
use Rattle.journal_entry.specs.declared.numbered.Numbered.{Numbered as NumberedEntry}
use Rattle.line_files.specs.Items.{Saying}
use Rattle.line_files.specs.Texts.{journal_text}
use Rattle.station_values.specs.Station.{StationFields, settings_of}
use Rattle.system_fold.specs.Numbered.{numbered_next}
use Rattle.system_fold.specs.Page.{page_of}
use Rattle.system_fold.specs.Settings.{SettingsFields}
use Rattle.command_ends.specs.Effects.{Effect}
use Rattle.command_ends.specs.Endings.{ending_at}
use Rattle.line_files.specs.LineFiles.{LineFile, RunsAgainst, HasGoodFile}
use Rattle.command_ends.specs.declared.ending.Ending.{Ending}
use Rattle.command_ends.specs.declared.ending.Ending.TheVariants.{Full}
use Rattle.command_ends.specs.declared.ending.subject.Subject.TheVariants.{Journal}
use Rattle.file_reader.specs.declared.log_end.LogEnd.{LogEnd}
use Rattle.file_reader.specs.declared.log_end.LogEnd.TheVariants as log

-- a journal has at most 2^22 lines
abbrev pub most_lines : ℕ
most_lines = 4194304

-- the entries that lines have
abbrev pub entries_of : List JournalLine → List Entry
entries_of lines = map entry_of lines

-- all lines have the form of the first
abbrev pub HasFormOf : List JournalLine → JournalLine → Type 0
HasFormOf [] line = Unit {0}
HasFormOf (first ∷ more) line = form_of line ≡ form_of first

-- a line has this number and this rate, or has neither
abbrev pub StatesNumber : JournalLine → NumberedEntry → Type 0
StatesNumber (Bare e) n = Unit {0}
StatesNumber (Numbered reported) n = (reported.length ≡ n.length) × (reported.rate ≡ n.rate)

-- those of its place: where its entry stands after those before, and the rate of the page after it
abbrev pub StatesItsPlace : SettingsFields → List Entry → JournalLine → Type 0
StatesItsPlace settings before line = StatesNumber line (numbered_next settings before (entry_of line))

-- a line may stand after the lines before it: there are fewer so far than there may be, and it has their form. Its entry is valid
-- for the station, and it names its place where it names one
pub record MayStand (settings : SettingsFields) (before : List JournalLine) (line : JournalLine) : Type 0 where
  pub room : length before < most_lines
  pub form : HasFormOf before line
  pub valid : IsValid (length settings.sources) (entry_of line)
  pub place : StatesItsPlace settings (entries_of before) line

abbrev pub says_line : SettingsFields → Saying JournalLine
says_line settings before text line = IsLineText text line × MayStand settings before line

-- a line is too long at its 300th byte; after the last that there may be, at its first
abbrev pub journal_line_limit : ℕ → ℕ
journal_line_limit lines = if lines == most_lines then 1 else 300

-- how a command ends that has converted the lines so far: bytes after the last line that there may be are reported as a full
-- journal
abbrev pub migrate_ending : LogEnd → Ending
migrate_ending log.Whole = ending_at Journal log.Whole
migrate_ending log.Fault = ending_at Journal log.Fault
migrate_ending log.Long = ending_at Journal log.Long
migrate_ending (log.BadLine line) = if line == most_lines + 1 then Full most_lines else ending_at Journal (log.BadLine line)

-- a journal of at most 2^30 bytes: what its lines give, and the page of their entries
abbrev pub journal_of : StationFields → LineFile
journal_of station = record {
  Item = JournalLine;
  says = says_line (settings_of station);
  too_long = journal_line_limit;
  most = 2 ^ 30;
  text = λ lines. journal_text (settings_of station) (entries_of lines);
  page = λ lines. page_of (settings_of station) (entries_of lines);
  ending = λ end lines. migrate_ending end;
}

-- the effects that `migrate` may have, and when all that it opens has no fault
abbrev pub RunsMigrate : List ℕ → List ℕ → Effect → Type 0
RunsMigrate name journal_name = RunsAgainst Journal journal_of name journal_name

abbrev pub HasGoodJournal : List ℕ → List ℕ → OutsideState → OutsideState → Type 0
HasGoodJournal name journal_name = HasGoodFile journal_of name journal_name
