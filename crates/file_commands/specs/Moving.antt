-- Scaffolding: the lines that a converter of journals has taken, and their entries.
use Rattle.std.specs.Prelude.{◌≡◌, ℕ, Option, None, Some, List, [], ◌∷◌, ◌++◌, length}
use Rattle.clock_page.specs.Page.{PageFields}
use Rattle.journal_entry.specs.Lines.{entry_of, form_of}
use Rattle.journal_entry.specs.declared.entry.Entry.{Entry}
use Rattle.journal_entry.specs.declared.line.Form.{Form}
use Rattle.journal_entry.specs.declared.line.JournalLine.{JournalLine}
use Rattle.journal_entry.specs.declared.numbered.Numbered.{Numbered}
use Rattle.system_fold.specs.KeptFold.{FoldFields, StandsForJournal}
use Rattle.system_fold.specs.Numbered.{numbered_next}
use Rattle.system_fold.specs.Page.{page_of}
use Rattle.system_fold.specs.Settings.{SettingsFields}
use Rattle.line_files.specs.LineTaking.{LineWay}
use Rattle.station_values.specs.Station.{StationFields, settings_of}
use Rattle.file_commands.specs.Migrating.{MayStand, entries_of, journal_of}

-- the fold of the entries taken, the page after the last that was converted, the form of the lines, and the number of feeds
pub record MoverFields : Type 0 where
  pub fold : FoldFields
  pub page : PageFields
  pub form : Option Form
  pub sources : ℕ

-- the fold stands for some journal of this many feeds
pub record IsMoving (fold : FoldFields) (sources : ℕ) : Type 0 where
  pub settings : SettingsFields
  pub journal : List Entry
  pub stands : StandsForJournal fold settings journal
  pub count : sources ≡ length settings.sources

-- the form that is kept is that of the first line
abbrev pub IsFormOf : Option Form → List JournalLine → Type 0
IsFormOf None [] = Unit {0}
IsFormOf None (line ∷ more) = ⊥
IsFormOf (Some form) [] = ⊥
IsFormOf (Some form) (line ∷ more) = form ≡ form_of line

-- more lines may come after these
pub record GoesOn (m : MoverFields) (settings : SettingsFields) (lines : List JournalLine) : Type 0 where
  pub fold : StandsForJournal m.fold settings (entries_of lines)
  pub form : IsFormOf m.form lines
  pub sources : m.sources ≡ length settings.sources

-- these lines were converted, and this bad line was met: then the fold may have taken its entry, and no line comes after it
pub record HasMoved (m : MoverFields) (settings : SettingsFields) (lines : List JournalLine) (bad : Option ℕ) : Type 0 where
  pub page : m.page ≡ page_of settings (entries_of lines)
  pub going : bad ≡ None → GoesOn m settings lines

-- what a mover answers to a line that is the next one
abbrev pub MovesLine : MoverFields → SettingsFields → List JournalLine → JournalLine → ℕ → Option Numbered → Type 0
MovesLine m settings before line number None = (MayStand settings before line → ⊥) × HasMoved m settings before (Some number)
MovesLine m settings before line number (Some n) = MayStand settings before line
    × HasMoved m settings (before ++ line ∷ []) None × (n ≡ numbered_next settings (entries_of before) (entry_of line))

-- the lines of a journal are taken by a mover, which stands for those that it has converted
abbrev pub journal_way : StationFields → LineWay MoverFields
journal_way of = record { file = journal_of of; stands = λ mover lines bad. HasMoved mover (settings_of of) lines bad }
