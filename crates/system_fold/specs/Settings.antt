-- What makes a page besides its journal, and the rules for journals and settings. All of it is this project's own.
use Rattle.std.specs.Prelude.{◌≡◌, ℕ, ◌*◌, ◌≤◌, ◌<◌, ◌^◌, List, All, length}
use Rattle.tick_units.specs.Units.{local_span}
use Rattle.journal_entry.specs.Valid.{IsValid}
use Rattle.journal_entry.specs.declared.entry.Entry.{Entry}
use Rattle.system_fold.specs.declared.settings.SourceKind.{SourceKind}

-- the root dispersion above which a page is not trusted, in units of 2^-32 s, and what each feed is, by number
pub record SettingsFields : Type 0 where
  pub bound : ℕ
  pub sources : List SourceKind

-- a bound of this many milliseconds
abbrev pub bound_of : ℕ → ℕ
bound_of milliseconds = local_span (1000 * milliseconds)

-- the bound is a whole number of milliseconds, 1 to 16000
pub record AreValid (settings : SettingsFields) : Type 0 where
  pub milliseconds : ℕ
  pub least : 1 ≤ milliseconds
  pub most : milliseconds ≤ 16000
  pub bound : settings.bound ≡ bound_of milliseconds

-- an entry as receivers and pollers make them, of one of this many feeds
pub record IsKept (feeds : ℕ) (e : Entry) : Type 0 where
  pub valid : IsValid feeds e
  pub moment : e.at < 2 ^ 50

abbrev pub IsJournal : SettingsFields → List Entry → Type 0
IsJournal settings journal = All (IsKept (length settings.sources)) journal
