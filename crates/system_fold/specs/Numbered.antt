-- A journal entry by entry, each with its number and the rate by which the server computed after it. All of it is this project's
-- own.
use Rattle.std.specs.Prelude.{◌+◌, List, [], ◌∷◌, ◌++◌, length}
use Rattle.journal_entry.specs.declared.entry.Entry.{Entry}
use Rattle.journal_entry.specs.declared.numbered.Numbered.{Numbered}
use Rattle.system_fold.specs.Page.{page_of}
use Rattle.system_fold.specs.Settings.{SettingsFields}

-- an entry after those before it: its number counts from 1, and the rate is that of the page of all up to it
abbrev pub numbered_next : SettingsFields → List Entry → Entry → Numbered
numbered_next settings before e = record { length = length before + 1; rate = (page_of settings (before ++ e ∷ [])).rate; entry = e }

-- more entries after those before them
abbrev pub numbered_after : SettingsFields → List Entry → List Entry → List Numbered
numbered_after settings before [] = []
numbered_after settings before (e ∷ more) = numbered_next settings before e ∷ numbered_after settings (before ++ e ∷ []) more

-- the entries of a journal
abbrev pub numbered : SettingsFields → List Entry → List Numbered
numbered settings journal = numbered_after settings [] journal
