-- The lines that a command writes for entries: those of a decoded log, and those of a journal. The forms are this project's own.
use Rattle.std.specs.Prelude.{ℕ, List, ◌++◌, codes}
use Rattle.std.specs.List.{flat_map}
use Rattle.journal_entry.specs.Numbers.{numbered_text}
use Rattle.journal_entry.specs.declared.entry.Entry.{Entry}
use Rattle.radio_receiver.specs.Due.{due_log, lines_of_entries}
use Rattle.system_fold.specs.Numbered.{numbered}
use Rattle.system_fold.specs.Settings.{SettingsFields}
use Rattle.tick_units.specs.declared.marks.Plan.{Plan}

-- the lines of a decoded log: those of the entries that are due to it as feed 0, without a path delay
abbrev pub log_text : Plan → List ℕ → List ℕ
log_text plan bytes = lines_of_entries (due_log 0 plan 0 bytes)

-- the lines of a journal in the second form
abbrev pub journal_text : SettingsFields → List Entry → List ℕ
journal_text settings entries = flat_map (λ n. numbered_text n ++ codes "\n") (numbered settings entries)
