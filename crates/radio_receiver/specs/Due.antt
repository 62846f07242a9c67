-- The entries that a log gives in the journal, and the lines of their texts. The code plans are those of PTB (DCF77), NPL (MSF)
-- and NIST (WWVB); how a journal keeps their answers is this project's own.
use Rattle.std.specs.Prelude.{ℕ, List, ◌++◌, codes, map}
use Rattle.std.specs.List.{flat_map}
use Rattle.tick_units.specs.Log.{pulses}
use Rattle.tick_units.specs.declared.marks.Plan.{Plan}
use Rattle.tick_units.specs.declared.verdicts.Heard.{Heard}
use Rattle.journal_entry.specs.Texts.{text_of}
use Rattle.journal_entry.specs.declared.entry.Entry.{Entry}
use Rattle.journal_entry.specs.declared.entry.What.TheVariants as what
use Rattle.radio_receiver.specs.Histories.{answers_of}

-- an answer as an entry of a feed
abbrev pub entry_of : ℕ → Heard → Entry
entry_of feed heard = record { feed = feed; at = heard.at; what = what.Heard heard.kind }

-- the entries of a feed: one for each answer to the reductions of its log. Its moment is that of the answer less the path delay
-- in microseconds, and not below 0.
abbrev pub due_log : ℕ → Plan → ℕ → List ℕ → List Entry
due_log feed plan delay bytes = map (entry_of feed) (answers_of (record { plan = plan; delay = delay; reductions = pulses bytes }))

-- the text of an entry and a line feed
abbrev pub entry_line : Entry → List ℕ
entry_line e = text_of e ++ codes "\n"

-- the text of entries, one a line
abbrev pub lines_of_entries : List Entry → List ℕ
lines_of_entries entries = flat_map entry_line entries
