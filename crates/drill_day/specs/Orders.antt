-- Journals that differ only in how the entries of several feeds are mingled, and journals that name no leap second. All of it is
-- this project's own.
use Rattle.std.specs.Prelude.{◌≡◌, ℕ, List, All}
use Rattle.tick_units.specs.declared.verdicts.Kind.{Kind}
use Rattle.tick_units.specs.declared.verdicts.Kind.TheVariants.{Verdict, Lone, Differs, Refused}
use Rattle.journal_entry.specs.declared.entry.Entry.{Entry}
use Rattle.journal_entry.specs.declared.entry.What.{What}
use Rattle.journal_entry.specs.declared.entry.What.TheVariants.{Heard, Sample, Declined, Notice}
use Rattle.page_cell.specs.Claims.{of_feed}

-- the leap second that a minute names: a Verdict names the one that is announced with it, and 0 where there is none
abbrev pub leap_in : Kind → ℕ
leap_in (Verdict second leap_at) = leap_at
leap_in (Lone second) = 0
leap_in (Differs before now apart) = 0
leap_in (Refused rule) = 0

-- the leap second that an entry names, or 0; besides Verdicts there are Notices that name one
abbrev pub leap_named : What → ℕ
leap_named (Heard kind) = leap_in kind
leap_named (Sample sample) = 0
leap_named (Declined code) = 0
leap_named (Notice leap_at) = leap_at

-- no entry names a leap second
abbrev pub NamesNoLeap : List Entry → Type 0
NamesNoLeap journal = All (λ e. leap_named e.what ≡ 0) journal

-- the same entries, those of each feed in the same order
abbrev pub KeepsFeeds : List Entry → List Entry → Type 0
KeepsFeeds a b = (feed : ℕ) → of_feed feed a ≡ of_feed feed b
