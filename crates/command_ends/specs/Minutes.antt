-- What the minutes of a log are to one another, by its entries: whether two agree, whether one stands alone, and how many differ from
-- the minute before. All of it is this project's own.
use Rattle.std.specs.Prelude.{ℕ, Bool, true, false, min, List, count_by}
use Rattle.std.specs.List.{list_any}
use Rattle.journal_entry.specs.declared.entry.Entry.{Entry}
use Rattle.journal_entry.specs.declared.entry.What.{What}
use Rattle.journal_entry.specs.declared.entry.What.TheVariants.{Heard, Sample, Declined, Notice}
use Rattle.tick_units.specs.declared.verdicts.Kind.{Kind}
use Rattle.tick_units.specs.declared.verdicts.Kind.TheVariants.{Verdict, Lone, Differs, Refused}
use Rattle.command_ends.specs.declared.minutes.Minutes.{Minutes}

-- this minute and the one before agree
abbrev pub is_verdict : Kind → Bool
is_verdict (Verdict second leap_at) = true
is_verdict (Lone second) = false
is_verdict (Differs before now apart) = false
is_verdict (Refused rule) = false

-- the frame of this minute is valid, and there is no valid one before it
abbrev pub is_lone : Kind → Bool
is_lone (Verdict second leap_at) = false
is_lone (Lone second) = true
is_lone (Differs before now apart) = false
is_lone (Refused rule) = false

-- this minute and the one before do not agree
abbrev pub is_differing : Kind → Bool
is_differing (Verdict second leap_at) = false
is_differing (Lone second) = false
is_differing (Differs before now apart) = true
is_differing (Refused rule) = false

-- an entry of a radio says such an answer
abbrev pub was_received : (Kind → Bool) → What → Bool
was_received test (Heard kind) = test kind
was_received test (Sample sample) = false
was_received test (Declined code) = false
was_received test (Notice leap_at) = false

abbrev pub says : (Kind → Bool) → Entry → Bool
says test entry = was_received test entry.what

-- the minutes of these entries; of those that differ three are enough
abbrev pub minutes_of : List Entry → Minutes
minutes_of entries = record {
  agree = list_any (says is_verdict) entries;
  lone = list_any (says is_lone) entries;
  differing = min (count_by (says is_differing) entries) 3;
}
