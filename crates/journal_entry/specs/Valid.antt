-- The entries that receivers and pollers make. Seconds are those since 1900-01-01 (RFC 5905, section 6); the bounds are this
-- project's own.
use Rattle.std.specs.Prelude.{◌≢◌, ℕ, ◌<◌, ◌≤◌, ⊤}
use Rattle.tick_units.specs.Samples.{IsValid as IsValidSample}
use Rattle.tick_units.specs.Years.{end_of_supported, first_supported}
use Rattle.tick_units.specs.declared.verdicts.Kind.{Kind}
use Rattle.tick_units.specs.declared.verdicts.Kind.TheVariants.{Verdict, Lone, Differs, Refused}
use Rattle.journal_entry.specs.declared.entry.Entry.{Entry}
use Rattle.journal_entry.specs.declared.entry.What.{What}
use Rattle.journal_entry.specs.declared.entry.What.TheVariants.{Heard, Sample, Declined, Notice}

-- a second of the supported years, 1999-12-31 00:00 UTC up to 2100-01-03 00:00 UTC
pub record IsSupported (second : ℕ) : Type 0 where
  pub least : first_supported ≤ second
  pub below : second < end_of_supported

-- a minute that a radio reported: its second, and the end of an announced leap second, 0 where none is announced
pub record IsValidVerdict (second leap_at : ℕ) : Type 0 where
  pub reported : IsSupported second
  pub leap : leap_at ≢ 0 → IsSupported leap_at

abbrev pub IsValidKind : Kind → Type 0
IsValidKind (Verdict second leap_at) = IsValidVerdict second leap_at
IsValidKind (Lone second) = ⊤
IsValidKind (Differs before now apart) = ⊤
IsValidKind (Refused rule) = ⊤

abbrev pub IsValidWhat : What → Type 0
IsValidWhat (Heard kind) = IsValidKind kind
IsValidWhat (Sample s) = IsValidSample s
IsValidWhat (Declined code) = ⊤
IsValidWhat (Notice leap_at) = leap_at < end_of_supported

-- of a station with this many sources
pub record IsValid (sources : ℕ) (e : Entry) : Type 0 where
  pub feed : e.feed < sources
  pub what : IsValidWhat e.what
