-- The entries of a journal: what of each field fits its type. A journal is this project's own; a sample of the time is that
-- of RFC 5905, section 8.
use Rattle.std.specs.Prelude.{◌^◌, ◌<◌, unsigned_abs}
use Rattle.tick_units.specs.declared.verdicts.Kind.{Kind}
use Rattle.tick_units.specs.declared.verdicts.Kind.TheVariants.{Verdict, Lone, Differs, Refused}
use Rattle.tick_units.specs.declared.sample.Sample.{Sample as TimeSample}
use Rattle.journal_entry.specs.declared.entry.Entry.{Entry}
use Rattle.journal_entry.specs.declared.entry.What.{What}
use Rattle.journal_entry.specs.declared.entry.What.TheVariants.{Heard, Sample, Declined, Notice}

pub record IsSample (s : TimeSample) : Type 0 where
  pub offset : unsigned_abs s.offset < 2 ^ 70
  pub delay : unsigned_abs s.delay < 2 ^ 70
  pub dispersion : unsigned_abs s.dispersion < 2 ^ 70
  pub stratum : s.stratum < 2 ^ 8
  pub address : s.address < 2 ^ 32
  pub root_delay : s.root_delay.0 < 2 ^ 32
  pub root_disp : s.root_disp.0 < 2 ^ 32

abbrev pub IsKind : Kind → Type 0
IsKind (Verdict second leap_at) = (second < 2 ^ 64) × (leap_at < 2 ^ 64)
IsKind (Lone second) = second < 2 ^ 64
IsKind (Differs before now apart) = (before < 2 ^ 64) × (now < 2 ^ 64) × (apart < 2 ^ 64)
IsKind (Refused rule) = rule < 2 ^ 8

abbrev pub IsWhat : What → Type 0
IsWhat (Heard kind) = IsKind kind
IsWhat (Sample s) = IsSample s
IsWhat (Declined code) = code < 2 ^ 8
IsWhat (Notice leap_at) = leap_at < 2 ^ 64

pub record IsEntry (e : Entry) : Type 0 where
  pub feed : e.feed < 2 ^ 32
  pub at : e.at < 2 ^ 50
  pub what : IsWhat e.what
