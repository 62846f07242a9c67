-- What a receiver answers is valid in a journal.
use Rattle.std.specs.Prelude.{ℕ}
use Rattle.tick_units.specs.declared.verdicts.Kind.{Kind}
use Rattle.tick_units.specs.declared.verdicts.Kind.TheVariants.{Verdict, Lone, Differs, Refused}
use Rattle.journal_entry.specs.Valid.{IsSupported, IsValidKind}
use Rattle.minute_pair.specs.Years.{BelievesYears}
use Rattle.tick_units.specs.Years.{IsInYears}

supported_of : (second : ℕ) → IsInYears second → IsSupported second
supported_of second years = record { least = years.0; below = years.1 }

pub valid_kind : (kind : Kind) → BelievesYears kind → IsValidKind kind
valid_kind (Verdict second leap_at) years = record { reported = supported_of second years.minute; leap = λ some. supported_of leap_at (years.leap some) }
valid_kind (Lone second) years = tt
valid_kind (Differs before now apart) years = tt
valid_kind (Refused rule) years = tt
