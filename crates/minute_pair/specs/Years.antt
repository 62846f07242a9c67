-- The minutes that are believed lie in the supported years. The range is this project's own.
use Rattle.tick_units.specs.Years.{HasYears}
use Rattle.tick_units.specs.declared.verdicts.Kind.{Kind}
use Rattle.tick_units.specs.declared.verdicts.Kind.TheVariants.{Verdict, Lone, Differs, Refused}

-- an answer that believes a minute
abbrev pub BelievesYears : Kind → Type 0
BelievesYears (Verdict second leap_at) = HasYears second leap_at
BelievesYears (Lone second) = Unit {0}
BelievesYears (Differs before now apart) = Unit {0}
BelievesYears (Refused rule) = Unit {0}
