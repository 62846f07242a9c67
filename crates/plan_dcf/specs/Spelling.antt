-- How DCF77 spells a minute (PTB): the civil time of the minute that begins after the frame, the lowest bits first, with
-- even parities. What the code carries besides is left 0.
use Rattle.std.specs.Prelude.{◌≡◌, ◌⊎◌, ℕ, zero, suc, ◌/◌, ◌%◌, ◌≤◌, not, ◌==◌, IsTrue, List, [], ◌∷◌, ◌++◌, slice_index_or, replicate, count_by, if◌then◌else◌}
use Rattle.frame_rules.specs.Digits.{bit_symbol}
use Rattle.frame_rules.specs.Fields.{is_one, symbols_of}
use Rattle.frame_rules.specs.Rules.{starts_of, are_spaced}
use Rattle.tick_units.specs.declared.marks.Mark.{Mark}
use Rattle.tick_units.specs.declared.marks.Symbol.{Symbol}
use Rattle.tick_units.specs.declared.marks.Symbol.TheVariants.{Zero, One}
use Rattle.tick_units.specs.declared.verdicts.Coded.{Coded}
use Rattle.civil_minute.specs.Dates.{weekday_of, midnight_from}
use Rattle.civil_minute.specs.Months.{begins_month}
use Rattle.civil_minute.specs.Seconds.{civil_of}
use Rattle.civil_minute.specs.declared.seconds.CivilMinute.{CivilMinute}
use Rattle.frame_rules.specs.MarkRules.{MayStandFor}
use Rattle.civil_frame.specs.Seconds.{local_second, IsInCentury}
use Rattle.plan_dcf.specs.Fields.{hours_ahead}

-- a whole minute of the years 2000 to 2099 by German time. It has no leap second, or one at the next UTC midnight, which begins a
-- month.
pub record IsSpellable (c : Coded) : Type 0 where
  pub minute : IsInCentury c.minute (local_second hours_ahead c)
  pub leap : (c.leap_at ≡ 0) ⊎ ((c.leap_at ≡ midnight_from c.minute) × IsTrue (begins_month c.leap_at))

-- this many low bits of a number
abbrev pub bits_of : ℕ → ℕ → List Symbol
bits_of zero number = []
bits_of (suc count) number = bit_symbol (number % 2 == 1) ∷ bits_of count (number / 2)

-- a number of two digits: four bits of its ones, and this many of its tens
abbrev pub digits_of : ℕ → ℕ → List Symbol
digits_of tens number = bits_of 4 (number % 10) ++ bits_of tens (number / 10)

-- the bit that makes the count of ones even
abbrev pub parity_of : List Symbol → Symbol
parity_of symbols = bit_symbol (count_by is_one symbols % 2 == 1)

abbrev pub with_parity : List Symbol → List Symbol
with_parity symbols = symbols ++ parity_of symbols ∷ []

-- places 0 to 20: the start bit and what is passed over, the zone, whether a leap second is announced, the time bit
abbrev pub head_of : Coded → List Symbol
head_of c = replicate 17 Zero ++ bit_symbol c.summer ∷ bit_symbol (not c.summer) ∷ bit_symbol (not (c.leap_at == 0)) ∷ One ∷ []

-- day, weekday, month and year
abbrev pub date_of : CivilMinute → ℕ → List Symbol
date_of civil weekday = digits_of 2 civil.day ++ bits_of 3 weekday ++ digits_of 1 civil.month ++ digits_of 4 (civil.year % 100)

-- place 59, which only a minute that ends with a leap second has
abbrev pub last_of : Coded → List Symbol
last_of c = if c.leap_at == c.minute then Zero ∷ [] else []

unfoldable pub frame_of : Coded → CivilMinute → ℕ → List Symbol
frame_of c civil weekday = head_of c ++ with_parity (digits_of 3 civil.minute) ++ with_parity (digits_of 2 civil.hour) ++ with_parity (date_of civil weekday) ++ last_of c

-- the symbols of a spellable minute
unfoldable pub spelt : Coded → List Symbol
spelt c = frame_of c (civil_of (local_second hours_ahead c)) (weekday_of (local_second hours_ahead c))

-- places 1 to 16 say nothing of the minute
abbrev pub IsPassedOver : ℕ → Type 0
IsPassedOver place = (1 ≤ place) × (place ≤ 16)

-- valid marks that agree with these symbols in their number and at each place that is not passed over
pub record Agrees (marks : List Mark) (symbols : List Symbol) : Type 0 where
  pub shape : MayStandFor (are_spaced (starts_of marks)) marks symbols
  pub places : (place : ℕ) → ¬ (IsPassedOver place) → slice_index_or (symbols_of marks) place Zero ≡ slice_index_or symbols place Zero
