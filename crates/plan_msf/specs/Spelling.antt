-- How MSF spells a minute (NPL): the civil time of the minute that begins after the frame, the highest bits first, with odd
-- parities. What the code carries besides is left 0.
use Rattle.std.specs.Prelude.{◌≡◌, ℕ, ◌%◌, ◌≤◌, Bool, false, true, ◌==◌, List, [], ◌∷◌, ◌++◌, replicate, slice_index_or, count_by}
use Rattle.frame_rules.specs.Digits.{high_bits_of, high_digits_of}
use Rattle.frame_rules.specs.Fields.{has_a, has_b, is_set}
use Rattle.frame_rules.specs.Rules.{are_spaced_to}
use Rattle.tick_units.specs.declared.marks.Mark.{Mark}
use Rattle.tick_units.specs.declared.marks.Symbol.{Symbol}
use Rattle.tick_units.specs.declared.marks.Symbol.TheVariants.{Zero, One, Both, Long}
use Rattle.tick_units.specs.declared.verdicts.Coded.{Coded}
use Rattle.civil_minute.specs.Dates.{weekday_of}
use Rattle.civil_minute.specs.Seconds.{civil_of}
use Rattle.civil_minute.specs.declared.seconds.CivilMinute.{CivilMinute}
use Rattle.frame_rules.specs.MarkRules.{MayStandFor}
use Rattle.civil_frame.specs.Seconds.{local_second, IsInCentury}
use Rattle.plan_msf.specs.Fields.{hours_ahead}

-- a whole minute of the years 2000 to 2099 by UK time, and no leap second, since MSF announces none
pub record IsSpellable (c : Coded) : Type 0 where
  pub minute : IsInCentury c.minute (local_second hours_ahead c)
  pub leap : c.leap_at ≡ 0

-- a place whose bit A is 1, by its bit B
abbrev pub with_b : Bool → Symbol
with_b false = One
with_b true = Both

-- a place whose bit A is 1, and whose bit B makes the count of ones of some bits A odd
abbrev pub parity_of : List Symbol → Symbol
parity_of symbols = with_b (count_by has_a symbols % 2 == 0)

abbrev pub year_of : CivilMinute → List Symbol
year_of civil = high_digits_of 4 (civil.year % 100)

abbrev pub date_of : CivilMinute → List Symbol
date_of civil = high_digits_of 1 civil.month ++ high_digits_of 2 civil.day

abbrev pub time_of : CivilMinute → List Symbol
time_of civil = high_digits_of 2 civil.hour ++ high_digits_of 3 civil.minute

-- places 52 to 59: the identifier in the bits A, parities and summer time in the bits B
abbrev pub last_of : List Symbol → List Symbol → List Symbol → List Symbol → Bool → List Symbol
last_of year date weekday time summer = Zero ∷ One ∷ parity_of year ∷ parity_of date ∷ parity_of weekday ∷ parity_of time ∷ with_b summer ∷ Zero ∷ []

-- the minute mark, what is passed over, and the fields; the weekday is Sunday 0 to Saturday 6
unfoldable pub frame_of : Bool → CivilMinute → ℕ → List Symbol
frame_of summer civil weekday = Long ∷ replicate 16 Zero ++ year_of civil ++ date_of civil ++ high_bits_of 3 weekday ++ time_of civil ++ last_of (year_of civil) (date_of civil) (high_bits_of 3 weekday) (time_of civil) summer

-- the symbols of a spellable minute
unfoldable pub spelt : Coded → List Symbol
spelt c = frame_of c.summer (civil_of (local_second hours_ahead c)) (weekday_of (local_second hours_ahead c) % 7)

-- valid marks that agree with these symbols in their number and in each bit that is not passed over. These are bits A from place
-- 17 on, and bits B of places 54 to 58.
pub record Agrees (marks : List Mark) (close : ℕ) (symbols : List Symbol) : Type 0 where
  pub shape : MayStandFor (are_spaced_to marks close) marks symbols
  pub bits_a : (place : ℕ) → 17 ≤ place → is_set has_a marks place ≡ has_a (slice_index_or symbols place Zero)
  pub bits_b : (place : ℕ) → 54 ≤ place → place ≤ 58 → is_set has_b marks place ≡ has_b (slice_index_or symbols place Zero)
