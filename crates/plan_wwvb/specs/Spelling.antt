-- How WWVB spells a minute (NIST SP 432): as UTC of the minute before, in which the frame is sent, the highest bits first. Each
-- ten seconds end with a marker. What the code carries besides is left 0, and DUT1 is plus.
use Rattle.std.specs.Prelude.{◌≡◌, ◌⊎◌, ℕ, ◌-◌, ◌/◌, ◌%◌, ◌<◌, Bool, false, true, not, ◌||◌, ◌==◌, IsTrue, IsFalse, List, [], ◌∷◌, ◌++◌, replicate, slice_index_or}
use Rattle.frame_rules.specs.Digits.{bit_symbol, high_bits_of}
use Rattle.frame_rules.specs.Fields.{is_one, is_set, has_pattern, symbols_of}
use Rattle.tick_units.specs.Marks.{is_between, is_long}
use Rattle.frame_rules.specs.Rules.{are_spaced_to}
use Rattle.tick_units.specs.declared.marks.Mark.{Mark}
use Rattle.tick_units.specs.declared.marks.Symbol.{Symbol}
use Rattle.tick_units.specs.declared.marks.Symbol.TheVariants.{Zero, One, Long}
use Rattle.tick_units.specs.declared.verdicts.Coded.{Coded}
use Rattle.civil_minute.specs.Months.{month_after}
use Rattle.civil_minute.specs.Seconds.{civil_of, day_of_year_of}
use Rattle.civil_minute.specs.declared.seconds.CivilMinute.{CivilMinute}
use Rattle.frame_rules.specs.MarkRules.{MayStandFor}
use Rattle.civil_frame.specs.Seconds.{IsInCentury}

-- the second at which the frame begins that is sent before the minute
abbrev pub sent_second : Coded → ℕ
sent_second c = c.minute - 60

-- a whole minute whose frame is sent in the years 2000 to 2099, without summer time. It has no leap second, or one at the end of
-- the month in which the frame is sent, past the minute.
pub record IsSpellable (c : Coded) : Type 0 where
  pub minute : IsInCentury c.minute (sent_second c)
  pub summer : c.summer ≡ false
  pub leap : (c.leap_at ≡ 0) ⊎ ((c.leap_at ≡ month_after (sent_second c)) × (c.minute < c.leap_at))

-- places 0 to 9
abbrev pub minute_of : CivilMinute → List Symbol
minute_of civil = Long ∷ high_bits_of 3 (civil.minute / 10) ++ Zero ∷ high_bits_of 4 (civil.minute % 10) ++ Long ∷ []

-- two bits and four bits. They are the digits of the hour in places 10 to 19, and those of the day's hundreds and tens in 20 to
-- 29.
abbrev pub pair_of : ℕ → ℕ → List Symbol
pair_of two four = Zero ∷ Zero ∷ high_bits_of 2 two ++ Zero ∷ high_bits_of 4 four ++ Long ∷ []

-- places 30 to 39: the ones of the day, and the sign of DUT1
abbrev pub day_ones_of : ℕ → List Symbol
day_ones_of day = high_bits_of 4 (day % 10) ++ Zero ∷ Zero ∷ One ∷ Zero ∷ One ∷ Long ∷ []

-- places 40 to 49
abbrev pub year_tens_of : CivilMinute → List Symbol
year_tens_of civil = replicate 5 Zero ++ high_bits_of 4 (civil.year % 100 / 10) ++ Long ∷ []

-- places 50 to 59, with the leap second that is announced
abbrev pub year_ones_of : CivilMinute → Bool → List Symbol
year_ones_of civil leap = high_bits_of 4 (civil.year % 100 % 10) ++ Zero ∷ Zero ∷ bit_symbol leap ∷ Zero ∷ Zero ∷ Long ∷ []

unfoldable pub frame_of : Bool → CivilMinute → ℕ → List Symbol
frame_of leap civil day = minute_of civil ++ pair_of (civil.hour / 10) (civil.hour % 10) ++ pair_of (day / 100) (day / 10 % 10) ++ day_ones_of day ++ year_tens_of civil ++ year_ones_of civil leap

-- the symbols of a spellable minute
unfoldable pub spelt : Coded → List Symbol
spelt c = frame_of (not (c.leap_at == 0)) (civil_of (sent_second c)) (day_of_year_of (sent_second c))

-- the places of DUT1's sign, which has two spellings, and those that are passed over. The latter are DUT1's value, the bit of a
-- leap year and those of daylight time.
abbrev pub is_free : ℕ → Bool
is_free place = is_between 36 38 place || is_between 40 43 place || place == 55 || is_between 57 58 place

-- valid marks that agree with these symbols in their number and at each place that is not free. At the free places they have a
-- sign of DUT1 and no Long.
pub record Agrees (marks : List Mark) (close : ℕ) (symbols : List Symbol) : Type 0 where
  pub shape : MayStandFor (are_spaced_to marks close) marks symbols
  pub places : (place : ℕ) → IsFalse (is_free place) → slice_index_or (symbols_of marks) place Zero ≡ slice_index_or symbols place Zero
  pub not_long : (place : ℕ) → IsTrue (is_free place) → IsFalse (is_set is_long marks place)
  pub sign : IsTrue (has_pattern is_one marks 36 (true ∷ false ∷ true ∷ []) || has_pattern is_one marks 36 (false ∷ true ∷ false ∷ []))
