-- The bits and values of a segment whose symbols are those of a spelling.
use Rattle.std.proofs.Common.{◌≡◌, ℕ, zero, suc, ◌+◌, ◌-◌, ◌/◌, ◌%◌, ◌<◌, ◌≤◌, ◌==◌, Bool, true, false, List, [], ◌∷◌, length, count_by, refl, sym, ◌∙◌, arith}
use Rattle.std.specs.Prelude.{if◌then◌else◌}
use Rattle.std.specs.List.{range_with_len}
use Rattle.std.proofs.lemmas.Bool.Decides.{nat_tests}
use Rattle.std.proofs.lemmas.List.Sums.{sum_by-cons}
use Rattle.frame_rules.specs.Digits.{high_bits_of}
use Rattle.frame_rules.specs.Fields.{has_a, has_b, is_set, bit_at, ones, value, has_pattern, symbols_of}
use Rattle.frame_rules.specs.Rules.{is_odd, has_odd_symbol}
use Rattle.tick_units.specs.declared.marks.Mark.{Mark}
use Rattle.civil_minute.specs.declared.seconds.CivilMinute.{CivilMinute}
use Rattle.frame_rules.proofs.BitSymbols.{is_odd-bit_symbol}
use Rattle.frame_rules.proofs.HighBits.{Detects, three_worth, digit_worth, tens_worth_1, tens_worth_2, tens_worth_3, tens_worth_4}
use Rattle.frame_rules.proofs.Template.{has_odd_symbol-symbols_of}
use Rattle.civil_frame.proofs.Says.{HasNumbers}
use Rattle.plan_msf.specs.Fields.{is_summer, said}
use Rattle.plan_msf.specs.Rules.{is_even_with}
use Rattle.plan_msf.specs.Spelling.{with_b, year_of as year_symbols, date_of, time_of, frame_of}

detects_a : Detects has_a
detects_a = record { of_one = refl; of_zero = refl }

has_a-with_b : (bit : Bool) → has_a (with_b bit) ≡ true
has_a-with_b true = refl
has_a-with_b false = refl

has_b-with_b : (bit : Bool) → has_b (with_b bit) ≡ bit
has_b-with_b true = refl
has_b-with_b false = refl

-- a count with its parity bit is not even
parity_odd : (even : Bool) (count : ℕ) → (count % 2 == 0) ≡ even → ((count + (if has_b (with_b even) then 1 else 0)) % 2 == 0) ≡ false
parity_odd true count e = grind (arith, nat_tests)
parity_odd false count e = grind (arith, nat_tests)

odd_with_parity : (count : ℕ) → ((count + (if has_b (with_b (count % 2 == 0)) then 1 else 0)) % 2 == 0) ≡ false
odd_with_parity count = parity_odd (count % 2 == 0) count refl

-- the identifier, the parities and the bit of summer time
pub record HasBits (summer : Bool) (marks : List Mark) : Type 0 where
  pub identifier : has_pattern has_a marks 52 (false ∷ true ∷ true ∷ true ∷ true ∷ true ∷ true ∷ false ∷ []) ≡ true
  pub year : is_even_with marks 17 24 54 ≡ false
  pub date : is_even_with marks 25 35 55 ≡ false
  pub weekday : is_even_with marks 36 38 56 ≡ false
  pub time : is_even_with marks 39 51 57 ≡ false
  pub summer_time : is_summer marks ≡ summer

pub HasBits-spelt : (summer : Bool) (civil : CivilMinute) (weekday : ℕ) (marks : List Mark) → symbols_of marks ≡ frame_of summer civil weekday → HasBits summer marks
unfolding frame_of
HasBits-spelt summer civil weekday marks e = record {
  identifier = rw e (simp has_a-with_b);
  year = rw e (odd_with_parity (count_by has_a (year_symbols civil)));
  date = rw e (odd_with_parity (count_by has_a (date_of civil)));
  weekday = rw e (odd_with_parity (count_by has_a (high_bits_of 3 weekday)));
  time = rw e (odd_with_parity (count_by has_a (time_of civil)));
  summer_time = rw e (has_b-with_b summer);
}

pub length-frame_of : (summer : Bool) (civil : CivilMinute) (weekday : ℕ) → length (frame_of summer civil weekday) ≡ 60
unfolding frame_of
length-frame_of summer civil weekday = refl

is_odd-with_b : (bit : Bool) → is_odd (with_b bit) ≡ false
is_odd-with_b true = refl
is_odd-with_b false = refl

pub has_odd_symbol-spelt : (summer : Bool) (civil : CivilMinute) (weekday : ℕ) (marks : List Mark) → symbols_of marks ≡ frame_of summer civil weekday → has_odd_symbol marks ≡ false
unfolding frame_of
has_odd_symbol-spelt summer civil weekday marks e = rw (has_odd_symbol-symbols_of marks, e) (simp (is_odd-bit_symbol, is_odd-with_b))

-- the numbers of a frame
pub HasNumbers-spelt : (summer : Bool) (civil : CivilMinute) (weekday : ℕ) (marks : List Mark) → symbols_of marks ≡ frame_of summer civil weekday →
    civil.minute < 60 → civil.hour < 24 → civil.day < 32 → weekday < 8 → civil.month < 13 → HasNumbers (said marks) civil weekday
unfolding frame_of said
HasNumbers-spelt summer civil weekday marks e minute hour day week month = record {
  year = record { tens = rw e (tens_worth_4 has_a detects_a (civil.year % 100 / 10) (omega arith)); ones = rw e (digit_worth has_a detects_a (civil.year % 100 % 10) (omega arith)) };
  month = record { tens = rw e (tens_worth_1 has_a detects_a (civil.month / 10) (omega arith)); ones = rw e (digit_worth has_a detects_a (civil.month % 10) (omega arith)) };
  day = record { tens = rw e (tens_worth_2 has_a detects_a (civil.day / 10) (omega arith)); ones = rw e (digit_worth has_a detects_a (civil.day % 10) (omega arith)) };
  hour = record { tens = rw e (tens_worth_2 has_a detects_a (civil.hour / 10) (omega arith)); ones = rw e (digit_worth has_a detects_a (civil.hour % 10) (omega arith)) };
  minute = record { tens = rw e (tens_worth_3 has_a detects_a (civil.minute / 10) (omega arith)); ones = rw e (digit_worth has_a detects_a (civil.minute % 10) (omega arith)) };
  days = rw e (three_worth has_a detects_a weekday week);
}

-- ---- marks that agree in the bits that are read

-- two segments have the same bits at the places that are not passed over
pub record IsReadAs (a b : List Mark) : Type 0 where
  pub bits_a : (place : ℕ) → 17 ≤ place → is_set has_a a place ≡ is_set has_a b place
  pub bits_b : (place : ℕ) → 54 ≤ place → place ≤ 58 → is_set has_b a place ≡ is_set has_b b place

value_same : (a b : List Mark) → IsReadAs a b → (place : ℕ) (weights : List ℕ) → 17 ≤ place → value has_a a place weights ≡ value has_a b place weights
value_same a b h place [] from = refl
value_same a b h place (weight ∷ weights) from = rw (h.bits_a place from, value_same a b h (place + 1) weights (omega arith)) refl

count_same : (a b : List Mark) → IsReadAs a b → (place count : ℕ) → 17 ≤ place → count_by (is_set has_a a) (range_with_len place count) ≡ count_by (is_set has_a b) (range_with_len place count)
count_same a b h place zero from = refl
count_same a b h place (suc count) from =
    let one : bit_at has_a a place ≡ bit_at has_a b place = rw (h.bits_a place from) refl in
    let left = sum_by-cons (bit_at has_a a) place (range_with_len (place + 1) count) in
    let right = sum_by-cons (bit_at has_a b) place (range_with_len (place + 1) count) in
    left ∙ rw (one, count_same a b h (place + 1) count (omega arith)) (sym right)

even_same : (a b : List Mark) → IsReadAs a b → (first last parity : ℕ) → 17 ≤ first → 54 ≤ parity → parity ≤ 58 → is_even_with a first last parity ≡ is_even_with b first last parity
even_same a b h first last parity from low high =
    let count : ones has_a a first last ≡ ones has_a b first last = count_same a b h first (last + 1 - first) from in
    let bit : bit_at has_b a parity ≡ bit_at has_b b parity = rw (h.bits_b parity low high) refl in
    rw (count, bit) refl

pattern_same : (a b : List Mark) → IsReadAs a b → (place : ℕ) (pattern : List Bool) → 17 ≤ place → has_pattern has_a a place pattern ≡ has_pattern has_a b place pattern
pattern_same a b h place [] from = refl
pattern_same a b h place (wanted ∷ pattern) from = rw (h.bits_a place from, pattern_same a b h (place + 1) pattern (omega arith)) refl

pub HasBits-same : (summer : Bool) (a b : List Mark) → IsReadAs a b → HasBits summer b → HasBits summer a
HasBits-same summer a b h bits = record {
  identifier = pattern_same a b h 52 (false ∷ true ∷ true ∷ true ∷ true ∷ true ∷ true ∷ false ∷ []) (omega arith) ∙ bits.identifier;
  year = even_same a b h 17 24 54 (omega arith) (omega arith) (omega arith) ∙ bits.year;
  date = even_same a b h 25 35 55 (omega arith) (omega arith) (omega arith) ∙ bits.date;
  weekday = even_same a b h 36 38 56 (omega arith) (omega arith) (omega arith) ∙ bits.weekday;
  time = even_same a b h 39 51 57 (omega arith) (omega arith) (omega arith) ∙ bits.time;
  summer_time = h.bits_b 58 (omega arith) (omega arith) ∙ bits.summer_time;
}

pub said-same : (a b : List Mark) → IsReadAs a b → said a ≡ said b
unfolding said
said-same a b h = rw (
  value_same a b h 17 (80 ∷ 40 ∷ 20 ∷ 10 ∷ []) (omega arith),
  value_same a b h 21 (8 ∷ 4 ∷ 2 ∷ 1 ∷ []) (omega arith),
  value_same a b h 25 (10 ∷ []) (omega arith),
  value_same a b h 26 (8 ∷ 4 ∷ 2 ∷ 1 ∷ []) (omega arith),
  value_same a b h 30 (20 ∷ 10 ∷ []) (omega arith),
  value_same a b h 32 (8 ∷ 4 ∷ 2 ∷ 1 ∷ []) (omega arith),
  value_same a b h 36 (4 ∷ 2 ∷ 1 ∷ []) (omega arith),
  value_same a b h 39 (20 ∷ 10 ∷ []) (omega arith),
  value_same a b h 41 (8 ∷ 4 ∷ 2 ∷ 1 ∷ []) (omega arith),
  value_same a b h 45 (40 ∷ 20 ∷ 10 ∷ []) (omega arith),
  value_same a b h 48 (8 ∷ 4 ∷ 2 ∷ 1 ∷ []) (omega arith),
  h.bits_b 58 (omega arith) (omega arith),
) refl
