-- The values of a segment whose symbols are those of a spelling.
use Rattle.std.proofs.Common.{◌≡◌, ℕ, zero, suc, ◌+◌, ◌-◌, ◌/◌, ◌%◌, ◌<◌, ◌≤◌, ◌==◌, Bool, true, false, not, List, [], ◌∷◌, length, get_or, count_by, refl, ap, sym, ◌∙◌, arith}
use Rattle.std.specs.Prelude.{if◌then◌else◌}
use Rattle.std.specs.List.{list_any, range_with_len}
use Rattle.std.proofs.lemmas.List.Sums.{sum_by-cons}
use Rattle.frame_rules.specs.Fields.{is_one, is_set, bit_at, value, is_odd_over, symbols_of}
use Rattle.frame_rules.specs.Rules.{is_odd, has_odd_symbol}
use Rattle.tick_units.specs.declared.marks.Mark.{Mark}
use Rattle.tick_units.specs.declared.marks.Symbol.TheVariants.{Zero}
use Rattle.tick_units.specs.declared.verdicts.Coded.{Coded}
use Rattle.civil_minute.specs.declared.seconds.CivilMinute.{CivilMinute}
use Rattle.frame_rules.proofs.BitSymbols.{is_one-bit_symbol, is_odd-bit_symbol}
use Rattle.frame_rules.proofs.Template.{has_odd_symbol-symbols_of}
use Rattle.civil_frame.proofs.Says.{HasNumbers}
use Rattle.plan_dcf.specs.Fields.{is_summer, is_standard, announces_leap, said}
use Rattle.plan_dcf.specs.Spelling.{digits_of, date_of, frame_of, IsPassedOver}
use Rattle.plan_dcf.proofs.SpeltBits.{digit_worth, three_worth, tens_worth_1, tens_worth_2, tens_worth_3, tens_worth_4, even_with_parity}

-- the last mark of a leap minute is Zero, as a place that is not there counts
last_zero : (long : Bool) → get_or (if long then Zero ∷ [] else []) 0 Zero ≡ Zero
last_zero true = refl
last_zero false = refl

-- the parts of a frame that are single bits
pub record HasBits (c : Coded) (marks : List Mark) : Type 0 where
  pub start : is_set is_one marks 0 ≡ false
  pub summer : is_summer marks ≡ c.summer
  pub standard : is_standard marks ≡ not c.summer
  pub leap : announces_leap marks ≡ not (c.leap_at == 0)
  pub time : is_set is_one marks 20 ≡ true
  pub minute_parity : is_odd_over is_one marks 21 28 ≡ false
  pub hour_parity : is_odd_over is_one marks 29 35 ≡ false
  pub date_parity : is_odd_over is_one marks 36 58 ≡ false
  pub last : is_set is_one marks 59 ≡ false

pub HasBits-spelt : (c : Coded) (civil : CivilMinute) (weekday : ℕ) (marks : List Mark) → symbols_of marks ≡ frame_of c civil weekday → HasBits c marks
unfolding frame_of
HasBits-spelt c civil weekday marks e = record {
  start = rw e refl;
  summer = rw e (is_one-bit_symbol c.summer);
  standard = rw e (is_one-bit_symbol (not c.summer));
  leap = rw e (is_one-bit_symbol (not (c.leap_at == 0)));
  time = rw e refl;
  minute_parity = rw e (even_with_parity (count_by is_one (digits_of 3 civil.minute)));
  hour_parity = rw e (even_with_parity (count_by is_one (digits_of 2 civil.hour)));
  date_parity = rw e (even_with_parity (count_by is_one (date_of civil weekday)));
  last = rw (e, last_zero (c.leap_at == c.minute)) refl;
}

length_last : (long : Bool) → length (if long then Zero ∷ [] else []) ≡ (if long then 1 else 0)
length_last true = refl
length_last false = refl

pub length-frame_of : (c : Coded) (civil : CivilMinute) (weekday : ℕ) → length (frame_of c civil weekday) ≡ 59 + (if c.leap_at == c.minute then 1 else 0)
unfolding frame_of
length-frame_of c civil weekday = omega (arith, length_last (c.leap_at == c.minute))

odd_last : (long : Bool) → list_any is_odd (if long then Zero ∷ [] else []) ≡ false
odd_last true = refl
odd_last false = refl

pub has_odd_symbol-spelt : (c : Coded) (civil : CivilMinute) (weekday : ℕ) (marks : List Mark) → symbols_of marks ≡ frame_of c civil weekday → has_odd_symbol marks ≡ false
unfolding frame_of
has_odd_symbol-spelt c civil weekday marks e = rw (has_odd_symbol-symbols_of marks, e) (simp is_odd-bit_symbol (odd_last (c.leap_at == c.minute)))

-- the numbers of a frame
pub HasNumbers-spelt : (c : Coded) (civil : CivilMinute) (weekday : ℕ) (marks : List Mark) → symbols_of marks ≡ frame_of c civil weekday →
    civil.minute < 60 → civil.hour < 24 → civil.day < 32 → weekday < 8 → civil.month < 13 → HasNumbers (said marks) civil weekday
unfolding frame_of said
HasNumbers-spelt c civil weekday marks e minute hour day week month = record {
  year = record { tens = rw e (tens_worth_4 (civil.year % 100 / 10) (omega arith)); ones = rw e (digit_worth (civil.year % 100 % 10) (omega arith)) };
  month = record { tens = rw e (tens_worth_1 (civil.month / 10) (omega arith)); ones = rw e (digit_worth (civil.month % 10) (omega arith)) };
  day = record { tens = rw e (tens_worth_2 (civil.day / 10) (omega arith)); ones = rw e (digit_worth (civil.day % 10) (omega arith)) };
  hour = record { tens = rw e (tens_worth_2 (civil.hour / 10) (omega arith)); ones = rw e (digit_worth (civil.hour % 10) (omega arith)) };
  minute = record { tens = rw e (tens_worth_3 (civil.minute / 10) (omega arith)); ones = rw e (digit_worth (civil.minute % 10) (omega arith)) };
  days = rw e (three_worth weekday week);
}

-- ---- marks that agree at the places that are read

-- two segments have the same symbols at the places that are not passed over
abbrev pub IsReadAs : List Mark → List Mark → Type 0
IsReadAs a b = (place : ℕ) → ¬ (IsPassedOver place) → get_or (symbols_of a) place Zero ≡ get_or (symbols_of b) place Zero

value_same : (a b : List Mark) → IsReadAs a b → (place : ℕ) (weights : List ℕ) → 17 ≤ place → value is_one a place weights ≡ value is_one b place weights
value_same a b h place [] from = refl
value_same a b h place (weight ∷ weights) from =
    let here : get_or (symbols_of a) place Zero ≡ get_or (symbols_of b) place Zero = h place (λ over. omega (arith, over)) in
    rw (here, value_same a b h (place + 1) weights (omega arith)) refl

ones_same : (a b : List Mark) → IsReadAs a b → (place count : ℕ) → 17 ≤ place → count_by (is_set is_one a) (range_with_len place count) ≡ count_by (is_set is_one b) (range_with_len place count)
ones_same a b h place zero from = refl
ones_same a b h place (suc count) from =
    let here : get_or (symbols_of a) place Zero ≡ get_or (symbols_of b) place Zero = h place (λ over. omega (arith, over)) in
    let one : bit_at is_one a place ≡ bit_at is_one b place = rw here refl in
    let left = sum_by-cons (bit_at is_one a) place (range_with_len (place + 1) count) in
    let right = sum_by-cons (bit_at is_one b) place (range_with_len (place + 1) count) in
    left ∙ rw (one, ones_same a b h (place + 1) count (omega arith)) (sym right)

bit_same : (a b : List Mark) → IsReadAs a b → (place : ℕ) → ¬ (IsPassedOver place) → is_set is_one a place ≡ is_set is_one b place
bit_same a b h place read = ap is_one (h place read)

odd_same : (a b : List Mark) → IsReadAs a b → (first last : ℕ) → 17 ≤ first → is_odd_over is_one a first last ≡ is_odd_over is_one b first last
odd_same a b h first last from = ap (λ n. n % 2 == 1) (ones_same a b h first (last + 1 - first) from)

pub HasBits-same : (c : Coded) (a b : List Mark) → IsReadAs a b → HasBits c b → HasBits c a
HasBits-same c a b h bits = record {
  start = bit_same a b h 0 (λ over. omega (arith, over)) ∙ bits.start;
  summer = bit_same a b h 17 (λ over. omega (arith, over)) ∙ bits.summer;
  standard = bit_same a b h 18 (λ over. omega (arith, over)) ∙ bits.standard;
  leap = bit_same a b h 19 (λ over. omega (arith, over)) ∙ bits.leap;
  time = bit_same a b h 20 (λ over. omega (arith, over)) ∙ bits.time;
  minute_parity = odd_same a b h 21 28 (omega arith) ∙ bits.minute_parity;
  hour_parity = odd_same a b h 29 35 (omega arith) ∙ bits.hour_parity;
  date_parity = odd_same a b h 36 58 (omega arith) ∙ bits.date_parity;
  last = bit_same a b h 59 (λ over. omega (arith, over)) ∙ bits.last;
}

pub said-same : (a b : List Mark) → IsReadAs a b → said a ≡ said b
unfolding said
said-same a b h = rw (
  value_same a b h 21 (1 ∷ 2 ∷ 4 ∷ 8 ∷ []) (omega arith),
  value_same a b h 25 (10 ∷ 20 ∷ 40 ∷ []) (omega arith),
  value_same a b h 29 (1 ∷ 2 ∷ 4 ∷ 8 ∷ []) (omega arith),
  value_same a b h 33 (10 ∷ 20 ∷ []) (omega arith),
  value_same a b h 36 (1 ∷ 2 ∷ 4 ∷ 8 ∷ []) (omega arith),
  value_same a b h 40 (10 ∷ 20 ∷ []) (omega arith),
  value_same a b h 42 (1 ∷ 2 ∷ 4 ∷ []) (omega arith),
  value_same a b h 45 (1 ∷ 2 ∷ 4 ∷ 8 ∷ []) (omega arith),
  value_same a b h 49 (10 ∷ []) (omega arith),
  value_same a b h 50 (1 ∷ 2 ∷ 4 ∷ 8 ∷ []) (omega arith),
  value_same a b h 54 (10 ∷ 20 ∷ 40 ∷ 80 ∷ []) (omega arith),
  bit_same a b h 17 (λ over. omega (arith, over)),
) refl
