-- The bits and values of a segment whose symbols are those of a spelling.
use Rattle.std.proofs.Common.{◌≡◌, ℕ, zero, suc, ◌+◌, ◌*◌, ◌/◌, ◌%◌, ◌<◌, ◌≤◌, Bool, true, false, not, ◌&&◌, ◌||◌, List, [], ◌∷◌, length, get_or, inl, inr, refl, ap, ◌∙◌, arith}
use Rattle.std.proofs.lemmas.Bool.{cases_eq}
use Rattle.std.proofs.lemmas.Bool.Decides.{nat_tests}
use Rattle.std.specs.List.{list_any, range_with_len}
use Rattle.frame_rules.specs.Fields.{is_one, is_set, value, has_pattern, symbols_of}
use Rattle.tick_units.specs.Marks.{is_long}
use Rattle.frame_rules.specs.Rules.{has_odd_symbol}
use Rattle.tick_units.specs.declared.marks.Mark.{Mark}
use Rattle.tick_units.specs.declared.marks.Symbol.{Symbol}
use Rattle.tick_units.specs.declared.marks.Symbol.TheVariants.{Zero}
use Rattle.civil_minute.specs.declared.seconds.CivilMinute.{CivilMinute}
use Rattle.frame_rules.proofs.BitSymbols.{is_one-bit_symbol, is_long-bit_symbol, is_odd-bit_symbol}
use Rattle.frame_rules.proofs.HighBits.{Detects, worth, bit_worth, digit_worth, tens_worth_2, tens_worth_3, tens_worth_4}
use Rattle.frame_rules.proofs.Template.{has_odd_symbol-symbols_of}
use Rattle.civil_frame.proofs.Says.{HasDigits}
use Rattle.plan_wwvb.specs.Fields.{marker_places, is_marker_place, zero_places, announces_leap, said}
use Rattle.plan_wwvb.specs.declared.fields.OrdinalTime.{OrdinalTime}
use Rattle.plan_wwvb.specs.Rules.{lacks_marker, breaks_reserved}
use Rattle.plan_wwvb.specs.Spelling.{frame_of, is_free}

detects_one : Detects is_one
detects_one = record { of_one = refl; of_zero = refl }

-- a place that is Long and shouldn't be
abbrev pub strays : List Mark → ℕ → Bool
strays marks place = is_set is_long marks place && not (is_marker_place place)

-- the parts of a frame that are single bits
pub record HasBits (leap : Bool) (marks : List Mark) : Type 0 where
  pub markers : lacks_marker marks ≡ false
  pub no_strays : list_any (strays marks) (range_with_len 0 60) ≡ false
  pub zeros : breaks_reserved marks ≡ false
  pub announced : announces_leap marks ≡ leap

pub HasBits-spelt : (leap : Bool) (civil : CivilMinute) (day : ℕ) (marks : List Mark) → symbols_of marks ≡ frame_of leap civil day → HasBits leap marks
unfolding frame_of
HasBits-spelt leap civil day marks e = record {
  markers = rw e refl;
  no_strays = rw e (simp is_long-bit_symbol);
  zeros = rw e refl;
  announced = rw e (is_one-bit_symbol leap);
}

pub plus-spelt : (leap : Bool) (civil : CivilMinute) (day : ℕ) (marks : List Mark) → symbols_of marks ≡ frame_of leap civil day → has_pattern is_one marks 36 (true ∷ false ∷ true ∷ []) ≡ true
unfolding frame_of
plus-spelt leap civil day marks e = rw e refl

pub length-frame_of : (leap : Bool) (civil : CivilMinute) (day : ℕ) → length (frame_of leap civil day) ≡ 60
unfolding frame_of
length-frame_of leap civil day = refl

pub has_odd_symbol-spelt : (leap : Bool) (civil : CivilMinute) (day : ℕ) (marks : List Mark) → symbols_of marks ≡ frame_of leap civil day → has_odd_symbol marks ≡ false
unfolding frame_of
has_odd_symbol-spelt leap civil day marks e = rw (has_odd_symbol-symbols_of marks, e) (simp is_odd-bit_symbol)

-- the numbers of a frame
pub record HasNumbers (ordinal : OrdinalTime) (civil : CivilMinute) (day : ℕ) : Type 0 where
  pub minute : HasDigits ordinal.time.minute civil.minute
  pub hour : HasDigits ordinal.time.hour civil.hour
  pub hundreds : ordinal.hundreds ≡ 100 * (day / 100)
  pub days : HasDigits ordinal.day (day % 100)
  pub year : HasDigits ordinal.year (civil.year % 100)

hundreds_worth : (n : ℕ) → n < 4 → 200 * worth is_one (n / 2 % 2) + (100 * worth is_one (n / 1 % 2) + 0) ≡ 100 * n
hundreds_worth n h = omega (arith, bit_worth is_one detects_one (n / 2), bit_worth is_one detects_one (n / 1))

pub HasNumbers-spelt : (leap : Bool) (civil : CivilMinute) (day : ℕ) (marks : List Mark) → symbols_of marks ≡ frame_of leap civil day →
    civil.minute < 60 → civil.hour < 24 → day < 400 → HasNumbers (said marks) civil day
unfolding frame_of said
HasNumbers-spelt leap civil day marks e minute hour days = record {
  minute = record { tens = rw e (tens_worth_3 is_one detects_one (civil.minute / 10) (omega arith)); ones = rw e (digit_worth is_one detects_one (civil.minute % 10) (omega arith)) };
  hour = record { tens = rw e (tens_worth_2 is_one detects_one (civil.hour / 10) (omega arith)); ones = rw e (digit_worth is_one detects_one (civil.hour % 10) (omega arith)) };
  hundreds = rw e (hundreds_worth (day / 100) (omega arith));
  days = record {
    tens = rw e (omega (arith, tens_worth_4 is_one detects_one (day / 10 % 10) (omega arith)));
    ones = rw e (omega (arith, digit_worth is_one detects_one (day % 10) (omega arith)));
  };
  year = record { tens = rw e (tens_worth_4 is_one detects_one (civil.year % 100 / 10) (omega arith)); ones = rw e (digit_worth is_one detects_one (civil.year % 100 % 10) (omega arith)) };
}

-- ---- tests over places

any_parts : (a b : Bool) → (a || b) ≡ false → (a ≡ false) × (b ≡ false)
any_parts false b e = (refl, e)
any_parts true b e = absurd (cc)

-- a test that fails at each place of a range fails at one of them
pub none_at : (p : ℕ → Bool) (first count place : ℕ) → list_any p (range_with_len first count) ≡ false → first ≤ place → place < first + count → p place ≡ false
none_at p first zero place e low high = absurd (omega arith)
none_at p first (suc count) place e low high =
    let parts = any_parts (p first) (list_any p (range_with_len (first + 1) count)) e in
    elim (cases_eq place first) [
      | inl same ↦ rw same parts.0
      | inr other ↦ none_at p (first + 1) count place parts.1 (omega arith) (omega arith)
    ]

pub none_from : (p : ℕ → Bool) (first count : ℕ) → ((place : ℕ) → first ≤ place → place < first + count → p place ≡ false) → list_any p (range_with_len first count) ≡ false
none_from p first zero h = refl
none_from p first (suc count) h =
    let here : p first ≡ false = h first (omega arith) (omega arith) in
    rw (here, none_from p (first + 1) count (λ place low high. h place (omega arith) (omega arith))) refl

-- ---- marks that agree at the places that are not free

abbrev pub IsReadAs : List Mark → List Mark → Type 0
IsReadAs a b = (place : ℕ) → is_free place ≡ false → get_or (symbols_of a) place Zero ≡ get_or (symbols_of b) place Zero

free_early : (place : ℕ) → place < 36 → is_free place ≡ false
free_early place h = grind (arith, nat_tests)

free_late : (place : ℕ) → 44 ≤ place → place < 55 → is_free place ≡ false
free_late place low high = grind (arith, nat_tests)

early_same : (a b : List Mark) → IsReadAs a b → (place : ℕ) (weights : List ℕ) → place + length weights ≤ 36 → value is_one a place weights ≡ value is_one b place weights
early_same a b h place [] room = refl
early_same a b h place (weight ∷ weights) room = rw (h place (free_early place (omega arith)), early_same a b h (place + 1) weights (omega arith)) refl

late_same : (a b : List Mark) → IsReadAs a b → (place : ℕ) (weights : List ℕ) → 44 ≤ place → place + length weights ≤ 55 → value is_one a place weights ≡ value is_one b place weights
late_same a b h place [] low room = refl
late_same a b h place (weight ∷ weights) low room = rw (h place (free_late place low (omega arith)), late_same a b h (place + 1) weights (omega arith) (omega arith)) refl

any_same : (a b : List Mark) → IsReadAs a b → (test : Symbol → Bool) (places : List ℕ) → list_any is_free places ≡ false → list_any (λ place. test (get_or (symbols_of a) place Zero)) places ≡ list_any (λ place. test (get_or (symbols_of b) place Zero)) places
any_same a b h test [] e = refl
any_same a b h test (place ∷ places) e =
    let parts = any_parts (is_free place) (list_any is_free places) e in
    rw (h place parts.0, any_same a b h test places parts.1) refl

pub said-same : (a b : List Mark) → IsReadAs a b → said a ≡ said b
unfolding said
said-same a b h = rw (
  early_same a b h 1 (40 ∷ 20 ∷ 10 ∷ []) (omega arith),
  early_same a b h 5 (8 ∷ 4 ∷ 2 ∷ 1 ∷ []) (omega arith),
  early_same a b h 12 (20 ∷ 10 ∷ []) (omega arith),
  early_same a b h 15 (8 ∷ 4 ∷ 2 ∷ 1 ∷ []) (omega arith),
  early_same a b h 22 (200 ∷ 100 ∷ []) (omega arith),
  early_same a b h 25 (80 ∷ 40 ∷ 20 ∷ 10 ∷ []) (omega arith),
  early_same a b h 30 (8 ∷ 4 ∷ 2 ∷ 1 ∷ []) (omega arith),
  late_same a b h 45 (80 ∷ 40 ∷ 20 ∷ 10 ∷ []) (omega arith) (omega arith),
  late_same a b h 50 (8 ∷ 4 ∷ 2 ∷ 1 ∷ []) (omega arith) (omega arith),
) refl

stray_same : (a b : List Mark) → IsReadAs a b → ((place : ℕ) → is_free place ≡ true → is_set is_long a place ≡ false) → (place : ℕ) → strays b place ≡ false → (free : Bool) → is_free place ≡ free → strays a place ≡ false
stray_same a b h long place e true free = rw (long place free) refl
stray_same a b h long place e false free = rw (h place free) e

pub HasBits-same : (leap : Bool) (a b : List Mark) → IsReadAs a b → ((place : ℕ) → is_free place ≡ true → is_set is_long a place ≡ false) → HasBits leap b → HasBits leap a
HasBits-same leap a b h long bits = record {
  markers = any_same a b h (λ symbol. not (is_long symbol)) marker_places refl ∙ bits.markers;
  no_strays = none_from (strays a) 0 60 (λ place low high. stray_same a b h long place (none_at (strays b) 0 60 place bits.no_strays low high) (is_free place) refl);
  zeros = any_same a b h is_one zero_places refl ∙ bits.zeros;
  announced = ap is_one (h 56 refl) ∙ bits.announced;
}
