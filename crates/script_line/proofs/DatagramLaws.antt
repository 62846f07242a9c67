-- The text of a datagram, and the way back.
use Rattle.std.proofs.Common.{◌≡◌, ℕ, zero, suc, ◌+◌, ◌*◌, ◌/◌, ◌%◌, ◌<◌, ◌≤◌, Bool, true, false, ◌&&◌, ◌||◌, not, eqb, ltb, leb, List, [], ◌∷◌, Ok, length, get_or, refl, ap, sym, ◌∙◌, inl, inr, arith}
use Rattle.std.specs.List.{list_all}
use Rattle.std.proofs.lemmas.Bool.{and_parts, cases_lt, eqb-true, eq-eqb, le-leb, leb-true, ltb-true, or_cases}
use Rattle.hex.specs.Hex.{IsBytes, decode_sized, encode_with, encode_lower, lower_digits}
use Rattle.hex.proofs.HexLemmas.{decode_sized-encode_lower, length-encode_with}
use Rattle.script_line.specs.Datagrams.{IsTextOfDatagram, is_small_digit, small_digit_value, are_pairs, are_digits, bytes_said}

-- a test of each number below a bound, which computes
abbrev all_below : (ℕ → Bool) → ℕ → Bool
all_below test zero = true
all_below test (suc n) = test n && all_below test n

below_at : (test : ℕ → Bool) (n k : ℕ) → all_below test n ≡ true → k < n → test k ≡ true
below_at test zero k h lt = absurd (omega arith)
below_at test (suc n) k h lt =
    let parts = and_parts (test n) (all_below test n) h in
    elim (cases_lt k n) [
      | inl below ↦ below_at test n k parts.1 below
      | inr top ↦ (let e : k ≡ n = omega arith in rw e parts.0)
    ]

-- the digit of a value, and the value of a digit
abbrev digit_for : ℕ → ℕ
digit_for v = get_or lower_digits v 0

abbrev is_back : ℕ → Bool
is_back c = ltb (small_digit_value c) 16 && eqb (digit_for (small_digit_value c)) c

abbrev comes_back : ℕ → Bool
comes_back c = not (is_small_digit c) || is_back c

abbrev goes_there : ℕ → Bool
goes_there v = is_small_digit (digit_for v) && eqb (small_digit_value (digit_for v)) v

record IsDigit (c : ℕ) : Type 0 where
  value : small_digit_value c < 16
  is : digit_for (small_digit_value c) ≡ c

small_below : (c : ℕ) → is_small_digit c ≡ true → c < 103
small_below c h = elim (or_cases (leb 48 c && leb c 57) (leb 97 c && leb c 102) h) [
  | inl ten ↦ (let most = leb-true c 57 (and_parts (leb 48 c) (leb c 57) ten).1 in omega arith)
  | inr six ↦ (let most = leb-true c 102 (and_parts (leb 97 c) (leb c 102) six).1 in omega arith)
]

back_if : (small back : Bool) → (not small || back) ≡ true → small ≡ true → back ≡ true
back_if true true h s = refl
back_if true false h s = h
back_if false back h s = cc

digit_is : (c : ℕ) → is_small_digit c ≡ true → IsDigit c
digit_is c small =
    let test = back_if (is_small_digit c) (is_back c) (below_at comes_back 103 c refl (small_below c small)) small in
    let parts = and_parts (ltb (small_digit_value c) 16) (eqb (digit_for (small_digit_value c)) c) test in
    record { value = ltb-true (small_digit_value c) 16 parts.0; is = eqb-true (digit_for (small_digit_value c)) c parts.1 }

record IsDigitFor (v : ℕ) : Type 0 where
  small : is_small_digit (digit_for v) ≡ true
  value : small_digit_value (digit_for v) ≡ v

digit_for_is : (v : ℕ) → v < 16 → IsDigitFor v
digit_for_is v below =
    let parts = and_parts (is_small_digit (digit_for v)) (eqb (small_digit_value (digit_for v)) v) (below_at goes_there 16 v refl below) in
    record { small = parts.0; value = eqb-true (small_digit_value (digit_for v)) v parts.1 }

-- from digits to bytes, and back
record Says (digits : List ℕ) : Type 0 where
  is : digits ≡ encode_lower (bytes_said digits)
  each : IsBytes (bytes_said digits)

bytes_cons : (b : ℕ) (rest : List ℕ) → b < 256 → IsBytes rest → IsBytes (b ∷ rest)
bytes_cons b rest h hs zero = h
bytes_cons b rest h hs (suc i) = hs i

pair_is : (high low : ℕ) (more : List ℕ) → IsDigit high → IsDigit low → Says more → Says (high ∷ low ∷ more)
unfolding encode_with
pair_is high low more h l rest =
    let byte = small_digit_value high * 16 + small_digit_value low in
    let hv = h.value in
    let lv = l.value in
    let upper : byte / 16 ≡ small_digit_value high = omega arith in
    let lower : byte % 16 ≡ small_digit_value low = omega arith in
    let first : digit_for (byte / 16) ≡ high = ap digit_for upper ∙ h.is in
    let second : digit_for (byte % 16) ≡ low = ap digit_for lower ∙ l.is in
    record {
      is = ap (λ (t : List ℕ). high ∷ low ∷ t) rest.is
          ∙ ap (λ d. d ∷ low ∷ encode_lower (bytes_said more)) (sym first)
          ∙ ap (λ d. digit_for (byte / 16) ∷ d ∷ encode_lower (bytes_said more)) (sym second);
      each = bytes_cons byte (bytes_said more) (omega arith) rest.each;
    }

says : (digits : List ℕ) → length digits % 2 ≡ 0 → list_all is_small_digit digits ≡ true → Says digits
unfolding encode_with
says [] even small = record { is = refl; each = λ i. omega arith }
says (digit ∷ []) even small = absurd (omega arith)
says (high ∷ low ∷ more) even small =
    let first = and_parts (is_small_digit high) (list_all is_small_digit (low ∷ more)) small in
    let second = and_parts (is_small_digit low) (list_all is_small_digit more) first.1 in
    pair_is high low more (digit_is high first.0) (digit_is low second.0) (says more (omega arith) second.1)

pub said_bytes : (bytes : List ℕ) → IsBytes bytes → bytes_said (encode_lower bytes) ≡ bytes
unfolding encode_with
said_bytes [] each = refl
said_bytes (byte ∷ bytes) each =
    let fits : byte < 256 = each 0 in
    let high = (digit_for_is (byte / 16) (omega arith)).value in
    let low = (digit_for_is (byte % 16) (omega arith)).value in
    let whole : small_digit_value (digit_for (byte / 16)) * 16 + small_digit_value (digit_for (byte % 16)) ≡ byte = omega arith in
    ap (λ b. b ∷ bytes_said (encode_lower bytes)) whole ∙ ap (λ (t : List ℕ). byte ∷ t) (said_bytes bytes (λ i. each (suc i)))

pub small_text : (bytes : List ℕ) → IsBytes bytes → list_all is_small_digit (encode_lower bytes) ≡ true
unfolding encode_with
small_text [] each = refl
small_text (byte ∷ bytes) each =
    let fits : byte < 256 = each 0 in
    let high = (digit_for_is (byte / 16) (omega arith)).small in
    let low = (digit_for_is (byte % 16) (omega arith)).small in
    rw (high, low) (small_text bytes (λ i. each (suc i)))

pairs_parts : (count : ℕ) → are_pairs count ≡ true → (2 ≤ count) × (count ≤ 2048) × (count % 2 ≡ 0)
pairs_parts count h =
    let prefix = and_parts (leb 2 count && leb count 2048) (eqb (count % 2) 0) h in
    let bounds = and_parts (leb 2 count) (leb count 2048) prefix.0 in
    (leb-true 2 count bounds.0, leb-true count 2048 bounds.1, eqb-true (count % 2) 0 prefix.1)

-- digits of a datagram are its text
pub text_of_digits : (digits : List ℕ) → are_digits digits ≡ true → IsTextOfDatagram digits (bytes_said digits)
text_of_digits digits h =
    let parts = and_parts (are_pairs (length digits)) (list_all is_small_digit digits) h in
    let pairs = pairs_parts (length digits) parts.0 in
    let both = says digits pairs.2 parts.1 in
    let twice : length digits ≡ 2 * length (bytes_said digits) = ap length both.is ∙ length-encode_with lower_digits (bytes_said digits) in
    let least = pairs.0 in
    let most = pairs.1 in
    record { datagram = record { least = omega arith; most = omega arith; each = both.each }; is = both.is }

-- and its text is digits of it
pub digits_of_text : (digits bytes : List ℕ) → IsTextOfDatagram digits bytes → are_digits digits ≡ true
digits_of_text digits bytes h =
    let twice : length digits ≡ 2 * length bytes = ap length h.is ∙ length-encode_with lower_digits bytes in
    let least = h.datagram.least in
    let most = h.datagram.most in
    let small : list_all is_small_digit digits ≡ true = ap (list_all is_small_digit) h.is ∙ small_text bytes h.datagram.each in
    let low = le-leb 2 (length digits) (omega arith) in
    let high = le-leb (length digits) 2048 (omega arith) in
    let even = eq-eqb (length digits % 2) 0 (omega arith) in
    rw (low, high, even, small) refl

pub said_is : (digits bytes : List ℕ) → IsTextOfDatagram digits bytes → bytes_said digits ≡ bytes
said_is digits bytes h = ap bytes_said h.is ∙ said_bytes bytes h.datagram.each

-- a datagram's text has two digits for each byte
pub half_is : (digits : List ℕ) → IsTextOfDatagram digits (bytes_said digits) → length digits / 2 ≡ length (bytes_said digits)
half_is digits h = (let twice : length digits ≡ 2 * length (bytes_said digits) = ap length h.is ∙ length-encode_with lower_digits (bytes_said digits) in omega arith)

-- and decodes to its bytes
pub decodes : (digits : List ℕ) (room : ℕ) → IsTextOfDatagram digits (bytes_said digits) → room ≡ length (bytes_said digits) → decode_sized digits room ≡ Ok (bytes_said digits)
decodes digits room h same =
    ap (λ (t : List ℕ). decode_sized t room) h.is ∙ decode_sized-encode_lower (bytes_said digits) room (sym same) h.datagram.each
