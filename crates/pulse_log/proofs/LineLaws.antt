-- What a line says, and the one line that says it.
use Rattle.std.proofs.Common.{◌≡◌, ℕ, zero, suc, ◌+◌, ◌^◌, ◌<◌, ◌≤◌, Bool, true, false, cond, ◌&&◌, ◌||◌, not, eqb, ltb, leb, Option, Some, None, List, [], ◌∷◌, ◌++◌, length, get_or, take, drop, decimal, refl, ap, sym, ◌∙◌, inl, inr, arith}
use Rattle.std.specs.List.{position_or_len}
use Rattle.std.specs.Str.{all_ascii_digits}
use Rattle.std.specs.Str.Parse.{digits_value}
use Rattle.std.proofs.lemmas.Bool.{cases_Bool, lt-ltb, ltb-true, le-leb, leb-true, eq-eqb, eqb-true, eqb-false, ne_eqb, and_parts, or_cases, not-true}
use Rattle.std.proofs.lemmas.List.{length-append, length-drop, get_or_append_left}
use Rattle.std.proofs.Math.Seq.{take-append_seam, drop-append-add, get_or-append_seam}
use Rattle.std.proofs.lemmas.List.Sums.{position_or_len_is, split_at_first, passes_at_first}
use Rattle.std.proofs.lemmas.Fmt.{decimal_digit, decimal_nonempty, first_decimal, digits_decimal, digits_value-decimal, decimal-digits_value, length-decimal-le}
use Rattle.std.proofs.lemmas.Str.Parse.{IsNumeralModel, numerals_by_value, tells_all_ascii_digits, digit_at}
use Rattle.tick_units.specs.Log.{is_number, number_of, reduction_from, reduction_of, Spells}
use Rattle.tick_units.specs.declared.marks.Reduction.{Reduction}

pub own : IsNumeralModel (λ ds. all_ascii_digits ds ≡ true) (digits_value 10)
own = numerals_by_value _ tells_all_ascii_digits

-- a text of decimal digits is that of its number
record IsText (text : List ℕ) (n : ℕ) : Type 0 where
  number : is_number text ≡ true
  value : n ≡ digits_value 10 text

number_some : (b : Bool) (v n : ℕ) → cond b (Some v) None ≡ Some n → (b ≡ true) × (n ≡ v)
number_some true v n e = (refl, cc)
number_some false v n e = cc

number_text : (text : List ℕ) (n : ℕ) → number_of text ≡ Some n → IsText text n
number_text text n e = let parts = number_some (is_number text) (digits_value 10 text) n e in record { number = parts.0; value = parts.1 }

first_digit : (first len : ℕ) → (not (eqb first 48) || eqb len 1) ≡ true → first ≡ 48 → len ≡ 1
first_digit first len e nought = elim (or_cases (not (eqb first 48)) (eqb len 1) e) [
  | inl other ↦ absurd (eqb-false first 48 (not-true (eqb first 48) other) nought)
  | inr one ↦ eqb-true len 1 one
]

text_is : (text : List ℕ) (n : ℕ) → n < 2 ^ 64 → IsText text n → text ≡ decimal n
text_is text n small h =
    let prefix = and_parts (all_ascii_digits text && ltb 0 (length text)) _ h.number in
    let digits = and_parts (all_ascii_digits text) (ltb 0 (length text)) prefix.0 in
    let value = h.value in
    sym (ap decimal value ∙ decimal-digits_value own text digits.0 (ltb-true 0 (length text) digits.1) (first_digit (get_or text 0 0) (length text) prefix.1) (omega arith))

-- a number's text in decimal
pub decimal_of : (text : List ℕ) (n : ℕ) → n < 2 ^ 64 → number_of text ≡ Some n → text ≡ decimal n
decimal_of text n small e = text_is text n small (number_text text n e)

first_fits : (n : ℕ) → n < 2 ^ 64 → (not (eqb (get_or (decimal n) 0 0) 48) || eqb (length (decimal n)) 1) ≡ true
first_fits zero small = let text : decimal 0 ≡ 48 ∷ [] = decimal_digit 0 (omega arith) in rw text refl
first_fits (suc m) small =
    let more = first_decimal (suc m) (omega arith) small in
    rw (ne_eqb (get_or (decimal (suc m)) 0 0) 48 (omega arith)) refl

-- and that text's number
pub number_of_decimal : (n : ℕ) → n < 2 ^ 64 → number_of (decimal n) ≡ Some n
number_of_decimal n small =
    let digits = digits_decimal own n small in
    let some = lt-ltb 0 (length (decimal n)) (decimal_nonempty n small) in
    rw (digits, some, first_fits n small, digits_value-decimal own n small) refl

-- what two numbers that make a reduction are
record Makes (at width : Option ℕ) (r : Reduction) : Type 0 where
  at_is : at ≡ Some r.at
  width_is : width ≡ Some r.width
  below : r.at < 2 ^ 50
  least : 1 ≤ r.width
  most : r.width ≤ 2000000

made_of : (at width : ℕ) (r : Reduction) → Some (record { at = at; width = width }) ≡ Some r → at < 2 ^ 50 → 1 ≤ width → width ≤ 2000000 → Makes (Some at) (Some width) r
made_of at width r e below least most =
    let at_is : at ≡ r.at = cc in
    let width_is : width ≡ r.width = cc in
    record { at_is = ap (λ (n : ℕ). Some n) at_is; width_is = ap (λ (n : ℕ). Some n) width_is; below = omega arith; least = omega arith; most = omega arith }

made : (at width : Option ℕ) (r : Reduction) → reduction_from at width ≡ Some r → Makes at width r
made None width r e = cc
made (Some at) None r e = cc
made (Some at) (Some width) r e = elim (cases_Bool (ltb at (2 ^ 50) && leb 1 width && leb width 2000000)) [
  | inl test ↦ (let parts = and_parts (ltb at (2 ^ 50) && leb 1 width) (leb width 2000000) test in
      let low = and_parts (ltb at (2 ^ 50)) (leb 1 width) parts.0 in
      let e' : Some (record { at = at; width = width }) ≡ Some r = rw test at e in
      made_of at width r e' (ltb-true at (2 ^ 50) low.0) (leb-true 1 width low.1) (leb-true width 2000000 parts.1))
  | inr test ↦ (let e' : ◌≡◌ {A = Option Reduction} None (Some r) = rw test at e in cc)
]

says_or_not : (o : Option Reduction) → ((r : Reduction) → o ≡ Some r → ⊥) → o ≡ None
says_or_not None never = refl
says_or_not (Some r) never = absurd (never r refl)

-- a line that says no reduction says nothing
pub none_of : (line : List ℕ) → ((r : Reduction) → reduction_of line ≡ Some r → ⊥) → reduction_of line ≡ None
none_of line never = says_or_not (reduction_of line) never

-- a line that says a reduction is its two numbers in decimal, with one space between them
pub spells : (line : List ℕ) (r : Reduction) → reduction_of line ≡ Some r → Spells line r
spells line r e =
    let place = position_or_len (λ (byte : ℕ). eqb byte 32) line in
    let parts = made (number_of (take place line)) (number_of (drop (place + 1) line)) r e in
    let below = parts.below in
    let most = parts.most in
    let prefix : take place line ≡ decimal r.at = decimal_of (take place line) r.at (omega arith) parts.at_is in
    let back : drop (place + 1) line ≡ decimal r.width = decimal_of (drop (place + 1) line) r.width (omega arith) parts.width_is in
    let some = decimal_nonempty r.width (omega arith) in
    let rest : length (drop (place + 1) line) ≡ length (decimal r.width) = ap length back in
    let within : place < length line = omega (arith, length-drop (place + 1) line) in
    let space : get_or line place 0 ≡ 32 = eqb-true (get_or line place 0) 32 (passes_at_first (λ (byte : ℕ). eqb byte 32) line 0 within) in
    record {
      text = split_at_first (λ (byte : ℕ). eqb byte 32) line 0 within ∙ ap (λ (t : List ℕ). t ++ (get_or line place 0 ∷ drop (place + 1) line)) prefix ∙ ap (λ (t : List ℕ). decimal r.at ++ (get_or line place 0 ∷ t)) back ∙ ap (λ (byte : ℕ). decimal r.at ++ (byte ∷ decimal r.width)) space;
      at = parts.below;
      least = parts.least;
      most = parts.most;
    }

no_space_in : (n : ℕ) (more : List ℕ) (k : ℕ) → n < 2 ^ 64 → k < length (decimal n) → eqb (get_or (decimal n ++ more) k 0) 32 ≡ false
no_space_in n more k small within =
    let same = get_or_append_left (decimal n) more 0 k within in
    let digit = digit_at (decimal n) k (own.to (decimal n) (digits_decimal own n small)) within in
    ne_eqb (get_or (decimal n ++ more) k 0) 32 (omega arith)

-- where the space stands
place_is : (n : ℕ) (more : List ℕ) → n < 2 ^ 64 → position_or_len (λ (byte : ℕ). eqb byte 32) (decimal n ++ 32 ∷ more) ≡ length (decimal n)
place_is n more small =
    position_or_len_is (λ (byte : ℕ). eqb byte 32) (decimal n ++ 32 ∷ more) (length (decimal n)) 0
    (omega (arith, length-append (decimal n) (32 ∷ more)))
    (λ k within. no_space_in n (32 ∷ more) k small within)
    (λ _. eq-eqb (get_or (decimal n ++ 32 ∷ more) (length (decimal n)) 0) 32 (get_or-append_seam (decimal n) 32 more 0))

-- and that line says it
pub says : (at width : ℕ) → at < 2 ^ 50 → 1 ≤ width → width ≤ 2000000 → reduction_of (decimal at ++ 32 ∷ decimal width) ≡ Some (record { at = at; width = width })
says at width below least most =
    let place = place_is at (decimal width) (omega arith) in
    let prefix : take (length (decimal at)) (decimal at ++ 32 ∷ decimal width) ≡ decimal at = take-append_seam (decimal at) (32 ∷ decimal width) in
    let back : drop (length (decimal at) + 1) (decimal at ++ 32 ∷ decimal width) ≡ decimal width = drop-append-add (decimal at) (32 ∷ decimal width) 1 in
    let below_test = lt-ltb at (2 ^ 50) below in
    let least_test = le-leb 1 width least in
    let most_test = le-leb width 2000000 most in
    rw (place, prefix, back, number_of_decimal at (omega arith), number_of_decimal width (omega arith), below_test, least_test, most_test) refl

-- a line of 32 bytes or more says nothing
pub long_line : (line : List ℕ) → 32 ≤ length line → reduction_of line ≡ None
long_line line long = none_of line (λ r e.
    let line_is = spells line r e in
    let below = line_is.at in
    let most = line_is.most in
    let prefix = length-decimal-le 16 r.at (omega arith) (omega arith) (omega arith) in
    let back = length-decimal-le 7 r.width (omega arith) (omega arith) (omega arith) in
    let all = ap length line_is.text ∙ length-append (decimal r.at) (32 ∷ decimal r.width) in
    omega arith)
