-- The number that a text begins with.
use Rattle.std.proofs.Common.{◌≡◌, ℕ, zero, suc, ◌+◌, ◌*◌, ◌^◌, ◌<◌, ◌≤◌, List, [], ◌∷◌, ◌++◌, length, get_or, take, drop, decimal, refl, ap, subst, sym, add-one, ◌∙◌, inl, inr, arith}
use Rattle.std.specs.Prelude.{◌≢◌, ◌||◌, nat_lt, IsTrue, Option, Some, None, IfSome, IfNone}
use Rattle.std.proofs.lemmas.Bool.{cases_Bool}
use Rattle.std.proofs.lemmas.Bool.Decides.{nat_tests}
use Rattle.std.specs.Char.{digit_value}
use Rattle.std.specs.Str.Parse.{AllDigits, digits_value}
use Rattle.std.proofs.lemmas.List.{length-append, length-take-le, get_or-take, take-append-le}
use Rattle.std.proofs.Math.Seq.{take-suc, take-append_seam, get_or-append_seam}
use Rattle.std.proofs.lemmas.List.{get_or_append_left}
use Rattle.std.proofs.lemmas.Fmt.{decimal_digit, decimal_nonempty, first_decimal, digits_decimal, digits_value-decimal, decimal-digits_value}
use Rattle.std.proofs.lemmas.Int.Digits.{digits_value_more}
use Rattle.std.proofs.lemmas.Str.{digit_value_digit}
use Rattle.std.proofs.lemmas.Str.Parse.{IsNumeralModel, numerals_by_value, tells_digits, digit_at, digits_value-take-le}
use Rattle.decimal_text.specs.Numbers.{BeginsWith, EndsNumber}
use Rattle.decimal_text.specs.Reading.{SaysSoFar}
use Rattle.decimal_text.specs.declared.number.Number.{Number}

own : IsNumeralModel (AllDigits 10) (digits_value 10)
own = numerals_by_value (AllDigits 10) tells_digits

-- digits with no zero before others are their number's text
pub is_text : (text : List ℕ) (count value : ℕ) → SaysSoFar text count value → count ≤ length text → value < 2 ^ 60 → 0 < count →
    (get_or text 0 0 ≡ 48 → count ≡ 1) → take count text ≡ decimal value
is_text text count value h within small some plain =
    let ds = take count text in
    let len = length-take-le count text within in
    let first = get_or-take count text 0 0 some in
    let is = h.says in
    sym (ap decimal is ∙ decimal-digits_value own ds h.digits (omega arith) (λ nought. len ∙ plain (sym first ∙ nought)) (omega arith))

-- no digits are no number's text, and nor are those after a zero
pub not_empty : (text : List ℕ) (value : ℕ) → value < 2 ^ 60 → take 0 text ≡ decimal value → ⊥
not_empty text value small e =
    let some = decimal_nonempty value (omega arith) in
    let same = ap length e in
    omega arith

not_later : (ds : List ℕ) (value : ℕ) → value < 2 ^ 60 → get_or ds 0 0 ≡ 48 → 1 < length ds → ds ≡ decimal value → ⊥
not_later ds zero small nought more e =
    let one : ds ≡ 48 ∷ [] = e ∙ decimal_digit 0 (omega arith) in
    let same = ap length one in
    omega arith
not_later ds (suc m) small nought more e =
    let first = first_decimal (suc m) (omega arith) (omega arith) in
    let same = ap (λ (t : List ℕ). get_or t 0 0) e in
    omega arith

pub not_padded : (text : List ℕ) (count value : ℕ) → count ≤ length text → value < 2 ^ 60 → 1 < count → get_or text 0 0 ≡ 48 → take count text ≡ decimal value → ⊥
not_padded text count value within small more nought e =
    let len = length-take-le count text within in
    let first = get_or-take count text 0 0 (omega arith) in
    not_later (take count text) value small (first ∙ nought) (omega arith) e

digits_push : (ds : List ℕ) (c : ℕ) → AllDigits 10 ds → digit_value c < 10 → AllDigits 10 (ds ++ c ∷ [])
digits_push [] c all digit = (digit, tt)
digits_push (d ∷ ds) c all digit = (all.0, digits_push ds c all.1 digit)

-- one digit more
pub says_more : (text : List ℕ) (i value : ℕ) → SaysSoFar text i value → i < length text → digit_value (get_or text i 0) < 10 → SaysSoFar text (i + 1) (value * 10 + digit_value (get_or text i 0))
says_more text i value h within digit =
    let more = digits_value_more 10 text i within in
    let is = h.says in
    let longer : take (i + 1) text ≡ take i text ++ get_or text i 0 ∷ [] = ap (λ k. take k text) (add-one i) ∙ take-suc text i 0 within in
    record { digits = subst (AllDigits 10) (sym longer) (digits_push (take i text) (get_or text i 0) h.digits digit); says = omega arith }

pub says_nothing : (text : List ℕ) → SaysSoFar text 0 0
says_nothing text = record { digits = tt; says = refl }

-- a byte that is no digit
no_digit : (byte : ℕ) → IsTrue (nat_lt byte 48 || nat_lt 57 byte) → 48 ≤ byte → byte ≤ 57 → ⊥
no_digit byte other least most = grind (arith, nat_tests)

-- after the digits of a number stands no digit, or nothing
past : (n i : ℕ) (rest : List ℕ) → EndsNumber rest → AllDigits 10 (take i (decimal n ++ rest)) → i ≤ length (decimal n ++ rest) → length (decimal n) < i → ⊥
past n i [] ends all within beyond = omega (arith, length-append (decimal n) [])
past n i (byte ∷ more) ends all within beyond =
    let text = decimal n ++ byte ∷ more in
    let len = length-take-le i text within in
    let digit = digit_at (take i text) (length (decimal n)) all (omega arith) in
    let here = get_or-take i text (length (decimal n)) 0 beyond in
    let other = get_or-append_seam (decimal n) byte more 0 in
    no_digit byte ends (omega arith) (omega arith)

not_past : (text : List ℕ) (n i : ℕ) (rest : List ℕ) → EndsNumber rest → text ≡ decimal n ++ rest → AllDigits 10 (take i text) → i ≤ length text → length (decimal n) < i → ⊥
not_past text n i rest ends e all within beyond =
    past n i rest ends (subst (λ (t : List ℕ). AllDigits 10 (take i t)) e all) (subst (λ (t : List ℕ). i ≤ length t) e within) beyond

-- so the digits end where the number does
pub ends_at : (text : List ℕ) (n i value : ℕ) (rest : List ℕ) → EndsNumber rest → n < 2 ^ 60 → text ≡ decimal n ++ rest → SaysSoFar text i value → i ≤ length text →
    (i < length text → digit_value (get_or text i 0) < 10 → ⊥) → (i ≡ length (decimal n)) × (take i text ≡ decimal n) × (value ≡ n)
ends_at text n i value rest ends small e h within stop =
    let all = ap length e ∙ length-append (decimal n) (rest) in
    let not_before : i < length (decimal n) → ⊥ = λ before. stop (omega arith) (
    let digit = digit_at (decimal n) i (digits_decimal own n (omega arith)) before in
    let here : get_or text i 0 ≡ get_or (decimal n) i 0 = ap (λ (t : List ℕ). get_or t i 0) e ∙ get_or_append_left (decimal n) (rest) 0 i before in
    let value = digit_value_digit (get_or (decimal n) i 0) digit in
    subst (λ b. digit_value b < 10) (sym here) (omega arith)) in
    let not_beyond = not_past text n i rest ends e h.digits within in
    let is : i ≡ length (decimal n) = omega arith in
    let same : take i text ≡ decimal n = ap (λ k. take k text) is ∙ ap (take (length (decimal n))) e ∙ take-append_seam (decimal n) (rest) in
    (is, same, h.says ∙ ap (digits_value 10) same ∙ digits_value-decimal own n (omega arith))

-- and the first of them say no more than it
pub most_said : (text : List ℕ) (n i value : ℕ) (rest : List ℕ) → EndsNumber rest → n < 2 ^ 60 → text ≡ decimal n ++ rest → SaysSoFar text i value → i ≤ length text → value ≤ n
most_said text n i value rest ends small e h within =
    let not_beyond = not_past text n i rest ends e h.digits within in
    let short : i ≤ length (decimal n) = omega arith in
    let same : take i text ≡ take i (decimal n) = ap (take i) e ∙ take-append-le i (decimal n) (rest) short in
    let is = h.says ∙ ap (digits_value 10) same in
    let most = digits_value-take-le 10 (decimal n) i (omega arith) in
    let whole = digits_value-decimal own n (omega arith) in
    omega arith

-- a number was found among these digits, and was that of the text
pub found : (result : Option Number) (text : List ℕ) (n i value : ℕ) (rest : List ℕ) → EndsNumber rest → n < 2 ^ 60 → text ≡ decimal n ++ rest → SaysSoFar text i value → i ≤ length text →
    (i < length text → digit_value (get_or text i 0) < 10 → ⊥) →
    IfSome result (λ number. (number.value ≡ value) × (number.length ≡ i) × (take i text ≡ decimal value)) → IfNone result (take i text ≢ decimal value) →
    result ≡ Some (record { value = n; length = length (decimal n) })
found (Some number) text n i value rest ends small e h within stop some none =
    let end = ends_at text n i value rest ends small e h within stop in
    λ j. Some (record { value = (some.0 ∙ end.2) j; length = (some.1 ∙ end.0) j })
found None text n i value rest ends small e h within stop some none =
    let end = ends_at text n i value rest ends small e h within stop in
    absurd (none (end.1 ∙ ap decimal (sym end.2)))

-- where the digits end, so does the number that they are
not_digit : (byte : ℕ) → (digit_value byte < 10 → ⊥) → IsTrue (nat_lt byte 48 || nat_lt 57 byte)
not_digit byte stop = elim (cases_Bool (nat_lt byte 48)) [
  | inl low ↦ rw low refl
  | inr least ↦ elim (cases_Bool (nat_lt 57 byte)) [
    | inl high ↦ rw (least, high) refl
    | inr most ↦ absurd (stop (let upto : byte ≤ 57 = grind (arith, nat_tests) in let value = digit_value_digit byte (grind (arith, nat_tests), upto) in omega arith))
  ]
]

pub ends_here : (text : List ℕ) (i : ℕ) → (i < length text → digit_value (get_or text i 0) < 10 → ⊥) → EndsNumber (drop i text)
ends_here [] zero stop = tt
ends_here [] (suc i) stop = tt
ends_here (byte ∷ bytes) zero stop = not_digit byte (λ digit. stop (omega arith) digit)
ends_here (byte ∷ bytes) (suc i) stop = ends_here bytes i (λ within digit. stop (omega arith) digit)

pub begins : (result : Option Number) (text : List ℕ) (i value most : ℕ) → i ≤ length text → value ≤ most → (i < length text → digit_value (get_or text i 0) < 10 → ⊥) →
    IfSome result (λ number. (number.value ≡ value) × (number.length ≡ i) × (take i text ≡ decimal value)) → IfSome result (λ number. BeginsWith text most number)
begins None text i value most within less stop some = tt
begins (Some number) text i value most within less stop some = record {
  within = let same = some.1 in omega arith;
  is = ap (λ k. take k text) some.1 ∙ some.2 ∙ ap decimal (sym some.0);
  ends = subst (λ k. EndsNumber (drop k text)) (sym some.1) (ends_here text i stop);
  small = let same = some.0 in omega arith;
}
