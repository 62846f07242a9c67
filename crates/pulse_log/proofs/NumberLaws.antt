-- The number that the first digits of a text spell.
use Rattle.core.proofs.dec2flt.DigitsLemmas.{digits_value-append}
use Rattle.std.proofs.Math.Seq.{take-add}
use Rattle.pulse_log.specs.Words.{SpellsPrefix}
use Rattle.std.proofs.Common.{◌≡◌, ℕ, ◌+◌, ◌*◌, ◌^◌, ◌<◌, ◌≤◌, zero, suc, List, [], ◌∷◌, ◌++◌, length, take, drop, get_or, decimal, ap, sym, ◌∙◌, ◌≢◌, subst, arith}
use Rattle.std.specs.Str.Parse.{digits_value, AllDigits}
use Rattle.std.proofs.lemmas.Fmt.{decimal_digit, decimal-digits_value}
use Rattle.std.proofs.lemmas.List.{length-take, take-take, get_or-take}
use Rattle.std.proofs.lemmas.Str.Parse.{IsNumeralModel, numerals_by_value, tells_digits, digits_value_short}

own : IsNumeralModel (AllDigits 10) (digits_value 10)
own = numerals_by_value (AllDigits 10) tells_digits

-- this many digits are below that power of ten
pub small : (bytes : List ℕ) (count number most : ℕ) → SpellsPrefix bytes count number → count ≤ most → number < 10 ^ most
small bytes count number most spells short =
    let value = spells.value in
    let below = digits_value_short own (take count bytes) most spells.digits (omega (arith, length-take count bytes)) in
    omega arith

-- with no leading 0 they are that number in decimal
pub is_decimal : (bytes : List ℕ) (count number : ℕ) → SpellsPrefix bytes count number → count ≢ 0 → number < 2 ^ 64 → get_or bytes 0 0 ≢ 48 → take count bytes ≡ decimal number
is_decimal bytes count number spells some fits other =
    let value = spells.value in
    let within = spells.within in
    let first = get_or-take count bytes 0 0 (omega arith) in
    sym (ap decimal value ∙ decimal-digits_value own (take count bytes) spells.digits (omega (arith, length-take count bytes)) (λ nought. absurd (other (sym first ∙ nought))) (omega arith))

all_append : (ds es : List ℕ) → AllDigits 10 ds → AllDigits 10 es → AllDigits 10 (ds ++ es)
all_append [] es all more = more
all_append (d ∷ ds) es all more = (all.0, all_append ds es all.1 more)

-- eight digits and those after them
pub joined : (bytes eight rest next : List ℕ) (prefix count back : ℕ) → eight ≡ take 8 bytes → rest ≡ drop 8 bytes → next ≡ take 8 rest → SpellsPrefix eight 8 prefix → SpellsPrefix next count back → count ≤ 8 →
    8 + length rest ≡ length bytes → SpellsPrefix bytes (8 + count) (prefix * 10 ^ count + back)
joined bytes eight rest next prefix count back eight_is rest_is next_is first last few long =
    let within = last.within in
    let shorter = ap (λ (t : List ℕ). length t) next_is ∙ length-take 8 rest in
    let all : take 8 eight ≡ take 8 bytes = ap (λ (t : List ℕ). take 8 t) eight_is ∙ take-take 8 8 bytes (omega arith) in
    let more : take count next ≡ take count (drop 8 bytes) = ap (λ (t : List ℕ). take count t) next_is ∙ take-take count 8 rest few ∙ ap (λ (t : List ℕ). take count t) rest_is in
    let both : take (8 + count) bytes ≡ take 8 eight ++ take count next = take-add 8 count bytes ∙ ap (λ (t : List ℕ). t ++ take count (drop 8 bytes)) (sym all) ∙ ap (λ (t : List ℕ). take 8 eight ++ t) (sym more) in
    let size = ap (λ (t : List ℕ). length t) more in
    let long_back : length (take count next) ≡ count = length-take count next ∙ omega arith in
    record {
      within = omega arith;
      digits = subst (AllDigits 10) (sym both) (all_append (take 8 eight) (take count next) first.digits last.digits);
      value = (λ i. first.value i * 10 ^ count + last.value i)
          ∙ ap (λ (n : ℕ). digits_value 10 (take 8 eight) * 10 ^ n + digits_value 10 (take count next)) (sym long_back)
          ∙ sym (digits_value-append (take 8 eight) (take count next)) ∙ sym (ap (digits_value 10) both);
    }

-- and it is not 0
pub is_some : (bytes : List ℕ) (count number : ℕ) → count ≢ 0 → get_or bytes 0 0 ≢ 48 → take count bytes ≡ decimal number → 0 < number
is_some bytes count zero some other is =
    let nought : decimal 0 ≡ 48 ∷ [] = decimal_digit 0 (omega arith) in
    let first = get_or-take count bytes 0 0 (omega arith) in
    absurd (other (sym first ∙ ap (λ (t : List ℕ). get_or t 0 0) (is ∙ nought)))
is_some bytes count (suc m) some other is = omega arith

-- digits at the beginning of the first eight bytes are at the beginning of all
pub in_all : (bytes eight : List ℕ) (count number : ℕ) → eight ≡ take 8 bytes → count ≤ 8 → SpellsPrefix eight count number → SpellsPrefix bytes count number
in_all bytes eight count number is few spells =
    let same : take count eight ≡ take count bytes = ap (λ (t : List ℕ). take count t) is ∙ take-take count 8 bytes few in
    let within = spells.within in
    let size = ap (λ (t : List ℕ). length t) is ∙ length-take 8 bytes in
    record {
      within = omega arith;
      digits = subst (AllDigits 10) same spells.digits;
      value = spells.value ∙ ap (digits_value 10) same;
    }
