-- What decimal digits say.
use Rattle.std.proofs.Common.{◌≡◌, ℕ, zero, suc, ◌+◌, ◌*◌, ◌^◌, ◌<◌, ◌≤◌, List, [], ◌∷◌, length, get_or, take, decimal, eqb, false, ℤ, pos, negsuc, unsigned_abs, neg_ℤ, drop, ◌-◌, refl, ap, subst, sym, ◌∙◌, arith}
use Rattle.std.specs.Char.{digit_value}
use Rattle.std.specs.Fmt.{signed_decimal}
use Rattle.std.proofs.lemmas.List.{take_rest}
use Rattle.std.proofs.lemmas.Bool.{or_from, ne_eqb}
use Rattle.journal_entry.specs.Reading.{has_space}
use Rattle.std.specs.Str.Parse.{AllDigits, digits_value}
use Rattle.std.proofs.lemmas.Fmt.{decimal_is_IsNumeral_wide}
use Rattle.std.proofs.lemmas.Int.Digits.{digits_value_more}
use Rattle.std.proofs.lemmas.Str.Parse.{digits_value-take-le}

digit_in : (ds : List ℕ) (i : ℕ) → AllDigits 10 ds → i < length ds → digit_value (get_or ds i 0) < 10
digit_in [] i all within = absurd (omega arith)
digit_in (d ∷ ds) zero all within = all.0
digit_in (d ∷ ds) (suc i) all within = digit_in ds i all.1 (omega arith)

-- each byte of a number's text is a digit
pub digit_of : (ds : List ℕ) (i n byte : ℕ) → n < 2 ^ 70 → ds ≡ decimal n → i < length ds → byte ≡ get_or ds i 0 → digit_value byte < 10
digit_of ds i n byte small e within is =
    let numeral = decimal_is_IsNumeral_wide n (omega arith) in
    subst (λ b. digit_value b < 10) (sym is) (digit_in ds i (subst (AllDigits 10) (sym e) numeral.0.1) within)

-- the digits of a number say it
pub all_say : (ds : List ℕ) (n : ℕ) → n < 2 ^ 70 → ds ≡ decimal n → digits_value 10 ds ≡ n
all_say ds n small e = ap (digits_value 10) e ∙ (decimal_is_IsNumeral_wide n (omega arith)).1

-- and the first of them say no more
pub prefix_says : (ds : List ℕ) (k n : ℕ) → n < 2 ^ 70 → ds ≡ decimal n → digits_value 10 (take k ds) ≤ n
prefix_says ds k n small e =
    let most = digits_value-take-le 10 ds k (omega arith) in
    let all = all_say ds n small e in
    omega arith

-- one digit more
pub says_more : (ds : List ℕ) (i value byte digit : ℕ) → i < length ds → value ≡ digits_value 10 (take i ds) → byte ≡ get_or ds i 0 → digit ≡ digit_value byte → value * 10 + digit ≡ digits_value 10 (take (i + 1) ds)
says_more ds i value byte digit within so_far is says =
    let more = digits_value_more 10 ds i within in
    let same = says ∙ ap digit_value is in
    omega arith

space_is_none : (d : ℕ) → d ≡ 32 → digit_value d < 10 → ⊥
space_is_none d e digit = let h : digit_value 32 < 10 = subst (λ b. digit_value b < 10) e digit in omega arith

-- no digit is a space
plain : (ds : List ℕ) → AllDigits 10 ds → has_space ds ≡ false
plain [] all = refl
plain (d ∷ ds) all = or_from (eqb d 32) (has_space ds) (ne_eqb d 32 (λ e. space_is_none d e all.0)) (plain ds all.1)

pub no_space : (n : ℕ) → n < 2 ^ 70 → has_space (decimal n) ≡ false
no_space n small = plain (decimal n) (decimal_is_IsNumeral_wide n (omega arith)).0.1

pub no_space_in_span : (z : ℤ) → unsigned_abs z < 2 ^ 70 → has_space (signed_decimal z) ≡ false
no_space_in_span (pos n) small = no_space n (omega arith)
no_space_in_span (negsuc n) small = no_space (suc n) (omega arith)

-- a text whose first byte is a sign is that of a negative span, with the digits after it
pub signed_after : (text : List ℕ) (z size result : ℤ) → unsigned_abs z < 2 ^ 70 → text ≡ signed_decimal z → get_or text 0 0 ≡ 45 →
    ((n : ℕ) → n < 2 ^ 70 → take (length text - 1) (drop 1 text) ≡ decimal n → size ≡ pos n) → result ≡ neg_ℤ size → result ≡ z
signed_after text (pos n) size result small e sign says is =
    let some = decimal_is_IsNumeral_wide n (omega arith) in
    let digit = digit_in text 0 (subst (AllDigits 10) (sym e) some.0.1) (subst (λ (t : List ℕ). 0 < length t) (sym e) some.0.0) in
    let none : digit_value 45 < 10 = subst (λ b. digit_value b < 10) sign digit in
    absurd (omega arith)
signed_after text (negsuc n) size result small e sign says is =
    let digits = take_rest text 1 ∙ ap (drop 1) e in
    is ∙ ap neg_ℤ (says (suc n) (omega arith) digits)
