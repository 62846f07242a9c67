-- What the number of a text is, by its decimal spelling.
use Rattle.std.proofs.Common.{◌≡◌, ◌∙◌, ℕ, zero, suc, ◌^◌, ◌<◌, ◌≤◌, Bool, true, false, cond, ◌&&◌, ◌||◌, not, eqb, ltb, leb, Option, Some, None, List, [], ◌∷◌, ◌++◌, length, get_or, decimal, refl, ap, sym, subst, inl, inr, arith}
use Rattle.std.specs.Prelude.{IfSome}
use Rattle.std.specs.Str.{all_ascii_digits}
use Rattle.std.specs.Str.Parse.{digits_value}
use Rattle.std.proofs.lemmas.Bool.{lt-ltb, ltb-true, le-leb, leb-true, eq-eqb, eqb-true, eqb-false, ne_eqb, and_parts, or_cases, not-true}
use Rattle.std.proofs.lemmas.Fmt.{decimal_digit, decimal_nonempty, first_decimal, digits_decimal, digits_value-decimal, decimal-digits_value}
use Rattle.std.proofs.lemmas.Str.Parse.{IsNumeralModel, numerals_by_value, tells_all_ascii_digits}
use Rattle.tick_units.specs.Log.{is_number, number_of}
use Rattle.std.proofs.lemmas.List.{append-nil, take_all}
use Rattle.decimal_text.specs.Numbers.{BeginsWith, EndsNumber, at_most}
use Rattle.decimal_text.specs.declared.number.Number.{Number}

own : IsNumeralModel (λ ds. all_ascii_digits ds ≡ true) (digits_value 10)
own = numerals_by_value _ tells_all_ascii_digits

first_digit : (first len : ℕ) → (not (eqb first 48) || eqb len 1) ≡ true → first ≡ 48 → len ≡ 1
first_digit first len e nought = elim (or_cases (not (eqb first 48)) (eqb len 1) e) [
  | inl other ↦ absurd (eqb-false first 48 (not-true (eqb first 48) other) nought)
  | inr one ↦ eqb-true len 1 one
]

-- a text of decimal digits is that of its number
text_is : (text : List ℕ) → digits_value 10 text < 2 ^ 64 → is_number text ≡ true → text ≡ decimal (digits_value 10 text)
text_is text small number =
    let prefix = and_parts (all_ascii_digits text && ltb 0 (length text)) _ number in
    let digits = and_parts (all_ascii_digits text) (ltb 0 (length text)) prefix.0 in
    sym (decimal-digits_value own text digits.0 (ltb-true 0 (length text) digits.1) (first_digit (get_or text 0 0) (length text) prefix.1) small)

first_fits : (n : ℕ) → n < 2 ^ 64 → (not (eqb (get_or (decimal n) 0 0) 48) || eqb (length (decimal n)) 1) ≡ true
first_fits zero small = let text : decimal 0 ≡ 48 ∷ [] = decimal_digit 0 (omega arith) in rw text refl
first_fits (suc m) small =
    let more = first_decimal (suc m) (omega arith) small in
    rw (ne_eqb (get_or (decimal (suc m)) 0 0) 48 (omega arith)) refl

-- a number's text says that number
number_of-decimal : (n : ℕ) → n < 2 ^ 64 → number_of (decimal n) ≡ Some n
number_of-decimal n small =
    let digits = digits_decimal own n small in
    let some = lt-ltb 0 (length (decimal n)) (decimal_nonempty n small) in
    rw (digits, some, first_fits n small, digits_value-decimal own n small) refl

none_of : (text : List ℕ) (most : ℕ) → most < 2 ^ 60 → ((n : ℕ) → n ≤ most → text ≡ decimal n → None ≡ Some n) → (number : Bool) → is_number text ≡ number → (fits : Bool) → leb (digits_value 10 text) most ≡ fits → None ≡ at_most most (cond number (Some (digits_value 10 text)) None)
none_of text most below every false is fits test = refl
none_of text most below every true is false test = rw test refl
none_of text most below every true is true test =
    let within = leb-true (digits_value 10 text) most test in
    absurd (none_some (every (digits_value 10 text) within (text_is text (omega arith) is)))
  where
    none_some : {n : ℕ} → None ≡ Some n → ⊥
    none_some e = cc

-- what was found is the number of the text, where that is at most so great
pub value_is : (text : List ℕ) (most : ℕ) (result : Option ℕ) → most < 2 ^ 60 → IfSome result (λ n. text ≡ decimal n) → IfSome result (λ n. n ≤ most) → ((n : ℕ) → n ≤ most → text ≡ decimal n → result ≡ Some n) → result ≡ at_most most (number_of text)
value_is text most None below said small every = none_of text most below every (is_number text) refl (leb (digits_value 10 text) most) refl
value_is text most (Some n) below said small every =
    sym (ap (λ (t : List ℕ). at_most most (number_of t)) said ∙ ap (at_most most) (number_of-decimal n (omega arith)) ∙ ap (λ (b : Bool). cond b (Some n) None) (le-leb n most small))

-- where a text begins with a number, it is that number's text if the number is all of it
pub said_all : (text : List ℕ) (most : ℕ) (number : Number) (result : Option ℕ) → BeginsWith text most number → result ≡ cond (eqb number.length (length text)) (Some number.value) None → IfSome result (λ n. text ≡ decimal n)
said_all text most number result begins is = subst (λ (o : Option ℕ). IfSome o (λ n. text ≡ decimal n)) (sym is) (by_length (eqb number.length (length text)) refl)
  where
    by_length : (b : Bool) → eqb number.length (length text) ≡ b → IfSome (cond b (Some number.value) None) (λ n. text ≡ decimal n)
    by_length false e = tt
    by_length true e = sym (take_all number.length text (let whole = eqb-true number.length (length text) e in omega arith)) ∙ begins.is

pub small_all : (text : List ℕ) (most : ℕ) (number : Number) (result : Option ℕ) → BeginsWith text most number → result ≡ cond (eqb number.length (length text)) (Some number.value) None → IfSome result (λ n. n ≤ most)
small_all text most number result begins is = subst (λ (o : Option ℕ). IfSome o (λ n. n ≤ most)) (sym is) (by_length (eqb number.length (length text)))
  where
    by_length : (b : Bool) → IfSome (cond b (Some number.value) None) (λ n. n ≤ most)
    by_length false = tt
    by_length true = begins.small

-- and a number's text begins with it
found_whole : (text : List ℕ) (most n : ℕ) (found : Option Number) → ((n : ℕ) (rest : List ℕ) → n ≤ most → EndsNumber rest → text ≡ decimal n ++ rest → found ≡ Some (record { value = n; length = length (decimal n) })) → n ≤ most → text ≡ decimal n → found ≡ Some (record { value = n; length = length (decimal n) })
found_whole text most n found every small e = every n [] small tt (e ∙ sym (append-nil (decimal n)))

pub every_none : (text : List ℕ) (most n : ℕ) (found : Option Number) (result : Option ℕ) → ((n : ℕ) (rest : List ℕ) → n ≤ most → EndsNumber rest → text ≡ decimal n ++ rest → found ≡ Some (record { value = n; length = length (decimal n) })) → found ≡ None → n ≤ most → text ≡ decimal n → result ≡ Some n
every_none text most n found result every none small e = absurd (let some = found_whole text most n found every small e in not_both found _ none some)
  where
    not_both : (o : Option Number) (x : Number) → o ≡ None → o ≡ Some x → ⊥
    not_both o x a b = cc

pub every_some : (text : List ℕ) (most n : ℕ) (found : Option Number) (number : Number) (result : Option ℕ) → ((n : ℕ) (rest : List ℕ) → n ≤ most → EndsNumber rest → text ≡ decimal n ++ rest → found ≡ Some (record { value = n; length = length (decimal n) })) → found ≡ Some number → result ≡ cond (eqb number.length (length text)) (Some number.value) None → n ≤ most → text ≡ decimal n → result ≡ Some n
every_some text most n found number result every some is small e =
    let whole : Some number ≡ Some (record { value = n; length = length (decimal n) }) = sym some ∙ found_whole text most n found every small e in
    let same : number ≡ record { value = n; length = length (decimal n) } = cc in
    is
    ∙ ap (λ (x : Number). cond (eqb x.length (length text)) (Some x.value) None) same
    ∙ ap (λ (b : Bool). cond b (Some n) None) (eq-eqb (length (decimal n)) (length text) (sym (ap length e)))
