-- What begins a line: its text goes on, or no valid line begins so.
use Rattle.std.proofs.Common.{◌≡◌, ℕ, zero, suc, ◌+◌, ◌-◌, ◌*◌, ◌/◌, ◌%◌, ◌^◌, ◌<◌, ◌≤◌, true, Some, None, List, [], ◌∷◌, ◌++◌, length, get_or, take, decimal, refl, ap, sym, ◌∙◌, subst, inl, inr, ◌⊎◌, arith, append_assoc}
use Rattle.std.specs.Int.{IsInRange}
use Rattle.std.specs.Str.{all_ascii_digits}
use Rattle.std.specs.Str.Parse.{digits_value}
use Rattle.std.proofs.lemmas.Bool.{ne_eqb, cases_lt}
use Rattle.std.proofs.lemmas.List.{length-append, append-nil}
use Rattle.std.proofs.lemmas.Fmt.{decimal_digit, decimal_step, decimal_nonempty, first_decimal, digits_decimal, digits_value-decimal}
use Rattle.std.proofs.lemmas.Str.Parse.{digits_value-take-le, tells_all_ascii_digits}
use Rattle.std.proofs.Math.Seq.{take-append_seam}
use Rattle.tick_units.specs.Log.{reduction_of}
use Rattle.tick_units.specs.declared.marks.Reduction.{Reduction}
use Rattle.pulse_log.specs.declared.line.Part.{Part}
use Rattle.pulse_log.specs.declared.line.Part.TheVariants.{Start, Zero, Width, Invalid}
use Rattle.pulse_log.specs.Lines.{IsDead, digits_so_far, EndsIn}
use Rattle.pulse_log.proofs.LineLaws.{own, spells, says, none_of}

abbrev AreDigits : List ℕ → Type 0
AreDigits text = all_ascii_digits text ≡ true

pub so_far_some : (n : ℕ) → 0 < n → digits_so_far n ≡ decimal n
so_far_some n some = rw (ne_eqb n 0 (omega arith)) refl

decimal_push : (n digit : ℕ) → 0 < n → n < 2 ^ 50 → digit < 10 → decimal (n * 10 + digit) ≡ decimal n ++ (48 + digit) ∷ []
decimal_push n digit some small low =
    let prefix : (n * 10 + digit) / 10 ≡ n = omega arith in
    let last : (n * 10 + digit) % 10 ≡ digit = omega arith in
    decimal_step (n * 10 + digit) (omega arith) (omega arith) ∙ rw (prefix, last) refl

-- one digit more
pub so_far_push : (n digit : ℕ) → n < 2 ^ 50 → digit < 10 → 0 < n * 10 + digit → digits_so_far n ++ (48 + digit) ∷ [] ≡ decimal (n * 10 + digit)
so_far_push zero digit small low some = (let value : 0 * 10 + digit ≡ digit = omega arith in rw value (sym (decimal_digit digit low)))
so_far_push (suc m) digit small low some = rw (so_far_some (suc m) (omega arith)) (sym (decimal_push (suc m) digit (omega arith) small low))

so_far_digits : (n : ℕ) → n < 2 ^ 50 → AreDigits (digits_so_far n)
so_far_digits zero small = refl
so_far_digits (suc m) small = rw (so_far_some (suc m) (omega arith)) (digits_decimal own (suc m) (omega arith))

-- digits, a byte and more, as a start, a space and a width: the byte is the space, or one more byte of the start
split : (digits start : List ℕ) (byte : ℕ) (more width : List ℕ) → AreDigits digits → digits ++ byte ∷ more ≡ start ++ 32 ∷ width →
    ((byte ≡ 32) × (start ≡ digits) × (more ≡ width)) ⊎ ((rest : List ℕ) × (start ≡ digits ++ byte ∷ rest))
split [] [] byte more width are e = inl (cc, refl, cc)
split [] (first ∷ start) byte more width are e = inr (start, ap (λ (x : ℕ). x ∷ start) (let head : first ≡ byte = cc in head))
split (digit ∷ digits) [] byte more width are e =
    let head : digit ≡ 32 = cc in
    let range = tells_all_ascii_digits.parts digit digits are in
    let low = range.0 in
    absurd (omega arith)
split (digit ∷ digits) (first ∷ start) byte more width are e =
    let head : first ≡ digit = cc in
    let tail : digits ++ byte ∷ more ≡ start ++ 32 ∷ width = cc in
    let range = tells_all_ascii_digits.parts digit digits are in
    elim (split digits start byte more width range.1 tail) as (λ _. ((byte ≡ 32) × (first ∷ start ≡ digit ∷ digits) × (more ≡ width)) ⊎ ((rest : List ℕ) × (first ∷ start ≡ digit ∷ (digits ++ byte ∷ rest)))) [
      | inl h ↦ (let start_is = h.1 in inl (h.0, cc, h.2))
      | inr h ↦ (let start_is = h.1 in inr (h.0, cc))
    ]

digits_within : (digits : List ℕ) (byte : ℕ) (rest : List ℕ) → AreDigits (digits ++ byte ∷ rest) → IsInRange 48 57 byte
digits_within [] byte rest are = (tells_all_ascii_digits.parts byte rest are).0
digits_within (digit ∷ digits) byte rest are = digits_within digits byte rest (tells_all_ascii_digits.parts digit (digits ++ byte ∷ rest) are).1

prefix_of : (digits : List ℕ) (byte : ℕ) (rest : List ℕ) → take (length digits + 1) (digits ++ byte ∷ rest) ≡ digits ++ byte ∷ []
prefix_of digits byte rest =
    let regroup : (digits ++ byte ∷ []) ++ rest ≡ digits ++ byte ∷ rest = append_assoc digits (byte ∷ []) rest in
    let len : length (digits ++ byte ∷ []) ≡ length digits + 1 = length-append digits (byte ∷ []) in
    ap (take (length digits + 1)) (sym regroup) ∙ ap (λ (k : ℕ). take k ((digits ++ byte ∷ []) ++ rest)) (sym len) ∙ take-append_seam (digits ++ byte ∷ []) rest

-- what a number's text says of a byte in it, by the digits before
record IsDigitOf (before byte n : ℕ) : Type 0 where
  digit : IsInRange 48 57 byte
  value : before * 10 + (byte - 48) ≤ n
  first : before * 10 + (byte - 48) ≡ 0 → n ≡ 0

leading : (n : ℕ) (rest : List ℕ) → n < 2 ^ 64 → decimal n ≡ 48 ∷ rest → n ≡ 0
leading zero rest small e = refl
leading (suc m) rest small e =
    let first = first_decimal (suc m) (omega arith) small in
    let head : get_or (decimal (suc m)) 0 0 ≡ 48 = ap (λ (text : List ℕ). get_or text 0 0) e in
    absurd (omega arith)

value_of_prefix : (before digit n : ℕ) (rest : List ℕ) → before < 2 ^ 50 → digit < 10 → n < 2 ^ 64 → decimal n ≡ digits_so_far before ++ (48 + digit) ∷ rest → 0 < before * 10 + digit → before * 10 + digit ≤ n
value_of_prefix before digit n rest small low fits e some =
    let k = length (digits_so_far before) + 1 in
    let prefix : take k (decimal n) ≡ decimal (before * 10 + digit) = ap (take k) e ∙ prefix_of (digits_so_far before) (48 + digit) rest ∙ so_far_push before digit small low some in
    let least = digits_value-take-le 10 (decimal n) k (omega arith) in
    let prefix_value : digits_value 10 (take k (decimal n)) ≡ before * 10 + digit = ap (digits_value 10) prefix ∙ digits_value-decimal own (before * 10 + digit) (omega arith) in
    let value = digits_value-decimal own n fits in
    omega arith

value_le : (before digit n : ℕ) (rest : List ℕ) → before < 2 ^ 50 → digit < 10 → n < 2 ^ 64 → decimal n ≡ digits_so_far before ++ (48 + digit) ∷ rest → before * 10 + digit ≤ n
value_le before digit n rest small low fits e = elim (cases_lt 0 (before * 10 + digit)) [
  | inl some ↦ value_of_prefix before digit n rest small low fits e some
  | inr none ↦ omega arith
]

none_before : (before byte n : ℕ) (rest : List ℕ) → n < 2 ^ 64 → before ≡ 0 → byte ≡ 48 → decimal n ≡ digits_so_far before ++ byte ∷ rest → n ≡ 0
none_before before byte n rest fits none nought e =
    leading n rest fits (e ∙ ap (λ (k : ℕ). digits_so_far k ++ byte ∷ rest) none ∙ ap (λ (b : ℕ). b ∷ rest) nought)

digit_of : (before byte n : ℕ) (rest : List ℕ) → before < 2 ^ 50 → n < 2 ^ 64 → decimal n ≡ digits_so_far before ++ byte ∷ rest → IsDigitOf before byte n
digit_of before byte n rest small fits e =
    let digit = digits_within (digits_so_far before) byte rest (ap all_ascii_digits (sym e) ∙ digits_decimal own n fits) in
    let byte_is : byte ≡ 48 + (byte - 48) = omega arith in
    record {
      digit = digit;
      value = value_le before (byte - 48) n rest small (omega arith) fits (e ∙ ap (λ (b : ℕ). digits_so_far before ++ b ∷ rest) byte_is);
      first = λ none. none_before before byte n rest fits (omega arith) (omega arith) e;
    }

dead_by : (text : List ℕ) → ((more : List ℕ) (r : Reduction) → text ++ more ≡ decimal r.at ++ 32 ∷ decimal r.width → r.at < 2 ^ 50 → 1 ≤ r.width → r.width ≤ 2000000 → ⊥) → IsDead text
dead_by text never = λ more. none_of (text ++ more) (λ r e. let line = spells (text ++ more) r e in never more r line.text line.at line.least line.most)

-- a text that no valid line begins with, and one byte more
pub dead_push : (text : List ℕ) (byte : ℕ) → IsDead text → IsDead (text ++ byte ∷ [])
dead_push text byte dead = λ more. let regroup : (text ++ byte ∷ []) ++ more ≡ text ++ byte ∷ more = append_assoc text (byte ∷ []) more in ap reduction_of regroup ∙ dead (byte ∷ more)

so_far_length : (n : ℕ) → 0 < length (digits_so_far n) → 0 < n
so_far_length zero some = absurd (omega arith)
so_far_length (suc m) some = omega arith

-- after digits of the start only a digit may come that keeps it in range, or a space after at least one
pub start_dead : (start byte : ℕ) → start < 2 ^ 50 → (byte ≡ 32 → 0 < start → ⊥) → (IsInRange 48 57 byte → start * 10 + (byte - 48) < 2 ^ 50 → ⊥) → IsDead (digits_so_far start ++ byte ∷ [])
start_dead start byte small no_space no_digit = dead_by (digits_so_far start ++ byte ∷ []) (λ more r e below least most.
    let regroup : (digits_so_far start ++ byte ∷ []) ++ more ≡ digits_so_far start ++ byte ∷ more = append_assoc (digits_so_far start) (byte ∷ []) more in
    let nonempty = decimal_nonempty r.at (omega arith) in
    elim (split (digits_so_far start) (decimal r.at) byte more (decimal r.width) (so_far_digits start small) (sym regroup ∙ e)) [
      | inl h ↦ (let same = ap length h.1 in no_space h.0 (so_far_length start (omega arith)))
      | inr h ↦ (let digit = digit_of start byte r.at h.0 small (omega arith) h.1 in let value = digit.value in no_digit digit.digit (omega arith))
    ])

after_zero : (n byte : ℕ) (rest : List ℕ) → n < 2 ^ 64 → decimal n ≡ decimal 0 ++ byte ∷ rest → ⊥
after_zero n byte rest fits e =
    let nought : decimal 0 ≡ 48 ∷ [] = decimal_digit 0 (omega arith) in
    let e' : decimal n ≡ 48 ∷ byte ∷ rest = e ∙ ap (λ (text : List ℕ). text ++ byte ∷ rest) nought in
    let none : n ≡ 0 = leading n (byte ∷ rest) fits e' in
    let same : decimal n ≡ decimal 0 = ap decimal none in
    cc

-- after a start of 0 only a space may come
pub zero_dead : (byte : ℕ) → (byte ≡ 32 → ⊥) → IsDead (decimal 0 ++ byte ∷ [])
zero_dead byte no_space = dead_by (decimal 0 ++ byte ∷ []) (λ more r e below least most.
    let regroup : (decimal 0 ++ byte ∷ []) ++ more ≡ decimal 0 ++ byte ∷ more = append_assoc (decimal 0) (byte ∷ []) more in
    elim (split (decimal 0) (decimal r.at) byte more (decimal r.width) (digits_decimal own 0 (omega arith)) (sym regroup ∙ e)) [
      | inl h ↦ no_space h.0
      | inr h ↦ after_zero r.at byte h.0 (omega arith) h.1
    ])

space_within : (n start : ℕ) (rest : List ℕ) → n < 2 ^ 64 → decimal n ≡ decimal start ++ 32 ∷ rest → ⊥
space_within n start rest fits e =
    let digit = digits_within (decimal start) 32 rest (ap all_ascii_digits (sym e) ∙ digits_decimal own n fits) in
    absurd (omega arith)

-- after the space only a digit may come that keeps the width in range
pub width_dead : (start width byte : ℕ) → start < 2 ^ 50 → width ≤ 2000000 → (IsInRange 48 57 byte → 0 < width * 10 + (byte - 48) → width * 10 + (byte - 48) ≤ 2000000 → ⊥) → IsDead ((decimal start ++ 32 ∷ digits_so_far width) ++ byte ∷ [])
width_dead start width byte small narrow no_digit = dead_by ((decimal start ++ 32 ∷ digits_so_far width) ++ byte ∷ []) (λ more r e below least most.
    let inner : ((decimal start ++ 32 ∷ digits_so_far width) ++ byte ∷ []) ++ more ≡ (decimal start ++ 32 ∷ digits_so_far width) ++ byte ∷ more = append_assoc (decimal start ++ 32 ∷ digits_so_far width) (byte ∷ []) more in
    let outer : (decimal start ++ 32 ∷ digits_so_far width) ++ byte ∷ more ≡ decimal start ++ 32 ∷ (digits_so_far width ++ byte ∷ more) = append_assoc (decimal start) (32 ∷ digits_so_far width) (byte ∷ more) in
    elim (split (decimal start) (decimal r.at) 32 (digits_so_far width ++ byte ∷ more) (decimal r.width) (digits_decimal own start (omega arith)) (sym outer ∙ sym inner ∙ e)) [
      | inl h ↦ (let digit = digit_of width byte r.width more (omega arith) (omega arith) (sym h.2) in
          let value = digit.value in
          elim (cases_lt 0 (width * 10 + (byte - 48))) [
            | inl some ↦ no_digit digit.digit some (omega arith)
            | inr none ↦ (let nought = digit.first (omega arith) in absurd (omega arith))
          ])
      | inr h ↦ space_within r.at start h.0 (omega arith) h.1
    ])

-- a line with no width, and one with no space
pub no_width : (start : ℕ) → start < 2 ^ 50 → reduction_of (decimal start ++ 32 ∷ []) ≡ None
no_width start small = none_of (decimal start ++ 32 ∷ []) (λ r e.
    let line = spells (decimal start ++ 32 ∷ []) r e in
    let below = line.at in
    let most = line.most in
    let nonempty = decimal_nonempty r.width (omega arith) in
    elim (split (decimal start) (decimal r.at) 32 [] (decimal r.width) (digits_decimal own start (omega arith)) line.text) [
      | inl h ↦ (let same = ap length h.2 in absurd (omega arith))
      | inr h ↦ space_within r.at start h.0 (omega arith) h.1
    ])

no_space : (text : List ℕ) → AreDigits text → reduction_of text ≡ None
no_space text are = none_of text (λ r e.
    let line = spells text r e in
    let digit = digits_within (decimal r.at) 32 (decimal r.width) (ap all_ascii_digits (sym line.text) ∙ are) in
    absurd (omega arith))

pub only_start : (start : ℕ) → start < 2 ^ 50 → reduction_of (digits_so_far start) ≡ None
only_start start small = no_space (digits_so_far start) (so_far_digits start small)

pub only_zero : reduction_of (decimal 0) ≡ None
only_zero = no_space (decimal 0) (digits_decimal own 0 (omega arith))

-- what a line says by the part that it ends in
pub says_nothing : (part : Part) (start width : ℕ) (text : List ℕ) → start < 2 ^ 50 → EndsIn part start width text → (part ≡ Width → width ≡ 0) → reduction_of text ≡ None
says_nothing Start start width text small ends none = ap reduction_of ends.1 ∙ only_start start small
says_nothing Zero start width text small ends none = ap reduction_of ends.2 ∙ only_zero
says_nothing Width start width text small ends none = ap reduction_of ends ∙ ap (λ (n : ℕ). reduction_of (decimal start ++ 32 ∷ digits_so_far n)) (none refl) ∙ no_width start small
says_nothing Invalid start width text small ends none = ap reduction_of (sym (append-nil text)) ∙ ends []

pub says_it : (part : Part) (start width : ℕ) (text : List ℕ) → start < 2 ^ 50 → width ≤ 2000000 → EndsIn part start width text → part ≡ Width → 0 < width → reduction_of text ≡ Some (record { at = start; width = width })
says_it Width start width text small narrow ends is some =
    ap reduction_of (ends ∙ ap (λ (t : List ℕ). decimal start ++ 32 ∷ t) (so_far_some width some)) ∙ says start width small (omega arith) narrow
says_it Start start width text small narrow ends is some = cc
says_it Zero start width text small narrow ends is some = cc
says_it Invalid start width text small narrow ends is some = cc

-- a byte of each kind, after a text that ends in each part
pub start_push : (start digit n : ℕ) (text : List ℕ) → start < 2 ^ 50 → digit < 10 → n ≡ start * 10 + digit → 0 < n → text ≡ digits_so_far start → text ++ (48 + digit) ∷ [] ≡ digits_so_far n
start_push start digit n text small low n_is some e =
    ap (λ (t : List ℕ). t ++ (48 + digit) ∷ []) e ∙ so_far_push start digit small low (omega arith) ∙ ap decimal (sym n_is) ∙ sym (so_far_some n some)

pub zero_push : (start digit : ℕ) (text : List ℕ) → start * 10 + digit ≡ 0 → text ≡ digits_so_far start → (start ≡ 0) × (text ++ (48 + digit) ∷ [] ≡ decimal 0)
zero_push start digit text none e =
    let start_is : start ≡ 0 = omega arith in
    let digit_is : digit ≡ 0 = omega arith in
    (start_is, ap (λ (t : List ℕ). t ++ (48 + digit) ∷ []) e ∙ ap (λ (n : ℕ). digits_so_far n ++ (48 + digit) ∷ []) start_is ∙ ap (λ (n : ℕ). (48 + n) ∷ []) digit_is ∙ sym (decimal_digit 0 (omega arith)))

pub width_push : (start width digit n : ℕ) (text : List ℕ) → width < 2 ^ 50 → digit < 10 → n ≡ width * 10 + digit → 0 < n → text ≡ decimal start ++ 32 ∷ digits_so_far width → text ++ (48 + digit) ∷ [] ≡ decimal start ++ 32 ∷ digits_so_far n
width_push start width digit n text small low n_is some e =
    ap (λ (t : List ℕ). t ++ (48 + digit) ∷ []) e
    ∙ append_assoc (decimal start) (32 ∷ digits_so_far width) ((48 + digit) ∷ [])
    ∙ ap (λ (t : List ℕ). decimal start ++ 32 ∷ t) (start_push width digit n (digits_so_far width) small low n_is some refl)

pub space_push : (start width : ℕ) (text : List ℕ) → width ≡ 0 → text ≡ decimal start → text ++ 32 ∷ [] ≡ decimal start ++ 32 ∷ digits_so_far width
space_push start width text none e = ap (λ (t : List ℕ). t ++ 32 ∷ []) e ∙ ap (λ (n : ℕ). decimal start ++ 32 ∷ digits_so_far n) (sym none)

pub other_dead : (part : Part) (start width byte : ℕ) (text : List ℕ) → start < 2 ^ 50 → width ≤ 2000000 → EndsIn part start width text →
    (IsInRange 48 57 byte → ⊥) → (byte ≡ 32 → part ≡ Start → start ≡ 0) → (byte ≡ 32 → part ≡ Zero → ⊥) → IsDead (text ++ byte ∷ [])
other_dead Start start width byte text small narrow ends other at_start at_zero =
    subst IsDead (ap (λ (t : List ℕ). t ++ byte ∷ []) (sym ends.1)) (start_dead start byte small (λ space some. let none = at_start space refl in absurd (omega arith)) (λ digit _. other digit))
other_dead Zero start width byte text small narrow ends other at_start at_zero =
    subst IsDead (ap (λ (t : List ℕ). t ++ byte ∷ []) (sym ends.2)) (zero_dead byte (λ space. at_zero space refl))
other_dead Width start width byte text small narrow ends other at_start at_zero =
    subst IsDead (ap (λ (t : List ℕ). t ++ byte ∷ []) (sym ends)) (width_dead start width byte small narrow (λ digit _ _. other digit))
other_dead Invalid start width byte text small narrow ends other at_start at_zero = dead_push text byte ends
