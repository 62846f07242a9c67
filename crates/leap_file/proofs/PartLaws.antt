-- How far a line has come determines what it says.
use Rattle.std.proofs.Common.{◌≡◌, ℕ, suc, ◌+◌, ◌*◌, ◌≤◌, ◌&&◌, ◌||◌, Bool, true, false, nat_le, nat_lt, List, [], ◌∷◌, length, if◌then◌else◌, refl, sym, subst, ◌∙◌, inl, inr, arith}
use Rattle.std.specs.Char.{is_ascii_digit, digit_value}
use Rattle.std.specs.List.{list_all, fold}
use Rattle.std.specs.Str.Parse.{digits_value_after}
use Rattle.std.proofs.Math.Bool.{or-false}
use Rattle.std.proofs.lemmas.Bool.{cases_Bool, ltb-true, ltb-false, le-leb, lt-leb}
use Rattle.std.proofs.lemmas.Bool.Decides.{nat_tests}
use Rattle.leap_file.specs.declared.part.LeapLine.{LeapLine}
use Rattle.leap_file.specs.declared.part.LeapLine.TheVariants.{Nothing, Numbers, Bad}
use Rattle.leap_file.specs.declared.part.Part.TheVariants.{Blank, Remark, Second, Gap, Dtai, After, Noted, Lost}
use Rattle.leap_file.specs.declared.row.Row.{Row}
use Rattle.leap_file.specs.Lines.{is_blank, is_hash, leading, past, begins, is_empty, is_end, row_from, said}
use Rattle.leap_file.specs.Parts.{next, ends, part_of}

lost : (text : List ℕ) → ends (fold next Lost text) ≡ Bad
lost [] = refl
lost (b ∷ text) = lost text

remark : (text : List ℕ) → ends (fold next Remark text) ≡ Nothing
remark [] = refl
remark (b ∷ text) = remark text

noted : (row : Row) (text : List ℕ) → ends (fold next (Noted row) text) ≡ Numbers row
noted row [] = refl
noted row (b ∷ text) = noted row text

blank : (text : List ℕ) → ends (fold next Blank text) ≡ (if list_all is_blank text then Nothing else Bad)
blank [] = refl
blank (b ∷ text) = elim (cases_Bool (is_blank b)) [
  | inl is ↦ rw is (blank text)
  | inr other ↦ rw other (lost text)
]

ended : (row : Row) (text : List ℕ) → ends (fold next (After row) text) ≡ (if is_empty (past is_blank text) || begins is_hash (past is_blank text) then Numbers row else Bad)
ended row [] = refl
ended row (b ∷ text) = elim (cases_Bool (is_blank b)) [
  | inl is ↦ rw is (ended row text)
  | inr other ↦ elim (cases_Bool (is_hash b)) [
    | inl hash ↦ rw (other, hash) (noted row text)
    | inr none ↦ rw (other, none) (lost text)
  ]
]

dtai_on : (second digits dtai : ℕ) (text : List ℕ) → digits ≤ 3 → ends (fold next (Dtai second digits dtai) text) ≡ (if nat_le (digits + length (leading is_ascii_digit text)) 3 && is_end (past is_ascii_digit text) then Numbers (record { second = second; dtai = digits_value_after 10 dtai (leading is_ascii_digit text) }) else Bad)
dtai_on second digits dtai [] few = let within : nat_le (digits + 0) 3 ≡ true = le-leb (digits + 0) 3 (omega arith) in rw within refl
dtai_on second digits dtai (b ∷ text) few = elim (cases_Bool (is_ascii_digit b)) [
  | inl digit ↦ elim (cases_Bool (nat_lt digits 3)) [
    | inl more ↦
        let on = dtai_on second (digits + 1) (dtai * 10 + digit_value b) text (omega (arith, ltb-true digits 3 more)) in
        let sum : digits + 1 + length (leading is_ascii_digit text) ≡ digits + suc (length (leading is_ascii_digit text)) = omega arith in
        rw (digit, more, ← sum) on
    | inr full ↦
        let beyond : nat_le (digits + suc (length (leading is_ascii_digit text))) 3 ≡ false = lt-leb (digits + suc (length (leading is_ascii_digit text))) 3 (omega (arith, ltb-false digits 3 full)) in
        rw (digit, full, beyond) (lost text)
  ]
  | inr none ↦
      let within : nat_le (digits + 0) 3 ≡ true = le-leb (digits + 0) 3 (omega arith) in
      elim (cases_Bool (is_blank b)) [
        | inl is ↦ rw (none, is, within) (ended (record { second = second; dtai = dtai }) text)
        | inr other ↦ rw (none, other, within) (lost text)
      ]
]

-- the value of a first digit
first_digit : (b : ℕ) → 0 * 10 + digit_value b ≡ digit_value b
first_digit b = none_before (digit_value b)
  where
    none_before : (n : ℕ) → 0 * 10 + n ≡ n
    none_before n = omega arith

gap_on : (second : ℕ) (text : List ℕ) → ends (fold next (Gap second) text) ≡ row_from second (past is_blank text)
gap_on second [] = refl
gap_on second (b ∷ text) = elim (cases_Bool (is_blank b)) [
  | inl is ↦ rw is (gap_on second text)
  | inr other ↦ elim (cases_Bool (is_ascii_digit b)) [
    | inl digit ↦
        let some : nat_le 1 (suc (length (leading is_ascii_digit text))) ≡ true = le-leb 1 (suc (length (leading is_ascii_digit text))) (omega arith) in
        let one : 1 + length (leading is_ascii_digit text) ≡ suc (length (leading is_ascii_digit text)) = omega arith in
        let on = rw one at (dtai_on second 1 (digit_value b) text (omega arith)) in
        rw (other, digit, some) (subst (λ v. ends (fold next (Dtai second 1 (digit_value b)) text) ≡ (if nat_le (suc (length (leading is_ascii_digit text))) 3 && is_end (past is_ascii_digit text) then Numbers (record { second = second; dtai = digits_value_after 10 v (leading is_ascii_digit text) }) else Bad)) (sym (first_digit b)) on)
    | inr none ↦ rw (other, none) (lost text)
  ]
]

-- from the blanks after the second on
abbrev gap_from : ℕ → List ℕ → LeapLine
gap_from second text = if begins is_blank text then row_from second (past is_blank text) else Bad

second_on : (digits second : ℕ) (text : List ℕ) → digits ≤ 10 → ends (fold next (Second digits second) text) ≡ (if nat_le (digits + length (leading is_ascii_digit text)) 10 then gap_from (digits_value_after 10 second (leading is_ascii_digit text)) (past is_ascii_digit text) else Bad)
second_on digits second [] few = let within : nat_le (digits + 0) 10 ≡ true = le-leb (digits + 0) 10 (omega arith) in rw within refl
second_on digits second (b ∷ text) few = elim (cases_Bool (is_ascii_digit b)) [
  | inl digit ↦ elim (cases_Bool (nat_lt digits 10)) [
    | inl more ↦
        let on = second_on (digits + 1) (second * 10 + digit_value b) text (omega (arith, ltb-true digits 10 more)) in
        let sum : digits + 1 + length (leading is_ascii_digit text) ≡ digits + suc (length (leading is_ascii_digit text)) = omega arith in
        rw (digit, more, ← sum) on
    | inr full ↦
        let beyond : nat_le (digits + suc (length (leading is_ascii_digit text))) 10 ≡ false = lt-leb (digits + suc (length (leading is_ascii_digit text))) 10 (omega (arith, ltb-false digits 10 full)) in
        rw (digit, full, beyond) (lost text)
  ]
  | inr none ↦
      let within : nat_le (digits + 0) 10 ≡ true = le-leb (digits + 0) 10 (omega arith) in
      elim (cases_Bool (is_blank b)) [
        | inl is ↦ rw (none, is, within) (gap_on second text)
        | inr other ↦ rw (none, other, within) (lost text)
      ]
]

-- two tests in one
both : (few gap : Bool) (row : LeapLine) → (if few && gap then row else Bad) ≡ (if few then (if gap then row else Bad) else Bad)
both true gap row = refl
both false gap row = refl

pub said-ends : (text : List ℕ) → said text ≡ ends (part_of text)
said-ends [] = refl
said-ends (b ∷ text) = elim (cases_Bool (is_ascii_digit b)) [
  | inl digit ↦
      let no_blank : is_blank b ≡ false = grind (arith, nat_tests) in
      let no_hash : is_hash b ≡ false = grind (arith, nat_tests) in
      let some : nat_le 1 (suc (length (leading is_ascii_digit text))) ≡ true = le-leb 1 (suc (length (leading is_ascii_digit text))) (omega arith) in
      let one : 1 + length (leading is_ascii_digit text) ≡ suc (length (leading is_ascii_digit text)) = omega arith in
      let on = rw one at (second_on 1 (digit_value b) text (omega arith)) in
      let same = both (nat_le (suc (length (leading is_ascii_digit text))) 10) (begins is_blank (past is_ascii_digit text)) in
      rw (digit, no_blank, no_hash, some) (same _ ∙ sym (subst (λ v. ends (fold next (Second 1 (digit_value b)) text) ≡ (if nat_le (suc (length (leading is_ascii_digit text))) 10 then gap_from (digits_value_after 10 v (leading is_ascii_digit text)) (past is_ascii_digit text) else Bad)) (sym (first_digit b)) on))
  | inr none ↦ elim (cases_Bool (is_blank b)) [
    | inl is ↦
        let no_hash : is_hash b ≡ false = grind (arith, nat_tests) in
        rw (none, is, no_hash, or-false (list_all is_blank text)) (sym (blank text))
    | inr other ↦ elim (cases_Bool (is_hash b)) [
      | inl hash ↦ rw (none, other, hash) (sym (remark text))
      | inr nor ↦ rw (none, other, nor) (sym (lost text))
    ]
  ]
]
