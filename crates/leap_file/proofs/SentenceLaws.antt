-- What a line says is the one sentence that holds of it.
use Rattle.std.proofs.Common.{◌≡◌, ℕ, ◌≤◌, ◌&&◌, Bool, true, false, nat_le, List, [], ◌∷◌, ◌++◌, length, ◌⊎◌, if◌then◌else◌, refl, sym, ap, subst, ◌∙◌, inl, inr, arith}
use Rattle.std.specs.Char.{is_ascii_digit}
use Rattle.std.specs.List.{list_all}
use Rattle.std.specs.Str.Parse.{digits_value}
use Rattle.std.proofs.lemmas.Bool.{cases_Bool, leb-true, le-leb, eqb-true, and_parts}
use Rattle.std.proofs.lemmas.Bool.Decides.{nat_tests}
use Rattle.std.proofs.lemmas.List.{append-nil}
use Rattle.leap_file.specs.declared.part.LeapLine.{LeapLine}
use Rattle.leap_file.specs.declared.part.LeapLine.TheVariants.{Nothing, Numbers, Bad}
use Rattle.leap_file.specs.declared.row.Row.{Row}
use Rattle.leap_file.specs.Lines.{is_blank, is_hash, begins, says_nothing, IsNumber, IsEnd, IsRow, IsSaid, leading, past, is_empty, is_short, is_end, row_from, row_of, said}

-- a beginning that passes, and what does not begin so
pub leading_is : (test : ℕ → Bool) (xs rest : List ℕ) → list_all test xs ≡ true → begins test rest ≡ false → leading test (xs ++ rest) ≡ xs
leading_is test [] [] all none = refl
leading_is test [] (b ∷ rest) all none = rw none refl
leading_is test (x ∷ xs) rest all none =
    let parts = and_parts (test x) (list_all test xs) all in
    rw parts.0 (ap (λ (l : List ℕ). x ∷ l) (leading_is test xs rest parts.1 none))

pub past_is : (test : ℕ → Bool) (xs rest : List ℕ) → list_all test xs ≡ true → begins test rest ≡ false → past test (xs ++ rest) ≡ rest
past_is test [] [] all none = refl
past_is test [] (b ∷ rest) all none = rw none refl
past_is test (x ∷ xs) rest all none =
    let parts = and_parts (test x) (list_all test xs) all in
    rw parts.0 (past_is test xs rest parts.1 none)

-- the two make the text
split : (test : ℕ → Bool) (text : List ℕ) → leading test text ++ past test text ≡ text
split test [] = refl
split test (b ∷ text) = elim (cases_Bool (test b)) [
  | inl passes ↦ rw passes (ap (λ (l : List ℕ). b ∷ l) (split test text))
  | inr fails ↦ rw fails refl
]

all_leading : (test : ℕ → Bool) (text : List ℕ) → list_all test (leading test text) ≡ true
all_leading test [] = refl
all_leading test (b ∷ text) = elim (cases_Bool (test b)) [
  | inl passes ↦ rw (passes, passes) (all_leading test text)
  | inr fails ↦ rw fails refl
]

some_leading : (test : ℕ → Bool) (text : List ℕ) → begins test text ≡ true → 1 ≤ length (leading test text)
some_leading test [] begins_so = cc
some_leading test (b ∷ text) begins_so = rw begins_so (omega arith)

-- bytes of one kind are of no other
blank_no_digit : (b : ℕ) → is_blank b ≡ true → is_ascii_digit b ≡ false
blank_no_digit b is = grind (arith, nat_tests)

digit_no_blank : (b : ℕ) → is_ascii_digit b ≡ true → is_blank b ≡ false
digit_no_blank b is = grind (arith, nat_tests)

digit_no_hash : (b : ℕ) → is_ascii_digit b ≡ true → is_hash b ≡ false
digit_no_hash b is = grind (arith, nat_tests)

-- what begins with bytes of one kind doesn't begin with the other
begins_first : (test other : ℕ → Bool) (xs rest : List ℕ) → ((b : ℕ) → test b ≡ true → other b ≡ false) → list_all test xs ≡ true → 1 ≤ length xs → begins other (xs ++ rest) ≡ false
begins_first test other [] rest apart all some = absurd (omega arith)
begins_first test other (x ∷ xs) rest apart all some = apart x (and_parts (test x) (list_all test xs) all).0

begins_so : (test : ℕ → Bool) (xs rest : List ℕ) → list_all test xs ≡ true → 1 ≤ length xs → begins test (xs ++ rest) ≡ true
begins_so test [] rest all some = absurd (omega arith)
begins_so test (x ∷ xs) rest all some = (and_parts (test x) (list_all test xs) all).0

both_true : (a b : Bool) → a ≡ true → b ≡ true → (a && b) ≡ true
both_true a b h k = rw (h, k) refl

then_is : (test : Bool) (a b : LeapLine) → test ≡ true → (if test then a else b) ≡ a
then_is test a b h = rw h refl

short_is : (most : ℕ) (text : List ℕ) → 1 ≤ length text → length text ≤ most → is_short most text ≡ true
short_is most text some few = both_true (nat_le 1 (length text)) (nat_le (length text) most) (le-leb 1 (length text) some) (le-leb (length text) most few)

-- an end is read as one
end_is : (text : List ℕ) → IsEnd text → is_end text ≡ true
end_is text (inl blank) =
    let none : past is_blank text ≡ [] = subst (λ t. past is_blank t ≡ []) (append-nil text) (past_is is_blank text [] blank refl) in
    rw none refl
end_is text (inr r) =
    let on = past_is is_blank r.blanks (35 ∷ r.remark) r.are_blanks.blank refl in
    let starts = begins_so is_blank r.blanks (35 ∷ r.remark) r.are_blanks.blank r.are_blanks.least in
    subst (λ t. is_end t ≡ true) (sym r.parts) (rw (on, starts) refl)

end_no_digit : (text : List ℕ) → IsEnd text → begins is_ascii_digit text ≡ false
end_no_digit [] (inl blank) = refl
end_no_digit (b ∷ text) (inl blank) = blank_no_digit b (and_parts (is_blank b) (list_all is_blank text) blank).0
end_no_digit text (inr r) = subst (λ t. begins is_ascii_digit t ≡ false) (sym r.parts) (begins_first is_blank is_ascii_digit r.blanks (35 ∷ r.remark) blank_no_digit r.are_blanks.blank r.are_blanks.least)

-- a row is read from its difference on
from_is : (second : ℕ) (dtai end : List ℕ) (number : ℕ) → IsNumber 3 dtai number → IsEnd end → row_from second (dtai ++ end) ≡ Numbers (record { second = second; dtai = number })
from_is second dtai end number n e =
    let stop = end_no_digit end e in
    let digits = leading_is is_ascii_digit dtai end n.digits stop in
    let after = past_is is_ascii_digit dtai end n.digits stop in
    let short : is_short 3 (leading is_ascii_digit (dtai ++ end)) ≡ true = subst (λ l. is_short 3 l ≡ true) (sym digits) (short_is 3 dtai n.least n.most) in
    let ends : is_end (past is_ascii_digit (dtai ++ end)) ≡ true = subst (λ l. is_end l ≡ true) (sym after) (end_is end e) in
    then_is _ _ _ (both_true _ _ short ends) ∙ ap (λ d. Numbers (record { second = second; dtai = d })) (ap (digits_value 10) digits ∙ sym n.value)

-- a row is read as that row
pub row_is : (line : List ℕ) (row : Row) → IsRow line row → row_of line ≡ Numbers row
row_is line row h =
    let after_gap = h.dtai ++ h.end in
    let stop = begins_first is_ascii_digit is_blank h.dtai h.end digit_no_blank h.is_dtai.digits h.is_dtai.least in
    let no_digit = begins_first is_blank is_ascii_digit h.gap after_gap blank_no_digit h.is_gap.blank h.is_gap.least in
    let digits = leading_is is_ascii_digit h.second (h.gap ++ after_gap) h.is_second.digits no_digit in
    let after = past_is is_ascii_digit h.second (h.gap ++ after_gap) h.is_second.digits no_digit in
    let text = h.second ++ (h.gap ++ after_gap) in
    let short : is_short 10 (leading is_ascii_digit text) ≡ true = subst (λ l. is_short 10 l ≡ true) (sym digits) (short_is 10 h.second h.is_second.least h.is_second.most) in
    let gap : begins is_blank (past is_ascii_digit text) ≡ true = subst (λ l. begins is_blank l ≡ true) (sym after) (begins_so is_blank h.gap after_gap h.is_gap.blank h.is_gap.least) in
    let rest : past is_blank (past is_ascii_digit text) ≡ after_gap = ap (past is_blank) after ∙ past_is is_blank h.gap after_gap h.is_gap.blank stop in
    let value : digits_value 10 (leading is_ascii_digit text) ≡ row.second = ap (digits_value 10) digits ∙ sym h.is_second.value in
    ap row_of h.parts ∙ then_is _ _ _ (both_true _ _ short gap) ∙ (λ i. row_from (value i) (rest i)) ∙ from_is row.second h.dtai h.end row.dtai h.is_dtai h.is_end

-- what is read as an end is one
hash_first : (text : List ℕ) → begins is_hash text ≡ true → (more : List ℕ) × (text ≡ 35 ∷ more)
hash_first [] h = cc
hash_first (b ∷ more) h = (more, ap (λ (n : ℕ). n ∷ more) (eqb-true b 35 h))

no_more : (text : List ℕ) → is_empty text ≡ true → text ≡ []
no_more [] h = refl
no_more (b ∷ text) h = cc

end_of : (text : List ℕ) → is_end text ≡ true → IsEnd text
end_of text h = elim (cases_Bool (is_empty (past is_blank text))) [
  | inl empty ↦
      let all = ap (λ l. leading is_blank text ++ l) (sym (no_more (past is_blank text) empty)) ∙ split is_blank text in
      inl (subst (λ t. list_all is_blank t ≡ true) (sym (append-nil (leading is_blank text)) ∙ all) (all_leading is_blank text))
  | inr some ↦
      let tests : (begins is_blank text && begins is_hash (past is_blank text)) ≡ true = rw some at h in
      let parts = and_parts (begins is_blank text) (begins is_hash (past is_blank text)) tests in
      let hash = hash_first (past is_blank text) parts.1 in
      inr (record {
        blanks = leading is_blank text;
        remark = hash.0;
        parts = sym (split is_blank text) ∙ ap (λ l. leading is_blank text ++ l) hash.1;
        are_blanks = record { blank = all_leading is_blank text; least = some_leading is_blank text parts.0 };
      })
]

number_of : (most : ℕ) (text : List ℕ) → is_short most (leading is_ascii_digit text) ≡ true → IsNumber most (leading is_ascii_digit text) (digits_value 10 (leading is_ascii_digit text))
number_of most text h =
    let parts = and_parts (nat_le 1 (length (leading is_ascii_digit text))) (nat_le (length (leading is_ascii_digit text)) most) h in
    record { digits = all_leading is_ascii_digit text; least = leb-true 1 _ parts.0; most = leb-true _ most parts.1; value = refl }

-- what is read as a row is that row
abbrev row_in : Row → LeapLine → Row
row_in other Nothing = other
row_in other (Numbers row) = row
row_in other Bad = other

abbrev rest_of : List ℕ → List ℕ
rest_of line = past is_blank (past is_ascii_digit line)

abbrev read_row : List ℕ → Row
read_row line = record { second = digits_value 10 (leading is_ascii_digit line); dtai = digits_value 10 (leading is_ascii_digit (rest_of line)) }

-- the tests of a reading
record IsRead (line : List ℕ) : Type 0 where
  first : (is_short 10 (leading is_ascii_digit line) && begins is_blank (past is_ascii_digit line)) ≡ true
  last : (is_short 3 (leading is_ascii_digit (rest_of line)) && is_end (past is_ascii_digit (rest_of line))) ≡ true

read_is : (line : List ℕ) → IsRead line → IsRow line (read_row line)
read_is line h =
    let first = and_parts (is_short 10 (leading is_ascii_digit line)) (begins is_blank (past is_ascii_digit line)) h.first in
    let last = and_parts (is_short 3 (leading is_ascii_digit (rest_of line))) (is_end (past is_ascii_digit (rest_of line))) h.last in
    record {
      second = leading is_ascii_digit line;
      gap = leading is_blank (past is_ascii_digit line);
      dtai = leading is_ascii_digit (rest_of line);
      end = past is_ascii_digit (rest_of line);
      parts = sym (split is_ascii_digit line) ∙ ap (λ l. leading is_ascii_digit line ++ l)
          (sym (split is_blank (past is_ascii_digit line)) ∙ ap (λ l. leading is_blank (past is_ascii_digit line) ++ l) (sym (split is_ascii_digit (rest_of line))));
      is_second = number_of 10 line first.0;
      is_gap = record { blank = all_leading is_blank (past is_ascii_digit line); least = some_leading is_blank (past is_ascii_digit line) first.1 };
      is_dtai = number_of 3 (rest_of line) last.0;
      is_end = end_of (past is_ascii_digit (rest_of line)) last.1;
    }

-- a line is read as a row, or as a bad one
abbrev AreRead : List ℕ → LeapLine → Type 0
AreRead line x = (IsRead line × (x ≡ Numbers (read_row line))) ⊎ (x ≡ Bad)

readings : (line : List ℕ) → AreRead line (row_of line)
readings line = elim (cases_Bool (is_short 10 (leading is_ascii_digit line) && begins is_blank (past is_ascii_digit line))) [
  | inl first ↦ elim (cases_Bool (is_short 3 (leading is_ascii_digit (rest_of line)) && is_end (past is_ascii_digit (rest_of line)))) [
    | inl last ↦ inl (record { first = first; last = last }, then_is _ _ _ first ∙ then_is _ _ _ last)
    | inr no_last ↦ inr (then_is _ _ _ first ∙ else_is _ _ _ no_last)
  ]
  | inr no_first ↦ inr (else_is _ _ _ no_first)
]
  where
    else_is : (test : Bool) (a b : LeapLine) → test ≡ false → (if test then a else b) ≡ b
    else_is test a b h = rw h refl

row_sentence : (line : List ℕ) (x : LeapLine) → says_nothing line ≡ false → row_of line ≡ x → IsSaid line x
row_sentence line Nothing some is = elim (readings line) [
  | inl r ↦ absurd (let never : Numbers (read_row line) ≡ Nothing = sym r.1 ∙ is in cc)
  | inr bad ↦ absurd (let never : Bad ≡ Nothing = sym bad ∙ is in cc)
]
row_sentence line (Numbers row) some is = elim (readings line) [
  | inl r ↦ subst (IsRow line) (ap (row_in row) (sym r.1 ∙ is)) (read_is line r.0)
  | inr bad ↦ absurd (let never : Bad ≡ Numbers row = sym bad ∙ is in cc)
]
row_sentence line Bad some is = (some, λ row h. (let never : Numbers row ≡ Bad = sym (row_is line row h) ∙ is in cc))

pub sentence : (line : List ℕ) → IsSaid line (said line)
sentence line = elim (cases_Bool (says_nothing line)) [
  | inl nothing ↦ subst (IsSaid line) (sym (then_is (says_nothing line) Nothing (row_of line) nothing)) nothing
  | inr some ↦ subst (IsSaid line) (sym (other_is some)) (row_sentence line (row_of line) some refl)
]
  where
    other_is : says_nothing line ≡ false → said line ≡ row_of line
    other_is h = rw h refl
