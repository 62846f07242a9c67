-- How `--name` and `--name=value` are read, and what was read so.
use Rattle.std.proofs.Common.{◌≡◌, ◌∙◌, ℕ, zero, suc, ◌+◌, Bool, true, false, not, ◌==◌, [], ◌∷◌, ◌++◌, take, drop, Option, Some, None, refl, sym, ap, subst, inl, inr, bytes_eq, is_some, arith, if◌then◌else◌}
use Rattle.std.proofs.lemmas.Bool.{cases_Bool, or_parts, true≢false}
use Rattle.std.proofs.lemmas.Bool.Decides.{nat_tests}
use Rattle.std.proofs.lemmas.Option.{same_Some}
use Rattle.std.specs.List.{after_first, before_first, position_or_len}
use Rattle.clap.proofs.CutLemmas.{Lacks, after_first-at, before_first-Lacks, before_first-at, list_any-Lacks, list_any-at}
use Rattle.clap.specs.Lexer.{has_byte, long_of, long_of_rest, name_and_value}
use Rattle.command_words.specs.CommandLine.{Text, is_value}
use Rattle.command_words.proofs.Steps.{mark}

-- ---- a name that is not empty and has no `=` (61)

abbrev pub is_name : Text → Bool
is_name [] = false
is_name (byte ∷ more) = not (has_byte 61 (byte ∷ more))

lacks : (text : Text) → has_byte 61 text ≡ false → Lacks 61 text
lacks [] h i lt = absurd (omega arith)
lacks (byte ∷ more) h zero lt =
    let first = (or_parts (byte == 61) (has_byte 61 more) h).0 in
    λ e. let same : (byte == 61) ≡ true = ap (λ b. b == 61) e in absurd (true≢false (sym same ∙ first))
lacks (byte ∷ more) h (suc i) lt = lacks more (or_parts (byte == 61) (has_byte 61 more) h).1 i (omega arith)

dashed : Text → Text
dashed name = 45 ∷ 45 ∷ name

lacks_name : (name : Text) → is_name name ≡ true → Lacks 61 name
lacks_name [] h = absurd (true≢false (sym h))
lacks_name (byte ∷ more) h = lacks (byte ∷ more) (not_true (has_byte 61 (byte ∷ more)) h)
  where
    not_true : (b : Bool) → not b ≡ true → b ≡ false
    not_true true e = sym e
    not_true false e = refl

pub long_apart : (name : Text) → is_name name ≡ true → long_of (45 ∷ 45 ∷ name) ≡ Some (name, None)
long_apart [] h = absurd (true≢false (sym h))
long_apart (byte ∷ more) h =
    let free = lacks_name (byte ∷ more) h in
    let none : has_byte 61 (byte ∷ more) ≡ false = list_any-Lacks 61 (byte ∷ more) free in
    let first : before_first (λ x. x == 61) (byte ∷ more) ≡ byte ∷ more = before_first-Lacks 61 (byte ∷ more) free in
    ap (λ (p : Text × Option Text). Some p) (pair_is (byte ∷ more) (byte ∷ more) None first (rw none refl))
  where
    pair_is : (text name : Text) (v : Option Text) → before_first (λ x. x == 61) text ≡ name
        → (if has_byte 61 text then Some (after_first (λ x. x == 61) text) else None) ≡ v → name_and_value text ≡ (name, v)
    pair_is text name v one two = rw (one, two) refl

pub long_joined : (name value : Text) → is_name name ≡ true → long_of (45 ∷ 45 ∷ (name ++ 61 ∷ value)) ≡ Some (name, Some value)
long_joined [] value h = absurd (true≢false (sym h))
long_joined (byte ∷ more) value h =
    let free = lacks_name (byte ∷ more) h in
    let text : Text = (byte ∷ more) ++ 61 ∷ value in
    let some : has_byte 61 ((byte ∷ more) ++ 61 ∷ value) ≡ true = list_any-at 61 (byte ∷ more) value in
    let first : before_first (λ x. x == 61) ((byte ∷ more) ++ 61 ∷ value) ≡ byte ∷ more = before_first-at 61 (byte ∷ more) value free in
    let last : after_first (λ x. x == 61) ((byte ∷ more) ++ 61 ∷ value) ≡ value = after_first-at 61 (byte ∷ more) value free in
    ap (λ (p : Text × Option Text). Some p) (pair_is ((byte ∷ more) ++ 61 ∷ value) (byte ∷ more) value first some last)
  where
    pair_is : (text name v : Text) → before_first (λ x. x == 61) text ≡ name → has_byte 61 text ≡ true → after_first (λ x. x == 61) text ≡ v
        → name_and_value text ≡ (name, Some v)
    pair_is text name v one two three = rw (one, two, three) refl

pub apart_not_mark : (name : Text) → is_name name ≡ true → bytes_eq (45 ∷ 45 ∷ name) mark ≡ false
apart_not_mark [] h = absurd (true≢false (sym h))
apart_not_mark (byte ∷ more) h = refl

pub joined_not_mark : (name value : Text) → bytes_eq (45 ∷ 45 ∷ (name ++ 61 ∷ value)) mark ≡ false
joined_not_mark [] value = refl
joined_not_mark (byte ∷ more) value = refl

-- ---- a word that may be a value is no option

pub value_not_mark : (word : Text) → is_value word ≡ true → bytes_eq word mark ≡ false
value_not_mark [] v = refl
value_not_mark (byte ∷ more) v = elim (cases_Bool (byte == 45)) [
  | inl e ↦ (let bad : is_value (byte ∷ more) ≡ false = rw e refl in absurd (true≢false (sym v ∙ bad)))
  | inr e ↦ rw e refl
]

pub value_not_long : (word : Text) → is_value word ≡ true → long_of word ≡ None
value_not_long [] v = refl
value_not_long (byte ∷ more) v = elim (cases_Bool (byte == 45)) [
  | inl e ↦ (let bad : is_value (byte ∷ more) ≡ false = rw e refl in absurd (true≢false (sym v ∙ bad)))
  | inr e ↦ rw e refl
]

-- ---- the word that was read

same_byte : (a b : ℕ) → (a == b) ≡ true → a ≡ b
same_byte a b e = grind (arith, nat_tests)

prefix : (k x : ℕ) (xs : Text) → take (1 + k) (x ∷ xs) ≡ x ∷ take k xs
prefix k x xs = (let e : 1 + k ≡ suc k = omega arith in rw e refl)

operands : (k x : ℕ) (xs : Text) → drop (1 + k + 1) (x ∷ xs) ≡ drop (k + 1) xs
operands k x xs = (let e : 1 + k + 1 ≡ suc (k + 1) = omega arith in rw e refl)

abbrev cut : Text → Text
cut text = before_first (λ x. x == 61) text ++ 61 ∷ after_first (λ x. x == 61) text

cut_is : (text : Text) → has_byte 61 text ≡ true → cut text ≡ text
cut_is [] h = absurd (true≢false (sym h))
cut_is (x ∷ xs) h = elim (cases_Bool (x == 61)) [
  | inl e ↦ rw e (ap (λ b. b ∷ xs) (sym (same_byte x 61 e)))
  | inr e ↦
      let later : has_byte 61 xs ≡ true = rw e at h in
      let k : ℕ = position_or_len (λ b. b == 61) xs in
      rw (e, prefix k x xs, operands k x xs) (ap (λ t. x ∷ t) (cut_is xs later))
]

uncut_is : (text : Text) → has_byte 61 text ≡ false → before_first (λ x. x == 61) text ≡ text
uncut_is text h = before_first-Lacks 61 text (lacks text h)

-- the word of a name, and of a value where one is joined to it
abbrev pub word_for : Text → Option Text → Text
word_for name None = 45 ∷ 45 ∷ name
word_for name (Some value) = 45 ∷ 45 ∷ (name ++ 61 ∷ value)

rest_is : (text name : Text) (v : Option Text) → name_and_value text ≡ (name, v) → (45 ∷ 45 ∷ text) ≡ word_for name v
rest_is text name v e =
    subst (λ (p : Text × Option Text). (45 ∷ 45 ∷ text) ≡ word_for p.0 p.1) e
    (elim (cases_Bool (has_byte 61 text)) [
      | inl some ↦ rw some (ap (λ t. 45 ∷ 45 ∷ t) (sym (cut_is text some)))
      | inr none ↦ rw none (ap (λ t. 45 ∷ 45 ∷ t) (sym (uncut_is text none)))
    ])

after_dashes : (text name : Text) (v : Option Text) → long_of_rest text ≡ Some (name, v) → (45 ∷ 45 ∷ text) ≡ word_for name v
after_dashes [] name v e = absurd (true≢false (sym (ap is_some e)))
after_dashes (x ∷ xs) name v e = rest_is (x ∷ xs) name v (same_Some _ _ e)

pub word_is : (word name : Text) (v : Option Text) → long_of word ≡ Some (name, v) → word ≡ word_for name v
word_is [] name v e = absurd (true≢false (sym (ap is_some e)))
word_is (a ∷ []) name v e = elim (cases_Bool (a == 45)) [
  | inl so ↦ (let none : long_of (a ∷ []) ≡ None = rw so refl in absurd (true≢false (sym (sym (ap is_some none) ∙ ap is_some e))))
  | inr other ↦ (let none : long_of (a ∷ []) ≡ None = rw other refl in absurd (true≢false (sym (sym (ap is_some none) ∙ ap is_some e))))
]
word_is (a ∷ b ∷ text) name v e = elim (cases_Bool (a == 45)) [
  | inr other ↦ (let none : long_of (a ∷ b ∷ text) ≡ None = rw other refl in absurd (true≢false (sym (sym (ap is_some none) ∙ ap is_some e))))
  | inl so ↦ elim (cases_Bool (b == 45)) [
    | inr other ↦ (let none : long_of (a ∷ b ∷ text) ≡ None = rw (so, other) refl in absurd (true≢false (sym (sym (ap is_some none) ∙ ap is_some e))))
    | inl too ↦
        let rest : long_of (a ∷ b ∷ text) ≡ long_of_rest text = rw (so, too) refl in
        ap (λ x. x ∷ b ∷ text) (same_byte a 45 so) ∙ ap (λ x. 45 ∷ x ∷ text) (same_byte b 45 too) ∙ after_dashes text name v (sym rest ∙ e)
  ]
]
