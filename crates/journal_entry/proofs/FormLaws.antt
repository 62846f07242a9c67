-- The two forms of a line are distinguished by their first byte.
use Rattle.std.proofs.Common.{◌≡◌, ℕ, ◌<◌, true, eqb, List, [], ◌∷◌, ◌++◌, length, get_or, decimal, refl, ap, subst, sym, ◌∙◌, arith}
use Rattle.std.specs.Char.{digit_value}
use Rattle.std.specs.List.{starts_with}
use Rattle.std.proofs.lemmas.Bool.{and_parts, eqb-true, true≢false}
use Rattle.std.proofs.lemmas.Fmt.{decimal_is_IsNumeral_wide}
use Rattle.journal_entry.specs.Lines.{IsLineText}
use Rattle.journal_entry.specs.Numbers.{IsNumberedTextOf}
use Rattle.journal_entry.specs.Texts.{IsTextOf, spaced, what_fields}
use Rattle.journal_entry.specs.declared.entry.Entry.{Entry}
use Rattle.journal_entry.specs.declared.line.JournalLine.{JournalLine}
use Rattle.journal_entry.specs.declared.line.JournalLine.TheVariants.{Bare, Numbered}
use Rattle.journal_entry.specs.declared.numbered.Numbered.{Numbered as NumberedEntry}
use Rattle.journal_entry.proofs.DigitLaws.{digit_of}

first_of : (prefix back : List ℕ) → 0 < length prefix → get_or (prefix ++ back) 0 0 ≡ get_or prefix 0 0
first_of [] back some = absurd (omega arith)
first_of (byte ∷ prefix) back some = refl

j_is_none : (byte : ℕ) → byte ≡ 106 → digit_value byte < 10 → ⊥
j_is_none byte e digit = let h : digit_value 106 < 10 = subst (λ b. digit_value b < 10) e digit in omega arith

begins : (text : List ℕ) → starts_with eqb text (106 ∷ 50 ∷ []) ≡ true → get_or text 0 0 ≡ 106
begins [] h = absurd (true≢false (sym h))
begins (byte ∷ text) h = sym (eqb-true 106 byte (and_parts (eqb 106 byte) (starts_with eqb text (50 ∷ [])) h).0)

-- an entry's own text doesn't begin as that of a numbered one does
pub no_number : (text : List ℕ) (e : Entry) → IsTextOf text e → starts_with eqb text (106 ∷ 50 ∷ []) ≡ true → ⊥
no_number text e h j =
    let feed = h.entry.feed in
    let some = (decimal_is_IsNumeral_wide e.feed (omega arith)).0.0 in
    let digit = digit_of (decimal e.feed) 0 e.feed (get_or (decimal e.feed) 0 0) (omega arith) refl some refl in
    let first = ap (λ (t : List ℕ). get_or t 0 0) h.is ∙ first_of (decimal e.feed) (spaced (decimal e.at ∷ what_fields e.what)) some in
    j_is_none (get_or (decimal e.feed) 0 0) (sym first ∙ begins text j) digit

-- what holds of each numbered entry of a text that begins so holds of each line of it
pub numbered_alone : (P : JournalLine → Type 0) (text : List ℕ) → starts_with eqb text (106 ∷ 50 ∷ []) ≡ true → ((n : NumberedEntry) → IsNumberedTextOf text n → P (Numbered n)) → (l : JournalLine) → IsLineText text l → P l
numbered_alone P text j each (Bare e) h = absurd (no_number text e h j)
numbered_alone P text j each (Numbered n) h = each n h
