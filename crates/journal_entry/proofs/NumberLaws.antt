-- The text of a numbered entry as fields.
use Rattle.std.proofs.Common.{◌≡◌, ℕ, ◌<◌, ◌^◌, ℤ, unsigned_abs, true, List, [], ◌∷◌, ◌++◌, decimal, ap, ◌∙◌, arith}
use Rattle.std.specs.Fmt.{signed_decimal}
use Rattle.std.proofs.lemmas.Bool.{leb-true}
use Rattle.std.proofs.lemmas.List.{append-nil}
use Rattle.journal_entry.specs.Numbers.{IsNumberedTextOf, is_rate, numbered_text}
use Rattle.journal_entry.specs.Reading.{HasFields, entry_fields}
use Rattle.journal_entry.specs.Texts.{spaced, text_of}
use Rattle.journal_entry.specs.declared.entry.Entry.{Entry}
use Rattle.journal_entry.specs.declared.numbered.Numbered.{Numbered}

-- the fields of its entry stand one after the other
pub spaced_entry : (e : Entry) → spaced (text_of e ∷ []) ≡ spaced (entry_fields e)
spaced_entry e = ap (λ (t : List ℕ). 32 ∷ t) (append-nil (text_of e))

-- all fields of a numbered entry, after the word
abbrev pub number_fields : Numbered → List (List ℕ)
number_fields n = decimal n.length ∷ signed_decimal n.rate ∷ entry_fields n.entry

pub text_is : (n : Numbered) → numbered_text n ≡ 106 ∷ 50 ∷ spaced (number_fields n)
text_is n = ap (λ (t : List ℕ). 106 ∷ 50 ∷ 32 ∷ decimal n.length ++ (32 ∷ signed_decimal n.rate ++ t)) (spaced_entry n.entry)

-- the fields that are read
pub fields_of : (rest text : List ℕ) (n : Numbered) → rest ≡ text → IsNumberedTextOf text n → HasFields rest ((106 ∷ 50 ∷ []) ∷ number_fields n)
fields_of rest text n all h = record { joined = all ∙ h.is ∙ text_is n }

-- a page's rate has room in 32 bits
pub rate_fits : (z : ℤ) → is_rate z ≡ true → unsigned_abs z < 2 ^ 31
rate_fits z small = let most = leb-true (unsigned_abs z) 2147483 small in omega (arith, most)
