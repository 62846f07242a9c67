-- Whether fields are left.
use Rattle.std.proofs.Common.{◌≡◌, ℕ, Bool, true, false, eqb, List, [], ◌∷◌, length, refl, ap, sym, ◌∙◌, arith}
use Rattle.std.proofs.lemmas.Bool.{both_ways, eqb-true, eq-eqb}
use Rattle.decimal_text.specs.Numbers.{EndsNumber}
use Rattle.journal_entry.specs.Texts.{spaced}
use Rattle.script_line.specs.Reading.{HasSpaced}

nothing : (rest : List ℕ) → length rest ≡ 0 → rest ≡ []
nothing [] e = refl
nothing (byte ∷ rest) e = absurd (omega arith)

pub no_fields : (rest : List ℕ) (empty : Bool) → empty ≡ eqb (length rest) 0 → empty ≡ true → HasSpaced rest []
no_fields rest empty is e = record { is = nothing rest (eqb-true (length rest) 0 (sym is ∙ e)) }

pub left_over : (rest : List ℕ) (empty : Bool) → empty ≡ eqb (length rest) 0 → empty ≡ false → HasSpaced rest [] → ⊥
left_over rest empty is e h = both_ways empty e (is ∙ eq-eqb (length rest) 0 (ap length h.is))

-- after a field stands a space, or nothing
pub spaced-ends : (fields : List (List ℕ)) → EndsNumber (spaced fields)
spaced-ends [] = tt
spaced-ends (field ∷ fields) = refl
