-- Marks that have given symbols.
use Rattle.std.proofs.Common.{◌≡◌, ℕ, List, [], ◌∷◌, get_or, Bool, refl, ap}
use Rattle.std.specs.List.{list_any}
use Rattle.frame_rules.specs.Fields.{symbols_of, is_set}
use Rattle.frame_rules.specs.Rules.{is_odd, has_odd_symbol}
use Rattle.tick_units.specs.declared.marks.Mark.{Mark}
use Rattle.tick_units.specs.declared.marks.Symbol.{Symbol}
use Rattle.tick_units.specs.declared.marks.Symbol.TheVariants.{Zero}

abbrev pub template : List Symbol → List Mark
template [] = []
template (symbol ∷ symbols) = record { at = 0; symbol = symbol } ∷ template symbols

pub symbols_of-template : (symbols : List Symbol) → symbols_of (template symbols) ≡ symbols
symbols_of-template [] = refl
symbols_of-template (symbol ∷ symbols) = rw (symbols_of-template symbols) refl

pub is_set-template : (bit : Symbol → Bool) (symbols : List Symbol) (place : ℕ) → is_set bit (template symbols) place ≡ bit (get_or symbols place Zero)
is_set-template bit symbols place = ap (λ xs. bit (get_or xs place Zero)) (symbols_of-template symbols)

pub has_odd_symbol-symbols_of : (marks : List Mark) → has_odd_symbol marks ≡ list_any is_odd (symbols_of marks)
has_odd_symbol-symbols_of [] = refl
has_odd_symbol-symbols_of (mark ∷ marks) = rw (has_odd_symbol-symbols_of marks) refl
