-- The line of a reduction. The format is this project's own; the text of a number is that of Rust's decimal output.
use Rattle.std.specs.Prelude.{◌≡◌, ℕ, Some, List, ◌∷◌, ◌++◌, decimal}
use Rattle.tick_units.specs.Log.{Spells, reduction_of}
use Rattle.tick_units.specs.declared.marks.Reduction.{Reduction}

-- its start in decimal, a space, and its width in decimal
abbrev pub line_of : Reduction → List ℕ
line_of r = decimal r.at ++ 32 ∷ decimal r.width

-- a text says this reduction, and no other text does
pub record IsTheLine (line : List ℕ) (r : Reduction) : Type 0 where
  pub spells : Spells line r
  pub says : reduction_of line ≡ Some r
  pub only : (other : List ℕ) → reduction_of other ≡ Some r → other ≡ line
