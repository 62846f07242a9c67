-- Scaffolding, which contracts use: the parser's state within an unfinished line, and the text of that line. A line is its start in
-- decimal, one space and its width in decimal; the format is this project's own.
use Rattle.std.specs.Prelude.{◌≡◌, ℕ, ◌==◌, None, List, [], ◌∷◌, ◌++◌, length, decimal, if◌then◌else◌}
use Rattle.tick_units.specs.Log.{reduction_of}
use Rattle.pulse_log.specs.declared.line.Line.{Line}
use Rattle.pulse_log.specs.declared.line.Part.{Part}
use Rattle.pulse_log.specs.declared.line.Part.TheVariants.{Start, Zero, Width, Invalid}

-- no line that begins with this text is valid
abbrev pub IsDead : List ℕ → Type 0
IsDead text = (more : List ℕ) → reduction_of (text ++ more) ≡ None

-- the digits of a number that no 0 begins; 0 stands for no digit yet
abbrev pub digits_so_far : ℕ → List ℕ
digits_so_far n = if n == 0 then [] else decimal n

-- a text that ends in this part of a line, whose numbers so far are these
abbrev pub EndsIn : Part → ℕ → ℕ → List ℕ → Type 0
EndsIn Start start width text = (width ≡ 0) × (text ≡ digits_so_far start)
EndsIn Zero start width text = (width ≡ 0) × (start ≡ 0) × (text ≡ decimal 0)
EndsIn Width start width text = text ≡ decimal start ++ 32 ∷ digits_so_far width
EndsIn Invalid start width text = IsDead text

pub record IsLine (line : Line) (text : List ℕ) : Type 0 where
  pub part : EndsIn line.part line.start line.width text
  pub length : line.length ≡ length text
