-- Numbers in decimal, as Rust's and C's decimal output writes them (`decimal`): what may follow one, and what a text says that
-- begins with one.
use Rattle.std.specs.Prelude.{◌≡◌, ℕ, ◌≤◌, ◌||◌, nat_le, nat_lt, Option, None, Some, List, [], ◌∷◌, length, take, drop, decimal, IsTrue, if◌then◌else◌}
use Rattle.decimal_text.specs.declared.number.Number.{Number}

-- after a number stands nothing, or a byte that is no digit
abbrev pub EndsNumber : List ℕ → Type 0
EndsNumber [] = Unit {0}
EndsNumber (byte ∷ more) = IsTrue (nat_lt byte 48 || nat_lt 57 byte)

-- a text begins with this number, which is at most `most`, and which ends there
pub record BeginsWith (text : List ℕ) (most : ℕ) (number : Number) : Type 0 where
  pub within : number.length ≤ length text
  pub is : take number.length text ≡ decimal number.value
  pub ends : EndsNumber (drop number.length text)
  pub small : number.value ≤ most

-- a number, where there is one and it is within the bound
abbrev pub at_most : ℕ → Option ℕ → Option ℕ
at_most most None = None
at_most most (Some n) = if nat_le n most then Some n else None
