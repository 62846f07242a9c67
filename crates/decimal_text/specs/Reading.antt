-- Scaffolding: the digits of a number that were read so far.
use Rattle.std.specs.Prelude.{◌≡◌, ℕ, List, take}
use Rattle.std.specs.Str.Parse.{AllDigits, digits_value}

-- the first `count` bytes of a text are digits, and write this value
pub record SaysSoFar (text : List ℕ) (count value : ℕ) : Type 0 where
  pub digits : AllDigits 10 (take count text)
  pub says : value ≡ digits_value 10 (take count text)
