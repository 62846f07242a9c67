-- Eight bytes as one word, the first of them the lowest, and the digits at their beginning.
use Rattle.std.specs.Prelude.{◌≡◌, ℕ, ◌/◌, ◌<◌, ◌≤◌, List, length, take}
use Rattle.std.specs.Str.Parse.{digits_value, AllDigits}
use Rattle.core.specs.Dec2flt.Digits.{IsEightBytes, IsEightDigits}
use Rattle.core.specs.Int.Digits.{number_from_digits}
use Rattle.core.specs.Int.{w64, trailing_zeros}
use Rattle.core.specs.Slice.Scan.{digits_from}
use lib.Lanes.{number_l}

-- the word of these eight bytes
abbrev pub IsWordOf : List ℕ → ℕ → Type 0
IsWordOf bytes word = IsEightBytes bytes × (word ≡ number_l 256 bytes)

-- no byte is ten or more before that of the lowest flag, and none at all where there is no flag
pub record AreBelowTen (byte : ℕ → ℕ) (flags : ℕ) : Type 0 where
  pub none : flags ≡ 0 → (k : ℕ) → k < 8 → byte k < 10
  pub before : 0 < flags → (trailing_zeros w64 flags / 8 < 8) × ((k : ℕ) → k < trailing_zeros w64 flags / 8 → byte k < 10)

-- flags are of the bytes of a word that are ten or more, as far as the lowest of them
abbrev pub FlagsFromTen : ℕ → ℕ → Type 0
FlagsFromTen word flags = (byte : ℕ → ℕ) → ((k : ℕ) → byte k < 256) → word ≡ digits_from byte 0 8 → AreBelowTen byte flags

-- where the bytes of a word are the values of digits, this is the number that they write
abbrev pub WritesNumber : ℕ → ℕ → Type 0
WritesNumber word number = (digits : List ℕ) → IsEightDigits digits → word ≡ number_l 256 digits → number ≡ number_from_digits 10 digits

-- the first `count` bytes are digits, and this is the number that they write
pub record SpellsPrefix (bytes : List ℕ) (count number : ℕ) : Type 0 where
  pub within : count ≤ length bytes
  pub digits : AllDigits 10 (take count bytes)
  pub value : number ≡ digits_value 10 (take count bytes)
