-- Numbers as the frames of MSF and WWVB spell them, the highest bit first (NPL on MSF, NIST SP 432 on WWVB).
use Rattle.std.specs.Prelude.{ℕ, zero, suc, ◌/◌, ◌%◌, ◌^◌, Bool, false, true, ◌==◌, List, [], ◌∷◌, ◌++◌}
use Rattle.tick_units.specs.declared.marks.Symbol.{Symbol}
use Rattle.tick_units.specs.declared.marks.Symbol.TheVariants.{Zero, One}

abbrev pub bit_symbol : Bool → Symbol
bit_symbol false = Zero
bit_symbol true = One

-- this many low bits of a number
abbrev pub high_bits_of : ℕ → ℕ → List Symbol
high_bits_of zero number = []
high_bits_of (suc count) number = bit_symbol (number / 2 ^ count % 2 == 1) ∷ high_bits_of count number

-- a number of two digits: this many bits of its tens, and four of its ones
abbrev pub high_digits_of : ℕ → ℕ → List Symbol
high_digits_of tens number = high_bits_of tens (number / 10) ++ high_bits_of 4 (number % 10)
