-- The digits of a page's numbers.
use Rattle.std.proofs.Common.{◌^◌, ◌<◌, ◌≤◌, Bool, true, false, length, decimal, ℤ, pos, negsuc, ◌≤ℤ◌, unsigned_abs, arith}
use Rattle.std.specs.Fmt.{signed_decimal}
use Rattle.std.specs.Int.{from_bool}
use Rattle.std.proofs.lemmas.Fmt.{length-decimal-le, length-decimal-le_wide}
use Rattle.std.proofs.lemmas.Int.{ints}

pub bit_length : (b : Bool) → length (decimal (from_bool b)) ≤ 1
bit_length true = length-decimal-le 1 1 (omega arith) (omega arith) (omega arith)
bit_length false = length-decimal-le 1 0 (omega arith) (omega arith) (omega arith)

pub offset_length : (z : ℤ) → pos 0 ≤ℤ z → unsigned_abs z < 2 ^ 70 → length (signed_decimal z) ≤ 22
offset_length (pos n) least small = length-decimal-le_wide 22 n (omega arith) (omega arith) (omega arith)
offset_length (negsuc n) least small = absurd (omega (arith, ints))
