-- Units: microseconds of the host's counter, spans of 2^-32 s, stamps and shorts (RFC 5905, sections 6 and 7). Which way each
-- quotient is rounded is this project's own choice.
use Rattle.std.specs.Prelude.{◌-◌, ◌-ℤ◌, ℕ, zero, suc, ◌+◌, ◌*◌, ◌/◌, ◌^◌, ◌≤◌, ◌≤ℤ◌, min, nat_le, ℤ, pos, negsuc, neg_ℤ, unsigned_abs, if◌then◌else◌}
use Rattle.std.specs.Int.{div_ceil, int_div_euclid, int_rem_euclid}

-- the quotient by a number above 0, rounded down, and rounded up
abbrev pub floor_div : ℤ → ℕ → ℤ
floor_div z n = int_div_euclid z (pos n)

abbrev pub ceil_div : ℤ → ℕ → ℤ
ceil_div z n = neg_ℤ (floor_div (neg_ℤ z) n)

-- a number of microseconds in units of 2^-32 s, rounded down
abbrev pub local_span : ℕ → ℕ
local_span u = u * 2 ^ 32 / 10 ^ 6

-- 15 parts per million of a number of microseconds (PHI), in units of 2^-32 s, rounded up
abbrev pub phi : ℕ → ℕ
phi u = div_ceil (15 * u * 2 ^ 32) (10 ^ 12)

-- r is the square root of v, rounded down: of the numbers whose square is at most v it is the greatest
pub record IsRoot (v r : ℕ) : Type 0 where
  pub square : r * r ≤ v
  pub greatest : (q : ℕ) → q * q ≤ v → q ≤ r

-- that root, computed from the root of a quarter of v; `steps` is any number that is at least v
unfoldable pub root_within : ℕ → ℕ → ℕ
root_within zero v = 0
root_within (suc steps) zero = 0
root_within (suc steps) (suc v) = let half = root_within steps (suc v / 4) in if nat_le ((2 * half + 1) * (2 * half + 1)) (suc v) then 2 * half + 1 else 2 * half

unfoldable pub root : ℕ → ℕ
root v = root_within v v

-- the square of the difference of two spans, which counts as at most 2^40 units (256 s)
abbrev pub square : ℤ → ℤ → ℕ
square x y = min (unsigned_abs (x -ℤ y)) (2 ^ 40) * min (unsigned_abs (x -ℤ y)) (2 ^ 40)

-- the least short that is at least a span of this many units, at most the greatest short; a short has 65536 units
abbrev pub to_short : ℤ → ℕ
to_short (pos n) = min (div_ceil n 65536) (2 ^ 32 - 1)
to_short (negsuc n) = 0

-- a span since 1900 as a stamp of 64 bits, which wraps after each era of 2^32 s
abbrev pub stamp_of : ℤ → ℕ
stamp_of z = unsigned_abs (int_rem_euclid z (pos (2 ^ 64)))

-- the least dispersion of a source, 5 ms (MINDISP of RFC 5905, section 11), in units of 2^-32 s, rounded up
abbrev pub least_dispersion : ℕ
least_dispersion = 21474837

-- a rate is what a clock gains in a second, in units of 2^-32 s: at most 500 parts per million either way (MAXFREQ of RFC 5905,
-- appendix A.1.1)
abbrev pub most_rate : ℕ
most_rate = 2147483

pub record IsRate (rate : ℤ) : Type 0 where
  pub least : neg_ℤ (pos most_rate) ≤ℤ rate
  pub most : rate ≤ℤ pos most_rate
