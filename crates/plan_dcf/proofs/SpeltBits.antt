-- What the bits of a spelling are worth, and that their parities are even.
use Rattle.std.proofs.Common.{◌≡◌, ℕ, ◌+◌, ◌*◌, ◌/◌, ◌%◌, ◌<◌, ◌==◌, false, refl, arith}
use Rattle.frame_rules.specs.Fields.{is_one}
use Rattle.frame_rules.proofs.HighBits.{Detects, worth, bit_worth}

detects_one : Detects is_one
detects_one = record { of_one = refl; of_zero = refl }

-- the lowest bit of a number
abbrev pub low : ℕ → ℕ
low n = worth is_one (n % 2)

low-mod : (n : ℕ) → low n ≡ n % 2
low-mod n = bit_worth is_one detects_one n

-- one digit
pub digit_worth : (n : ℕ) → n < 16 → 1 * low n + (2 * low (n / 2) + (4 * low (n / 2 / 2) + (8 * low (n / 2 / 2 / 2) + 0))) ≡ n
digit_worth n h = omega (arith, low-mod n, low-mod (n / 2), low-mod (n / 2 / 2), low-mod (n / 2 / 2 / 2))

-- three bits
pub three_worth : (n : ℕ) → n < 8 → 1 * low n + (2 * low (n / 2) + (4 * low (n / 2 / 2) + 0)) ≡ n
three_worth n h = omega (arith, low-mod n, low-mod (n / 2), low-mod (n / 2 / 2))

-- the digit of the tens, of this many bits
pub tens_worth_1 : (n : ℕ) → n < 2 → 10 * low n + 0 ≡ 10 * n
tens_worth_1 n h = omega (arith, low-mod n)

pub tens_worth_2 : (n : ℕ) → n < 4 → 10 * low n + (20 * low (n / 2) + 0) ≡ 10 * n
tens_worth_2 n h = omega (arith, low-mod n, low-mod (n / 2))

pub tens_worth_3 : (n : ℕ) → n < 8 → 10 * low n + (20 * low (n / 2) + (40 * low (n / 2 / 2) + 0)) ≡ 10 * n
tens_worth_3 n h = omega (arith, low-mod n, low-mod (n / 2), low-mod (n / 2 / 2))

pub tens_worth_4 : (n : ℕ) → n < 16 → 10 * low n + (20 * low (n / 2) + (40 * low (n / 2 / 2) + (80 * low (n / 2 / 2 / 2) + 0))) ≡ 10 * n
tens_worth_4 n h = omega (arith, low-mod n, low-mod (n / 2), low-mod (n / 2 / 2), low-mod (n / 2 / 2 / 2))

-- a count with its parity bit is even
pub even_with_parity : (count : ℕ) → ((count + low count) % 2 == 1) ≡ false
even_with_parity count =
    let e : (count + low count) % 2 ≡ 0 = omega (arith, low-mod count) in
    rw e refl
