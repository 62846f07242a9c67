-- What the bits of a spelling are worth that has the highest first.
use Rattle.std.proofs.Common.{◌≡◌, ℕ, zero, suc, ◌+◌, ◌*◌, ◌/◌, ◌%◌, ◌<◌, ◌==◌, Bool, true, false, refl, arith}
use Rattle.std.specs.Prelude.{if◌then◌else◌}
use Rattle.frame_rules.specs.Digits.{bit_symbol}
use Rattle.tick_units.specs.declared.marks.Symbol.{Symbol}
use Rattle.tick_units.specs.declared.marks.Symbol.TheVariants.{Zero, One}

-- a bit that distinguishes One from Zero
pub record Detects (bit : Symbol → Bool) : Type 0 where
  pub of_one : bit One ≡ true
  pub of_zero : bit Zero ≡ false

abbrev pub worth : (Symbol → Bool) → ℕ → ℕ
worth bit n = if bit (bit_symbol (n == 1)) then 1 else 0

worth_small : (bit : Symbol → Bool) → Detects bit → (n : ℕ) → n < 2 → worth bit n ≡ n
worth_small bit detects zero h = rw detects.of_zero refl
worth_small bit detects (suc zero) h = rw detects.of_one refl
worth_small bit detects (suc (suc n)) h = absurd (omega arith)

pub bit_worth : (bit : Symbol → Bool) → Detects bit → (n : ℕ) → worth bit (n % 2) ≡ n % 2
bit_worth bit detects n = worth_small bit detects (n % 2) (omega arith)

-- three bits
pub three_worth : (bit : Symbol → Bool) → Detects bit → (n : ℕ) → n < 8 → 4 * worth bit (n / 4 % 2) + (2 * worth bit (n / 2 % 2) + (1 * worth bit (n / 1 % 2) + 0)) ≡ n
three_worth bit detects n h = omega (arith, bit_worth bit detects (n / 4), bit_worth bit detects (n / 2), bit_worth bit detects (n / 1))

-- one digit
pub digit_worth : (bit : Symbol → Bool) → Detects bit → (n : ℕ) → n < 16 → 8 * worth bit (n / 8 % 2) + (4 * worth bit (n / 4 % 2) + (2 * worth bit (n / 2 % 2) + (1 * worth bit (n / 1 % 2) + 0))) ≡ n
digit_worth bit detects n h = omega (arith, bit_worth bit detects (n / 8), bit_worth bit detects (n / 4), bit_worth bit detects (n / 2), bit_worth bit detects (n / 1))

-- the digit of the tens, of this many bits
pub tens_worth_1 : (bit : Symbol → Bool) → Detects bit → (n : ℕ) → n < 2 → 10 * worth bit (n / 1 % 2) + 0 ≡ 10 * n
tens_worth_1 bit detects n h = omega (arith, bit_worth bit detects (n / 1))

pub tens_worth_2 : (bit : Symbol → Bool) → Detects bit → (n : ℕ) → n < 4 → 20 * worth bit (n / 2 % 2) + (10 * worth bit (n / 1 % 2) + 0) ≡ 10 * n
tens_worth_2 bit detects n h = omega (arith, bit_worth bit detects (n / 2), bit_worth bit detects (n / 1))

pub tens_worth_3 : (bit : Symbol → Bool) → Detects bit → (n : ℕ) → n < 8 → 40 * worth bit (n / 4 % 2) + (20 * worth bit (n / 2 % 2) + (10 * worth bit (n / 1 % 2) + 0)) ≡ 10 * n
tens_worth_3 bit detects n h = omega (arith, bit_worth bit detects (n / 4), bit_worth bit detects (n / 2), bit_worth bit detects (n / 1))

pub tens_worth_4 : (bit : Symbol → Bool) → Detects bit → (n : ℕ) → n < 16 → 80 * worth bit (n / 8 % 2) + (40 * worth bit (n / 4 % 2) + (20 * worth bit (n / 2 % 2) + (10 * worth bit (n / 1 % 2) + 0))) ≡ 10 * n
tens_worth_4 bit detects n h = omega (arith, bit_worth bit detects (n / 8), bit_worth bit detects (n / 4), bit_worth bit detects (n / 2), bit_worth bit detects (n / 1))
