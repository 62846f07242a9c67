-- What the tests of the rules mean, and what it says that a second was found or wasn't.
use Rattle.std.proofs.Common.{◌≡◌, ℕ, ◌≤◌, Bool, true, false, ◌&&◌, ◌==◌, not, Some, None, refl, arith}
use Rattle.std.proofs.lemmas.Bool.Decides.{nat_tests}
use Rattle.std.specs.Prelude.{if◌then◌else◌}
use Rattle.frame_rules.specs.Rules.{is_out_of}

pub found_is : (test : Bool) (wanted found : ℕ) → Some found ≡ (if test then Some wanted else None) → (test ≡ true) × (found ≡ wanted)
found_is true wanted found e = (refl, cc)
found_is false wanted found e = absurd (cc)

pub none_is : (test : Bool) (wanted : ℕ) → None ≡ (if test then Some wanted else None) → test ≡ false
none_is true wanted e = absurd (cc)
none_is false wanted e = refl

pub both_true : (a b : Bool) → (a && b) ≡ true → (a ≡ true) × (b ≡ true)
both_true true b e = (refl, e)
both_true false b e = absurd (cc)

pub true_from_not : (b : Bool) → (true && not b) ≡ false → b ≡ true
true_from_not true e = refl
true_from_not false e = absurd (cc)

pub is_out_of-false : (least most ones number : ℕ) → is_out_of least most ones number ≡ false → (least ≤ number) × (number ≤ most)
is_out_of-false least most ones number e = (grind (arith, nat_tests), grind (arith, nat_tests))

-- the other way round
pub is_out_of-within : (least most ones number : ℕ) → ones ≤ 9 → least ≤ number → number ≤ most → is_out_of least most ones number ≡ false
is_out_of-within least most ones number one low high = grind (arith, nat_tests)

pub and_false : (b : Bool) → (b && false) ≡ false
and_false true = refl
and_false false = refl

pub test_true : (a b : ℕ) → a ≡ b → (a == b) ≡ true
test_true a b e = grind (arith, nat_tests)

pub test_false : (a b : ℕ) → ¬ (a ≡ b) → (a == b) ≡ false
test_false a b h = grind (arith, nat_tests)
