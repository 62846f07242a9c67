-- Being come to sooner, from either side, is an order on the points.
use Rattle.std.proofs.Common.{◌≡◌, true, false, ℤ, arith}
use Rattle.std.proofs.lemmas.Int.{ints}
use Rattle.select_core.specs.Ends.{is_sooner}
use Rattle.select_core.specs.declared.ends.Side.{Side}
use Rattle.select_core.specs.declared.ends.Side.TheVariants.{Lower, Upper}

pub sooner-never : (from : Side) (x : ℤ) → is_sooner from x x ≡ false
sooner-never Lower x = grind (arith, ints)
sooner-never Upper x = grind (arith, ints)

pub sooner-same : (from : Side) (x y : ℤ) → is_sooner from x y ≡ false → is_sooner from y x ≡ false → x ≡ y
sooner-same Lower x y h k = grind (arith, ints)
sooner-same Upper x y h k = grind (arith, ints)

pub sooner-one_way : (from : Side) (x y : ℤ) → is_sooner from x y ≡ true → is_sooner from y x ≡ false
sooner-one_way Lower x y h = grind (arith, ints)
sooner-one_way Upper x y h = grind (arith, ints)

pub sooner-chain : (from : Side) (x y z : ℤ) → is_sooner from x y ≡ false → is_sooner from y z ≡ false → is_sooner from x z ≡ false
sooner-chain Lower x y z h k = grind (arith, ints)
sooner-chain Upper x y z h k = grind (arith, ints)

-- no later than what is sooner, and sooner than what is no sooner
pub sooner-from-prefix : (from : Side) (x y z : ℤ) → is_sooner from y x ≡ false → is_sooner from y z ≡ true → is_sooner from x z ≡ true
sooner-from-prefix Lower x y z h k = grind (arith, ints)
sooner-from-prefix Upper x y z h k = grind (arith, ints)

pub sooner-to-following : (from : Side) (x y z : ℤ) → is_sooner from x y ≡ true → is_sooner from z y ≡ false → is_sooner from x z ≡ true
sooner-to-following Lower x y z h k = grind (arith, ints)
sooner-to-following Upper x y z h k = grind (arith, ints)
