-- What the search takes long to find of `combining::WeightedSum::with`: no step leaves 128 bits.
use Rattle.std.proofs.Common.{◌≡◌, ◌*◌, ◌≤◌, ◌^◌, arith, mul-le-mul, FitsSigned}
use Rattle.std.proofs.lemmas.Int.{to_z-of_z, fits_signed_mul, fits_signed_from_abs, unsigned_abs-mul, ints}
use Rattle.std.specs.Prelude.{ℤ, ◌+ℤ◌, ◌*ℤ◌, unsigned_abs}
use mir.Syntax.{w128}
use mir.Val.{to_z, of_z}
use Rattle.cluster_core.proofs.combining.WeightedSum.with.Goals as goal

with-kept : (u a b : ℤ) → unsigned_abs u ≤ 15 * 2 ^ 95 → unsigned_abs a ≤ 2 ^ 62 → unsigned_abs b ≤ 2 ^ 33
    → to_z w128 (of_z w128 (to_z w128 (of_z w128 u) +ℤ to_z w128 (of_z w128 (to_z w128 (of_z w128 a) *ℤ to_z w128 (of_z w128 b))))) ≡ u +ℤ a *ℤ b
with-kept u a b hu ha hb =
    let first = fits_signed_from_abs w128 u (omega arith) in
    let weight = fits_signed_from_abs w128 a (omega arith) in
    let span = fits_signed_from_abs w128 b (omega arith) in
    let product = fits_signed_mul w128 a b (2 ^ 62) (2 ^ 33) ha hb (omega arith) in
    let small : unsigned_abs (a *ℤ b) ≤ 2 ^ 95 = rw unsigned_abs-mul (mul-le-mul ha hb) in
    let sum : FitsSigned w128 (u +ℤ a *ℤ b) = fits_signed_from_abs w128 (u +ℤ a *ℤ b) (omega (arith, ints)) in
    simp to_z-of_z

pub returns : goal.returns
returns c =
    let u : unsigned_abs c.self.inside.units ≤ 15 * 2 ^ 95 = rw c.self.view_is c.requires.room in
    let a : unsigned_abs c.from.result ≤ 2 ^ 62 = rw c.from.ensures c.requires.weight in
    let b : unsigned_abs c.get.result ≤ 2 ^ 33 = rw c.get.ensures.value c.requires.span in
    cc (with-kept _ _ _ u a b)
