-- The square root rounded down: there is one, and `root` is it.
use Rattle.std.proofs.Common.{◌≡◌, ℕ, zero, suc, ◌+◌, ◌*◌, ◌/◌, ◌<◌, ◌≤◌, ◌⊎◌, inl, inr, Bool, true, false, refl, arith, mul-le-mul}
use Rattle.std.specs.Prelude.{nat_le, cond}
use Rattle.std.proofs.lemmas.Bool.{leb-true, cases_lt}
use Rattle.std.proofs.lemmas.Bool.Decides.{nat_tests}
use Rattle.tick_units.specs.Units.{IsRoot, root, root_within}

-- between the square of the root and the next square
record Between (v r : ℕ) : Type 0 where
  square : r * r ≤ v
  next : v < (r + 1) * (r + 1)

greatest_from : (v r q : ℕ) → v < (r + 1) * (r + 1) → q * q ≤ v → q ≤ r
greatest_from v r q next square = by_order (cases_lt r q)
  where
    by_order : (r < q) ⊎ (q ≤ r) → q ≤ r
    by_order (inl above) = let least : r + 1 ≤ q = omega arith in let squares : (r + 1) * (r + 1) ≤ q * q = mul-le-mul least least in absurd (omega arith)
    by_order (inr below) = below

root_within-between : (steps v : ℕ) → v ≤ steps → Between v (root_within steps v)
unfolding root_within
root_within-between zero v within = record { square = omega arith; next = omega arith }
root_within-between (suc steps) zero within = record { square = omega arith; next = omega arith }
root_within-between (suc steps) (suc v) within = by_test (root_within steps (suc v / 4)) (root_within-between steps (suc v / 4) (omega arith)) (nat_le ((2 * root_within steps (suc v / 4) + 1) * (2 * root_within steps (suc v / 4) + 1)) (suc v)) refl
  where
    by_test : (half : ℕ) → Between (suc v / 4) half → (b : Bool) → nat_le ((2 * half + 1) * (2 * half + 1)) (suc v) ≡ b → Between (suc v) (cond b (2 * half + 1) (2 * half))
    by_test half h true test =
        let fits : (2 * half + 1) * (2 * half + 1) ≤ suc v = leb-true _ _ test in
        let next : suc v / 4 < (half + 1) * (half + 1) = h.next in
        record { square = fits; next = omega arith }
    by_test half h false test =
        let above : suc v < (2 * half + 1) * (2 * half + 1) = grind (arith, nat_tests) in
        let square : half * half ≤ suc v / 4 = h.square in
        record { square = omega arith; next = above }

pub root-is : (v : ℕ) → IsRoot v (root v)
unfolding root
root-is v = let h = root_within-between v v (omega arith) in record { square = h.square; greatest = λ q square. greatest_from v (root_within v v) q h.next square }

pub root-unique : (v q r : ℕ) → IsRoot v q → IsRoot v r → q ≡ r
root-unique v q r hq hr = let a : q ≤ r = hr.greatest q hq.square in let b : r ≤ q = hq.greatest r hr.square in omega arith

-- the root from the two squares that a search by steps ends between
pub root_from : (v r : ℕ) → r * r ≤ v → v < (r + 1) * (r + 1) → r ≡ root v
root_from v r square next = root-unique v r (root v) (record { square = square; greatest = λ q least. greatest_from v r q next least }) (root-is v)
