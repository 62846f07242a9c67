-- Links in their places.
use Rattle.std.proofs.Common.{◌≡◌, ℕ, zero, suc, ◌≤◌, Some, None, List, [], ◌∷◌, length, set, refl, sym, ap, arith}
use Rattle.std.specs.Prelude.{slice_get}

-- nothing changes where what stands there is put there
pub set_same : {X : Type 0} (xs : List X) (place : ℕ) (x : X) → slice_get xs place ≡ Some x → set xs place x ≡ xs
set_same [] place x there = refl
set_same (y ∷ xs) zero x there = let same : y ≡ x = cc in ap (λ z. z ∷ xs) (sym same)
set_same (y ∷ xs) (suc place) x there = ap (λ rest. y ∷ rest) (set_same xs place x there)

-- nothing stands after the last place
pub past_all : {X : Type 0} (xs : List X) (place : ℕ) → length xs ≤ place → slice_get xs place ≡ None
past_all [] place le = refl
past_all (y ∷ xs) zero le = absurd (omega (arith, le))
past_all (y ∷ xs) (suc place) le = past_all xs place (omega (arith, le))
