-- The symbols of a minute, one of which may be damaged.
use Rattle.std.proofs.Common.{◌≡◌, ℕ, zero, suc, List, [], ◌∷◌, refl, ap, take}
use Rattle.std.specs.Prelude.{set}

-- of a beginning of a list the same item is changed
pub prefix_set : {A : Type 0} (n : ℕ) (xs : List A) (i : ℕ) (x : A) → take n (set xs i x) ≡ set (take n xs) i x
prefix_set zero xs i x = refl
prefix_set (suc n) [] i x = refl
prefix_set (suc n) (y ∷ ys) zero x = refl
prefix_set (suc n) (y ∷ ys) (suc i) x = ap (λ l. y ∷ l) (prefix_set n ys i x)
