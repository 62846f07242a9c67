-- Scaffolding: sums over survivors, from which the sum of the squared distances from each of them comes.
use Rattle.std.specs.Prelude.{◌≡◌, ℕ, ◌*◌, ◌^◌, ◌≤◌, List, All, length, sum_by, ℤ, ◌-ℤ◌, ◌≤ℤ◌, unsigned_abs}
use Rattle.cluster_core.specs.declared.survivor.Survivor.{Survivor}
use Rattle.cluster_core.specs.declared.spread.Sums.{Sums}

-- how far an offset is from a base
abbrev pub apart : ℤ → Survivor → ℕ
apart base x = unsigned_abs (x.offset -ℤ base)

-- no offset is below the base or more than 256 s above it; these are the sums of their distances from it and of the squares
pub record AreSums (s : Sums) (all : List Survivor) : Type 0 where
  pub above : All (λ x. s.base ≤ℤ x.offset) all
  pub near : All (λ x. apart s.base x ≤ 2 ^ 40) all
  pub sum : s.sum ≡ sum_by (apart s.base) all
  pub squares : s.squares ≡ sum_by (λ x. apart s.base x * apart s.base x) all
  pub sum_small : s.sum ≤ length all * 2 ^ 40
  pub squares_small : s.squares ≤ length all * 2 ^ 80
