-- The mean of the offsets by weight (RFC 5905, section 11.2.3). That a weight is a whole number is this project's own.
use Rattle.std.specs.Prelude.{ℕ, ◌/◌, ◌^◌, List, fold, sum_by, ℤ, pos, ◌+ℤ◌, ◌*ℤ◌, unsigned_abs}
use Rattle.tick_units.specs.Units.{floor_div}
use Rattle.cluster_core.specs.declared.survivor.Survivor.{Survivor}

-- the nearer a source, the more it weighs
abbrev pub weight : Survivor → ℕ
weight x = 2 ^ 62 / unsigned_abs x.distance

-- the sum of the offsets times their weights, by the sum of the weights, rounded down
abbrev pub mean : List Survivor → ℤ
mean survivors = floor_div (fold (λ sum x. sum +ℤ pos (weight x) *ℤ x.offset) (pos 0) survivors) (sum_by weight survivors)
