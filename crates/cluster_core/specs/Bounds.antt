-- What holds of sources that a majority agrees with: a distance of at most 1 s, and offsets within two seconds of each other. A
-- jitter is a mean of squares, each of which counts as at most 2^80.
use Rattle.std.specs.Prelude.{◌^◌, ◌<◌, ◌≤◌, List, All, ℤ, pos, ◌-ℤ◌, ◌≤ℤ◌, unsigned_abs}
use Rattle.cluster_core.specs.declared.survivor.Survivor.{Survivor}

pub record IsWeighable (x : Survivor) : Type 0 where
  pub least : pos 1 ≤ℤ x.distance
  pub most : x.distance ≤ℤ pos (2 ^ 32)
  pub jitter : x.jitter2 < 2 ^ 84

-- the offsets lie within 2 s
pub record AreNear (all : List Survivor) : Type 0 where
  pub low : ℤ
  pub high : ℤ
  pub apart : unsigned_abs (high -ℤ low) ≤ 2 ^ 33
  pub from : All (λ x. low ≤ℤ x.offset) all
  pub upto : All (λ x. x.offset ≤ℤ high) all
