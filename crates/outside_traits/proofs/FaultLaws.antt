-- Counts of faults over several calls.
use Rattle.std.proofs.Common.{ℕ, ◌≤◌, arith}
use Rattle.outside_traits.specs.Faults.{Rose, RoseByOne}

-- one call is a run
pub Rose-one : (before now : ℕ) → RoseByOne before now → Rose before now
Rose-one before now rose = omega (arith, rose)

-- a run with more calls after it, or before it
pub Rose-later : (before mid now : ℕ) → Rose before mid → mid ≤ now → Rose before now
Rose-later before mid now rose le = omega (arith, rose, le)

pub Rose-before : (before mid now : ℕ) → before ≤ mid → Rose mid now → Rose before now
Rose-before before mid now le rose = omega (arith, rose, le)
