-- What holds of the figures of any samples, and of valid ones (no part of them is negative, or as long as 2^34 s).
use Rattle.std.specs.Prelude.{ℕ, ◌^◌, ◌≤◌, List, All, pos, ◌≤ℤ◌}
use Rattle.tick_units.specs.Samples.{IsValid, IsLength}
use Rattle.tick_units.specs.Units.{IsRate}
use Rattle.clock_filter.specs.declared.figures.Figures.{Figures}
use Rattle.clock_filter.specs.declared.taken.Taken.{Taken}

-- the moments of the held samples, none of which is from before `cut`
pub record IsTimely (cut : ℕ) (f : Figures) : Type 0 where
  pub from_cut : cut ≤ f.taken_at
  pub newest : f.taken_at ≤ f.newest

abbrev pub AreValid : List Taken → Type 0
AreValid samples = All (λ x. IsValid x.sample) samples

-- the figures of valid samples
pub record IsMeasured (f : Figures) : Type 0 where
  pub offset : IsLength f.offset
  pub delay : IsLength f.delay
  pub least : pos 0 ≤ℤ f.dispersion
  pub most : f.dispersion ≤ℤ pos (2 ^ 36)
  pub rate : IsRate f.rate
