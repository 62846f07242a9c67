-- What holds of every sample of the time (RFC 5905, section 8): no part of it is negative, or as long as 2^34 s.
use Rattle.std.specs.Prelude.{◌^◌, ℤ, pos, ◌≤ℤ◌, ◌<ℤ◌}
use Rattle.tick_units.specs.declared.sample.Sample.{Sample}

-- from 0 on, and below 2^66 units
pub record IsLength (span : ℤ) : Type 0 where
  pub least : pos 0 ≤ℤ span
  pub below : span <ℤ pos (2 ^ 66)

pub record IsValid (s : Sample) : Type 0 where
  pub offset : IsLength s.offset
  pub delay : IsLength s.delay
  pub dispersion : IsLength s.dispersion
