-- Scaffolding: what a filter computes of its samples in advance.
use Rattle.std.specs.Prelude.{◌≡◌, ℕ, ◌≤◌, ◌^◌, nat_le, Option, List, IfSome, filter}
use Rattle.clock_filter.specs.Figures.{figures_of}
use Rattle.clock_filter.specs.declared.figures.Figures.{Figures}
use Rattle.clock_filter.specs.declared.taken.Taken.{Taken}

-- the figures of its last samples from a cut on
pub record IsKnown (cut : ℕ) (last : List Taken) (known : Option Figures) : Type 0 where
  pub value : known ≡ figures_of (filter (λ x. nat_le cut x.at) last)
  pub jitter : IfSome known (λ f. f.jitter2 ≤ 2 ^ 80)
