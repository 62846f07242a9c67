-- Scaffolding: the survivors among this many sources.
use Rattle.std.specs.Prelude.{◌≡◌, ℕ, ◌≤◌, Some, List, All, length}
use Rattle.tick_units.specs.Samples.{IsLength}
use Rattle.cluster_core.specs.Bounds.{IsWeighable}
use Rattle.cluster_core.specs.declared.survivor.Survivor.{Survivor}
use Rattle.select_core.specs.declared.chime.Chime.{Chime}
use Rattle.system_fold.specs.Selecting.{survivors_in}
use Rattle.system_fold.specs.declared.source.Source.{Source}

-- an offset is no longer than that of a valid sample
abbrev pub IsLong : Survivor → Type 0
IsLong x = IsLength x.offset

pub record AreSurvivors (chime : Chime) (now : ℕ) (seen : List Source) (survivors : List Survivor) : Type 0 where
  pub value : survivors ≡ survivors_in (Some chime) now seen
  pub measured : All IsWeighable survivors
  pub few : length survivors ≤ length seen
