-- Scaffolding, which contracts use: the state of a marker, by the reductions that it has received.
use Rattle.std.specs.Prelude.{◌≡◌, true, List}
use Rattle.tick_units.specs.declared.marks.Plan.{Plan}
use Rattle.tick_units.specs.declared.marks.Reduction.{Reduction}
use Rattle.frame_rules.specs.Codes.{Code}
use Rattle.code_plans.specs.Codes.{code_of}
use Rattle.second_marks.specs.Held.{held_of}
use Rattle.second_marks.specs.declared.held.Held.{Held}
use Rattle.second_marks.specs.declared.marker.Marker.{Marker}

-- where each second has one reduction, nothing needs to be held back
abbrev pub HoldsBack : Code → Held → List Reduction → Type 0
HoldsBack code held reductions = code.has_parts ≡ true → held ≡ held_of code reductions

pub record HasReceived (marker : Marker) (plan : Plan) (reductions : List Reduction) : Type 0 where
  pub plan_is : marker.plan ≡ plan
  pub held : HoldsBack (code_of plan) marker.held reductions
