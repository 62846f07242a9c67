-- Scaffolding: one sample more, if there is one.
use Rattle.std.specs.Prelude.{Option, None, Some, List, [], ◌∷◌, ◌++◌}
use Rattle.clock_filter.specs.declared.taken.Taken.{Taken}

abbrev pub with_sample : List Taken → Option Taken → List Taken
with_sample samples None = samples
with_sample samples (Some taken) = samples ++ taken ∷ []
