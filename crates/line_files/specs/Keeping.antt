-- Scaffolding: what private functions guarantee of one opening of a file of lines.
use Rattle.std.specs.Prelude.{ℕ, ◌⊎◌, None, List, [], ◌∷◌}
use Rattle.outside_traits.specs.States.{SourceState}
use Rattle.outside_traits.specs.Openings.{MakesOpenings, log_visit}
use Rattle.outside_traits.specs.Openings.Wanted.{LogOf}
use Rattle.command_ends.specs.Effects.{Effect}
use Rattle.line_files.specs.LineFiles.{LineFile, RunsThrough}
use Rattle.command_ends.specs.Opening.{CannotOpen}
use Rattle.command_ends.specs.declared.ending.subject.Subject.{Subject}

-- a file of lines was opened once, run through and given back
pub record RunsFile (f : LineFile) (name : List ℕ) (effect : Effect) : Type 0 where
  pub opened : SourceState
  pub back : SourceState
  pub opens : MakesOpenings (LogOf name ∷ []) effect.outside effect.outside_now (log_visit name opened back ∷ []) None
  pub runs : RunsThrough f opened back effect.out effect.out_now effect.status

-- or it could not be opened
abbrev pub TriesFile : Subject → LineFile → List ℕ → Effect → Type 0
TriesFile what f name effect = CannotOpen (LogOf name ∷ []) [] (LogOf name) what effect ⊎ RunsFile f name effect
