-- Runs of the machine: lists of steps, none of which is refused in the state after those before it. All of it is this project's
-- own.
use Rattle.std.specs.Prelude.{◌≡◌, ◌++◌, None, List, [], ◌∷◌, ⊤}
use Rattle.station_world.specs.Machine.{MayCome, Station, after, reason, refusal_of}
use Rattle.station_world.specs.declared.step.Step.{Step}
use Rattle.station_world.specs.declared.step.StepRefusal.{StepRefusal}

-- the state after all of these steps
abbrev pub after_all : Station → List Step → Station
after_all s [] = s
after_all s (x ∷ xs) = after_all (after s x) xs

-- none of them is refused
abbrev pub AreTaken : Station → List Step → Type 0
AreTaken s [] = ⊤
AreTaken s (x ∷ xs) = (refusal_of s x ≡ None) × AreTaken (after s x) xs

-- the steps before one were taken, and that one is refused for this reason, or memory was short
pub record StopsAt (s : Station) (steps : List Step) (refusal : StepRefusal) (t : Station) : Type 0 where
  pub prefix : List Step
  pub stop : Step
  pub rest : List Step
  pub steps_are : steps ≡ prefix ++ stop ∷ rest
  pub taken : AreTaken s prefix
  pub state : t ≡ after_all s prefix
  pub refused : refusal_of t stop ≡ reason refusal

-- each step may come in the state after those before it, while none of them is refused
abbrev pub MayRun : Station → List Step → Type 0
MayRun s [] = ⊤
MayRun s (x ∷ xs) = MayCome s x × (refusal_of s x ≡ None → MayRun (after s x) xs)
