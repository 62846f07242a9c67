-- Scaffolding: what private functions guarantee of the opening of a station file.
use Rattle.std.specs.Prelude.{ℕ, None, Some, List, [], ◌∷◌, Result, MatchResult}
use Rattle.outside_traits.specs.States.{SourceState}
use Rattle.outside_traits.specs.Openings.{OutsideState, MakesOpenings, log_visit}
use Rattle.outside_traits.specs.Openings.Wanted.{LogOf}
use Rattle.file_reader.specs.Ends.{EndsReading}
use Rattle.file_reader.specs.declared.reader.FileEnd.{FileEnd}
use Rattle.command_ends.specs.StationFile.{most_of_a_station}

-- the station file was opened once, read and given back
pub record OpensStation (name : List ℕ) (outside outside_now : OutsideState) (end : FileEnd) (bytes : List ℕ) : Type 0 where
  pub opened : SourceState
  pub back : SourceState
  pub opens : MakesOpenings (LogOf name ∷ []) outside outside_now (log_visit name opened back ∷ []) None
  pub read : EndsReading end most_of_a_station opened back bytes

-- or it could not be opened
abbrev pub TriesStation : {E : Type 0} → List ℕ → OutsideState → OutsideState → List ℕ → Result FileEnd E → Type 0
TriesStation name outside outside_now bytes result = MatchResult result
    (λ end. OpensStation name outside outside_now end bytes)
    (λ _. MakesOpenings (LogOf name ∷ []) outside outside_now [] (Some (LogOf name)))
