-- A station file that is read whole, and why its station can't be used: a fault of the file or of its text, or no memory. All of it
-- is this project's own.
use Rattle.std.specs.Prelude.{◌≡◌, ℕ, ◌⊎◌, ◌^◌, IsSome, Some, None, List, [], ◌∷◌, ◌++◌, codes, decimal}
use Rattle.outside_traits.specs.States.{SourceState}
use Rattle.outside_traits.specs.Openings.{Wanted, MakesOpenings, log_visit}
use Rattle.file_reader.specs.Ends.{EndsReading}
use Rattle.file_reader.specs.declared.reader.FileEnd.{FileEnd}
use Rattle.file_reader.specs.declared.reader.FileEnd.TheVariants as file
use Rattle.station_reader.specs.Faults.{Says, Refuses as RefusesStation}
use Rattle.station_values.specs.Station.{StationFields}
use Rattle.station_reader.specs.declared.fault.StationFault.{StationFault}
use Rattle.station_reader.specs.declared.fault.StationFault.TheVariants as fault
use Rattle.command_ends.specs.Effects.{Effect, EndsWith}
use Rattle.command_ends.specs.Endings.{status_of, status_line}
use Rattle.command_ends.specs.declared.ending.Ending.TheVariants.{NotRead, NoMemory, Long}
use Rattle.command_ends.specs.declared.ending.status.Status.{Status}
use Rattle.command_ends.specs.declared.ending.status.Status.TheVariants as status
use Rattle.command_ends.specs.declared.ending.subject.Subject.TheVariants.{Station}
use Rattle.command_ends.specs.declared.station_file.obstacle.Obstacle.{Obstacle}
use Rattle.command_ends.specs.declared.station_file.obstacle.Obstacle.TheVariants.{Ends, Faulty}

-- a station file has at most 2^16 bytes
abbrev pub most_of_a_station : ℕ
most_of_a_station = 2 ^ 16

-- the status line of a station with a fault
abbrev pub many_line : List ℕ → ℕ → List ℕ
many_line key count = codes "status 3 station many " ++ (key ++ (codes " " ++ decimal count ++ codes "\n"))

abbrev pub station_line : StationFault → List ℕ
station_line fault.NotToml = codes "status 3 station toml\n"
station_line (fault.UnknownKey key) = codes "status 3 station unknown " ++ (key ++ codes "\n")
station_line (fault.Missing key) = codes "status 3 station missing " ++ (key ++ codes "\n")
station_line (fault.Range key) = codes "status 3 station range " ++ (key ++ codes "\n")
station_line (fault.TooMany key count) = many_line key count
station_line fault.Memory = []

-- a fault that a status line names
abbrev pub IsNamed : StationFault → Type 0
IsNamed fault.Memory = ⊥
IsNamed _ = Unit {0}

-- an obstacle that a status line reports
abbrev pub HasStatusLine : Obstacle → Type 0
HasStatusLine (Ends ending) = Unit {0}
HasStatusLine (Faulty fault) = IsNamed fault

abbrev pub status_at : Obstacle → Status
status_at (Ends ending) = status_of ending
status_at (Faulty fault) = status.Station

abbrev pub line_at : Obstacle → List ℕ
line_at (Ends ending) = status_line ending
line_at (Faulty fault) = station_line fault

-- what keeps the station of a file from being used whose bytes were read so far: a read that failed, bytes past the limit, or a
-- fault of the text. Or there was not enough memory, which may be answered whenever the file was read
abbrev pub IsObstacle : FileEnd → List ℕ → Obstacle → Type 0
IsObstacle file.Fault bytes obstacle = obstacle ≡ Ends (NotRead Station)
IsObstacle file.TooLong bytes obstacle = obstacle ≡ Ends (Long Station)
IsObstacle file.Whole bytes obstacle = (obstacle ≡ Ends NoMemory) ⊎ ((fault : StationFault) × (obstacle ≡ Faulty fault) × IsNamed fault × RefusesStation bytes fault)

-- an obstacle kept the station from being used: nothing more is opened, and only the status line is written
pub record EndsAtStation (needed : List Wanted) (name : List ℕ) (effect : Effect) : Type 0 where
  pub opened : SourceState
  pub back : SourceState
  pub opens : MakesOpenings needed effect.outside effect.outside_now (log_visit name opened back ∷ []) None
  pub end : FileEnd
  pub bytes : List ℕ
  pub read : EndsReading end most_of_a_station opened back bytes
  pub due : Obstacle
  pub cause : IsObstacle end bytes due
  pub written : EndsWith effect (status_at due) (line_at due)

-- the station file was read to its end, and this is the station that it says
pub record HasStation (opened back : SourceState) (of : StationFields) : Type 0 where
  pub bytes : List ℕ
  pub read : EndsReading file.Whole most_of_a_station opened back bytes
  pub says : Says bytes of

-- a file that says a station, and that reported its bytes before and after
pub record IsStation (of : StationFields) (opened back : SourceState) : Type 0 where
  pub text : List ℕ
  pub reported : opened.left ≡ Some text
  pub reports : IsSome back.left
  pub says : Says text of
