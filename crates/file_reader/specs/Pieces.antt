-- Scaffolding: the state of a taker to which the pieces of a file were handed. It has taken them all, or has stopped in one.
use Rattle.std.specs.Prelude.{ℕ, List, Result, Ok, Err}
use Rattle.outside_traits.specs.States.{SourceState}
use Rattle.file_reader.specs.Ends.{HasReadPrefix, EndsReading}
use Rattle.file_reader.specs.declared.reader.FileEnd.{FileEnd}

-- all of these bytes were taken, or it has stopped in the last piece of them
abbrev pub TakesOrStops : {T E : Type 0} → (List ℕ → Type 0) → (E → List ℕ → Type 0) → List ℕ → Result T E → Type 0
TakesOrStops taken stopped bytes (Ok all) = taken bytes
TakesOrStops taken stopped bytes (Err why) = stopped why bytes

-- the reading ended, and all bytes read were taken; or the taker stopped, in the last piece that was read
abbrev pub EndsPieces : {E : Type 0} → (List ℕ → Type 0) → (E → List ℕ → Type 0) → ℕ → SourceState → SourceState → Result FileEnd E → Type 0
EndsPieces taken stopped limit file file_now (Ok end) = (bytes : List ℕ) × EndsReading end limit file file_now bytes × taken bytes
EndsPieces taken stopped limit file file_now (Err why) = (bytes : List ℕ) × HasReadPrefix limit file file_now bytes × stopped why bytes
