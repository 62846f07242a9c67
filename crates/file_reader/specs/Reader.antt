-- The state of a reader of a file, by the bytes that it has read since the file's start. All of it is this project's own.
use Rattle.std.specs.Prelude.{◌≡◌, ◌+◌, ◌-◌, ℕ, List, ◌++◌, length, take}
use Rattle.outside_traits.specs.States.{SourceState}
use Rattle.file_reader.specs.Ends.{HasReadPrefix, EndsReading}
use Rattle.file_reader.specs.declared.reader.FileReader.{FileReader}
use Rattle.file_reader.specs.declared.reader.Pulled.{Pulled}
use Rattle.file_reader.specs.declared.reader.Pulled.TheVariants.{Piece, Ended}

abbrev pub limit_of : FileReader → ℕ
limit_of reader = reader.limit

-- how many bytes more it may take
abbrev pub room_of : FileReader → ℕ
room_of reader = reader.limit - reader.taken

-- the piece that it read last
abbrev pub piece_of : FileReader → List ℕ
piece_of reader = take reader.count reader.piece

-- it has read these bytes of a file since its start
pub record HasPulled (reader : FileReader) (file file_now : SourceState) (bytes : List ℕ) : Type 0 where
  pub prefix : HasReadPrefix (limit_of reader) file file_now bytes
  pub counted : length bytes + room_of reader ≡ limit_of reader

-- what one more read gives of a file of which these bytes were read since its start: the piece after them, or the end
abbrev pub Gives : Pulled → FileReader → SourceState → SourceState → List ℕ → Type 0
Gives Piece reader file file_now bytes = HasPulled reader file file_now (bytes ++ piece_of reader)
Gives (Ended end) reader file file_now bytes = EndsReading end (limit_of reader) file file_now bytes
